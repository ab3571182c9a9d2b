use Rattle.imports.proofs.Laws.Together.{RunLeft}
use Rattle.imports.proofs.import.import_run.Given as goal

-- j places of the run are filled
abbrev pub invariant-loop-j : goal.invariant-loop-j
invariant-loop-j l =
    RunLeft l.schema l.elements l.work l.rows.first l.i l.f.0 l.v l.r l.initial.model l.initial.log l.model l.log l.j
