use Rattle.tables.specs.ModelTable.{model_of}
use Rattle.tables.specs.Records.{list_of}
use Rattle.merge_log.proofs.Laws.Places.{Searching}
use Rattle.merge_log.proofs.log.place_of.Given as goal

-- no place before i has the element
abbrev pub invariant-loop-i : goal.invariant-loop-i
invariant-loop-i l = Searching l.e.0 (list_of (model_of l.model) l.p.0) l.i
