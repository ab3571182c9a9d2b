use Rattle.tables.specs.SetCells.{set_is}
use Rattle.level.proofs.Laws.Restrictions.{RestrictsLeft}
use Rattle.level.proofs.level.restrict_elements.Given as goal

-- the rows before i are done: those from i on do to the tables what is left of the whole
abbrev pub invariant-loop-i : goal.invariant-loop-i
invariant-loop-i l = RestrictsLeft l.work l.na (set_is l.files) l.initial.model l.initial.log l.model l.log l.i
