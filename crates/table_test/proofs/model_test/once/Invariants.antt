use Rattle.table_test.proofs.Laws.Scans.{Marked}
use Rattle.table_test.proofs.model_test.once.Given as goal

-- the elements from j on are marked, no other is, and none stands there twice
abbrev pub invariant-loop-j : goal.invariant-loop-j
invariant-loop-j l = Marked l.list l.marks l.mark l.j
