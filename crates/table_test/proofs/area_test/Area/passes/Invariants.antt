use Rattle.table_test.proofs.Laws.AreaTest.{RowsLeft}
use Rattle.table_test.proofs.area_test.Area.passes.Given as goal

-- each row before row i passes
abbrev pub invariant-loop-i : goal.invariant-loop-i
invariant-loop-i l = RowsLeft l.self l.area l.n l.w l.i
