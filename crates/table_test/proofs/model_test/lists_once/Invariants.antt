use Rattle.table_test.proofs.Laws.ModelTest.{OnceLeft}
use Rattle.table_test.proofs.model_test.lists_once.Given as goal

-- the lists from e on have no element twice where no list has; no mark is more than e
abbrev pub invariant-loop-e : goal.invariant-loop-e
invariant-loop-e l = OnceLeft l.t l.marks l.e
