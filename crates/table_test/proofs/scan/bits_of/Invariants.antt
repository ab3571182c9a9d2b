use mathlib.Core.Bool.{◌&&◌}
use mathlib.Core.Path.{◌≡◌}
use lib.Dec.{eqb}
use lib.ListN.{drop}
use Rattle.tables.specs.Lists.{all_of}
use Rattle.table_test.specs.ModelTest.{is_zero}
use Rattle.table_test.proofs.scan.bits_of.Given as goal

-- the cells so far are zero, and those left are, where all are
abbrev pub invariant-loop-x : goal.invariant-loop-x
invariant-loop-x l = (eqb l.any 0 && all_of is_zero (drop l.x-index l.s)) ≡ all_of is_zero l.s
