use mathlib.Core.Bool.{◌&&◌}
use mathlib.Core.Path.{◌≡◌}
use lib.Dec.{eqb}
use Rattle.tables.specs.Lists.{all_of}
use Rattle.table_test.specs.ModelTest.{is_zero}
use Rattle.table_test.proofs.Laws.Scans.{behind_blocks}
use Rattle.table_test.proofs.scan.all_zero.Given as goal

-- the cells so far are zero, and those left are, where all are; the rest is what is left behind the last whole block
abbrev pub invariant-loop-block : goal.invariant-loop-block
invariant-loop-block l =
    ((eqb l.any 0 && all_of is_zero l.block-iterator.rest.now) ≡ all_of is_zero l.s)
    × (l.block-iterator.size ≡ 16)
    × (l.rest ≡ behind_blocks l.block-iterator.rest.now)
