use mathlib.Core.Bool.{◌&&◌}
use mathlib.Core.Path.{◌≡◌}
use lib.ListN.{drop}
use Rattle.tables.specs.Lists.{all_of}
use Rattle.table_test.specs.ModelTest.{at_most}
use Rattle.table_test.proofs.scan.all_at_most.Given as goal

-- the cells so far are at most n, and those left are, where all are
abbrev pub invariant-loop-x : goal.invariant-loop-x
invariant-loop-x l = (l.all && all_of (at_most l.n) (drop l.x-index l.s)) ≡ all_of (at_most l.n) l.s
