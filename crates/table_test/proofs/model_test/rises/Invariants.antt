use mathlib.Core.Bool.{◌&&◌}
use mathlib.Core.Path.{◌≡◌}
use lib.ListN.{drop}
use Rattle.table_test.specs.ModelTest.{rising}
use Rattle.table_test.proofs.model_test.rises.Given as goal

-- the entries so far rise to the last, and those left rise from it, where all rise
abbrev pub invariant-loop-x : goal.invariant-loop-x
invariant-loop-x l = (l.all && rising l.last (drop l.x-index l.s)) ≡ rising 0 l.s
