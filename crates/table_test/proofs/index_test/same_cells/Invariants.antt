use mathlib.Core.Bool.{◌&&◌}
use mathlib.Core.Path.{◌≡◌}
use lib.ListN.{drop}
use Rattle.tables.specs.Lists.{same_list}
use Rattle.table_test.proofs.index_test.same_cells.Given as goal

-- the cells before j are the same, and those from j on are, where all are
abbrev pub invariant-loop-j : goal.invariant-loop-j
invariant-loop-j l = l.same && same_list (drop l.j l.s) (drop l.j l.t) ≡ same_list l.s l.t
