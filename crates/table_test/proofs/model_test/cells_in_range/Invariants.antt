use mathlib.Core.Bool.{◌&&◌}
use mathlib.Core.Path.{◌≡◌}
use lib.ListN.{drop}
use Rattle.tables.specs.Lists.{all_of}
use Rattle.table_test.specs.ModelTest.{cell_in_range}
use Rattle.table_test.proofs.model_test.cells_in_range.Given as goal

-- the cells so far are in range, and those left are, where all are
abbrev pub invariant-loop-c : goal.invariant-loop-c
invariant-loop-c l = (l.all && all_of (cell_in_range l.n l.texts) (drop l.c-index l.s)) ≡ all_of (cell_in_range l.n l.texts) l.s
