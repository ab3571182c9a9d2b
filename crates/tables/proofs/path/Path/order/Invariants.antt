use mathlib.Core.Path.{◌≡◌}
use lib.ListN.{drop}
use Rattle.tables.specs.Paths.{path_order, front, cells_of, parts_of}
use Rattle.tables.proofs.path.Path.order.Given as goal

abbrev pub invariant-loop-i : goal.invariant-loop-i
invariant-loop-i l = path_order (parts_of l.self) (parts_of l.q) ≡ path_order (front (drop l.i (cells_of l.self))) (front (drop l.i (cells_of l.q)))
