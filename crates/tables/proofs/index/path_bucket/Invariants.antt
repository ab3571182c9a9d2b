use mathlib.Core.Path.{◌≡◌}
use lib.ListN.{drop}
use Rattle.tables.specs.Index.{path_bucket}
use Rattle.tables.specs.Paths.{front, cells_of, parts_of}
use Rattle.tables.proofs.index.path_bucket.Given as goal

abbrev pub invariant-loop-i : goal.invariant-loop-i
invariant-loop-i l = path_bucket l.k (front (drop l.i (cells_of l.p))) ≡ path_bucket l.t (parts_of l.p)
