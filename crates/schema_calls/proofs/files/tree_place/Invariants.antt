use mathlib.Core.Path.{◌≡◌}
use lib.ListN.{drop}
use Rattle.tables.specs.Lists.{first_of}
use Rattle.tables.specs.ElementsTable.{elements_of}
use Rattle.schema_calls.specs.Calls.{tree_matches}
use Rattle.schema_calls.proofs.files.tree_place.Given as goal

-- the first tree of the file stands behind those passed, if there is one
abbrev pub invariant-loop-i : goal.invariant-loop-i
invariant-loop-i l = first_of (tree_matches l.f.0) (drop l.i (elements_of l.elements).trees) ≡ first_of (tree_matches l.f.0) (elements_of l.elements).trees
