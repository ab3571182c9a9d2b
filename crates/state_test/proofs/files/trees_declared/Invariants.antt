use mathlib.Core.Path.{◌≡◌}
use lib.ListN.{drop}
use Rattle.tables.specs.Lists.{all_of}
use Rattle.tables.specs.Records.{Schema}
use Rattle.tables.specs.ElementsTable.{elements_of}
use Rattle.tables.specs.SetCells.{set_is}
use Rattle.deck.specs.Schema.{declared_files}
use Rattle.state_test.specs.StateTest.{tree_declared}
use Rattle.state_test.proofs.files.trees_declared.Given as goal

-- the trees from i on are declared where all are
abbrev pub invariant-loop-i : goal.invariant-loop-i
invariant-loop-i l =
    (sc : Schema) → set_is l.d ≡ declared_files sc → all_of (tree_declared sc) (drop l.i (elements_of l.elements).trees) ≡ all_of (tree_declared sc) (elements_of l.elements).trees
