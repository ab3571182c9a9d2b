use mathlib.Core.Path.{◌≡◌}
use lib.ListN.{drop}
use Rattle.tables.specs.ElementsTable.{elements_of}
use Rattle.tables.specs.Lists.{keep}
use Rattle.tables.specs.ModelTable.{model_of}
use Rattle.tables.specs.SetCells.{set_is}
use Rattle.state_test.specs.StateTest.{waits, tree_files_distinct}
use Rattle.state_test.proofs.Laws.Files.{distinct_from}
use Rattle.state_test.proofs.files.tree_files_distinct.Given as goal

-- seen has the files of the waiting trees so far, which are distinct
abbrev pub invariant-loop-i : goal.invariant-loop-i
invariant-loop-i l =
    distinct_from (set_is l.seen) (keep (waits (model_of l.model)) (drop l.i (elements_of l.elements).trees))
    ≡ tree_files_distinct (keep (waits (model_of l.model)) (elements_of l.elements).trees)
