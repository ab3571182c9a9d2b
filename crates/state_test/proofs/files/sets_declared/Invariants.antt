use mathlib.Core.Bool.{◌&&◌}
use mathlib.Core.Path.{◌≡◌}
use lib.ListN.{drop}
use Rattle.tables.specs.Lists.{all_of}
use Rattle.tables.specs.Records.{Schema}
use Rattle.tables.specs.ModelTable.{model_of}
use Rattle.tables.specs.SetCells.{set_is}
use Rattle.deck.specs.Schema.{declared_files}
use Rattle.state_test.specs.StateTest.{set_declared}
use Rattle.state_test.proofs.files.sets_declared.Given as goal

-- the sets so far are declared, and those left are, where all are
abbrev pub invariant-loop-e : goal.invariant-loop-e
invariant-loop-e l =
    (sc : Schema) → set_is l.d ≡ declared_files sc → (l.all && all_of (set_declared sc) (drop l.e (model_of l.model).sets)) ≡ all_of (set_declared sc) (model_of l.model).sets
