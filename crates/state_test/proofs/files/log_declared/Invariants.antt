use mathlib.Core.Path.{◌≡◌}
use Prim.Native.Nat.{◌-◌, ◌≤◌}
use lib.ListN.{length, drop}
use Rattle.tables.specs.Lists.{all_of}
use Rattle.tables.specs.LogTable.{log_of}
use Rattle.tables.specs.Records.{Schema}
use Rattle.tables.specs.SetCells.{set_is}
use Rattle.deck.specs.Schema.{declared_files}
use Rattle.state_test.specs.StateTest.{entry_declared}
use Rattle.state_test.proofs.files.log_declared.Given as goal

-- the i oldest entries are declared where all are
abbrev pub invariant-loop-i : goal.invariant-loop-i
invariant-loop-i l =
    (l.i ≤ length (log_of l.log)) × ((sc : Schema) → set_is l.d ≡ declared_files sc → all_of (entry_declared sc) (drop (length (log_of l.log) - l.i) (log_of l.log)) ≡ all_of (entry_declared sc) (log_of l.log))
