use mathlib.Core.Path.{◌≡◌}
use Prim.Native.Nat.{◌≤◌}
use lib.ListN.{length, drop}
use Rattle.tables.specs.SchemaTable.{schema_of}
use Rattle.tables.specs.SetCells.{set_is}
use Rattle.deck.specs.Schema.{files_of}
use Rattle.schema_calls.proofs.files.declared_files.Given as goal

abbrev pub invariant-loop-i : goal.invariant-loop-i
invariant-loop-i l = (l.i ≤ length (schema_of l.schema).files) × (set_is l.s ≡ files_of (drop l.i (schema_of l.schema).files))
