use mathlib.Core.Path.{◌≡◌}
use lib.ListN.{drop}
use Rattle.tables.specs.SchemaTable.{schema_of}
use Rattle.tables.specs.SetCells.{set_is}
use Rattle.deck.specs.Schema.{least_from, least_version}
use Rattle.schema_calls.proofs.files.least_version.Given as goal

abbrev pub invariant-loop-i : goal.invariant-loop-i
invariant-loop-i l = least_from (set_is l.s) l.least (drop l.i (schema_of l.schema).files) ≡ least_version (schema_of l.schema) (set_is l.s) l.v
