use mathlib.Core.Path.{◌≡◌}
use lib.ListN.{take, drop}
use Rattle.tables.specs.SchemaTable.{schema_of}
use Rattle.state_test.specs.StateTest.{groups_valid, types_alone}
use Rattle.state_test.proofs.Laws.Schemas.{with_groups}
use Rattle.state_test.proofs.schema.groups_valid.Given as goal

-- the groups from i on are valid, by those above, where all are
abbrev pub invariant-loop-i : goal.invariant-loop-i
invariant-loop-i l =
    groups_valid (with_groups (schema_of l.schema) (take l.i (schema_of l.schema).groups)) (drop l.i (schema_of l.schema).groups) ≡ groups_valid (types_alone (schema_of l.schema)) (schema_of l.schema).groups
