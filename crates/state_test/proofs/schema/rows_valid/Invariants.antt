use mathlib.Core.Path.{◌≡◌}
use lib.ListN.{take, drop}
use Rattle.tables.specs.SchemaTable.{schema_of}
use Rattle.schema_calls.specs.Calls.{rows_above, PathsClosed}
use Rattle.state_test.specs.StateTest.{rows_valid, without_rows}
use Rattle.state_test.proofs.Laws.Schemas.{with_rows}
use Rattle.state_test.proofs.schema.rows_valid.Given as goal

-- the rows from i on are valid, by those above, where all are; the paths of the rows above are closed
abbrev pub invariant-loop-i : goal.invariant-loop-i
invariant-loop-i l =
    (rows_valid (with_rows (schema_of l.schema) (take l.i (schema_of l.schema).sub_elements)) (drop l.i (schema_of l.schema).sub_elements) ≡ rows_valid (without_rows (schema_of l.schema)) (schema_of l.schema).sub_elements)
    × PathsClosed (rows_above (schema_of l.schema) l.i)
