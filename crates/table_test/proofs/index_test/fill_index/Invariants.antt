use mathlib.Core.Path.{◌≡◌}
use Rattle.tables.specs.Index.{index_cells}
use Rattle.tables.specs.SchemaTable.{key_in, schema_of}
use Rattle.table_test.proofs.index_test.fill_index.Given as goal

-- the cells are the index of the first i places
abbrev pub invariant-loop-i : goal.invariant-loop-i
invariant-loop-i l = l.cells ≡ index_cells (key_in (schema_of l.t) l.x) l.i
