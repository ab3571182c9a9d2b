-- The counts are in their range where an index is filled.
use Rattle.std.proofs.Common.{refl, rules}
use Rattle.tables.specs.Index.{empty_index}
use Rattle.table_test.proofs.Laws.IndexTest.{counted}
use Rattle.scripts.proofs.cells.reindex_schema.Goals as goal

pub fill_index-requires-clause-counted : goal.fill_index-requires-clause-counted
fill_index-requires-clause-counted c = counted _ (search rules) (search rules) (search rules)

pub fill_index-requires-clause-cells_value : goal.fill_index-requires-clause-cells_value
unfolding empty_index
fill_index-requires-clause-cells_value c = refl
