use mathlib.Core.Path.{refl, ◌∙◌}
use Rattle.tables.specs.Index.{empty_index}
use Rattle.table_test.specs.SchemaTest.{index_passes}
use borrow.Author.Rules.{rules}
use Rattle.table_test.proofs.index_test.index_passes.Goals as goal

pub fill_index-requires : goal.fill_index-requires
unfolding empty_index
fill_index-requires c = record { counted = search rules; cells_value = refl }

pub returns : goal.returns
unfolding index_passes
returns c = c.same_cells.ensures ∙ rw (c.at-at.ensures.value, c.fill_index.ensures)
