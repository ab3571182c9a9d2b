use mathlib.Core.Path.{ap}
use Rattle.table_test.specs.ModelTest.{item_in_range}
use Rattle.tables.proofs.Laws.ModelTable.{cell_item-child, cell_item-text}
use Rattle.table_test.proofs.model_test.cell_in_range.Goals as goal

pub returns-then-c-lt-TEXT_CELLS_AT : goal.returns-then-c-lt-TEXT_CELLS_AT
unfolding item_in_range
returns-then-c-lt-TEXT_CELLS_AT c =
    ap (item_in_range c.args.n c.args.texts) (cell_item-child c.args.c c.if-c-lt-TEXT_CELLS_AT.true)

pub returns : goal.returns
unfolding item_in_range
returns c =
    ap (item_in_range c.args.n c.args.texts) (cell_item-text c.args.c c.if-c-lt-TEXT_CELLS_AT.false)
