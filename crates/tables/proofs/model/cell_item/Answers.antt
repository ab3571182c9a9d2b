use Rattle.tables.proofs.Laws.ModelTable.{cell_item-child, cell_item-text}
use Rattle.tables.proofs.model.cell_item.Goals as goal

pub returns-then-c-lt-TEXT_CELLS_AT : goal.returns-then-c-lt-TEXT_CELLS_AT
returns-then-c-lt-TEXT_CELLS_AT c = cell_item-child _ c.if-c-lt-TEXT_CELLS_AT.true

pub returns : goal.returns
returns c = cell_item-text _ c.if-c-lt-TEXT_CELLS_AT.false
