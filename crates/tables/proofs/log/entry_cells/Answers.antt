use Rattle.tables.specs.LogTable.{entry_cells}
use Rattle.tables.proofs.log.entry_cells.Goals as goal

pub returns-in-Import : goal.returns-in-Import
unfolding entry_cells
returns-in-Import c = rw (c.in-Import.is, ← c.parent_cell.ensures)

pub returns-in-Restriction : goal.returns-in-Restriction
unfolding entry_cells
returns-in-Restriction c = rw c.in-Restriction.is

pub returns-in-Extension : goal.returns-in-Extension
unfolding entry_cells
returns-in-Extension c = rw (c.in-Extension.is, c.none.ensures)
