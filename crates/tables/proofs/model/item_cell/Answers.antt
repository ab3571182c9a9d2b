use Rattle.tables.specs.ModelTable.{item_cell}
use Rattle.tables.proofs.model.item_cell.Goals as goal

pub returns-in-Child : goal.returns-in-Child
unfolding item_cell
returns-in-Child c = rw c.in-Child.is

pub returns-in-Text : goal.returns-in-Text
unfolding item_cell
returns-in-Text c = rw c.in-Text.is
