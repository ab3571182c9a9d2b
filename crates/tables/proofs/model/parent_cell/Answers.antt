use native.Mathlib.Numerals.{add-one}
use Rattle.tables.specs.ModelTable.{parent_cell}
use Rattle.tables.proofs.model.parent_cell.Goals as goal

pub returns-in-Some : goal.returns-in-Some
unfolding parent_cell
returns-in-Some c = rw c.in-Some.is (add-one _)

pub returns-in-None : goal.returns-in-None
unfolding parent_cell
returns-in-None c = rw c.in-None.is
