use Rattle.tables.proofs.Laws.ModelTable.{cell_parent-place}
use Rattle.tables.proofs.model.cell_parent.Goals as goal

pub returns : goal.returns
returns c = rw (← c.place_in.ensures) (cell_parent-place c.place_in.result c.map.result c.map.ensures.cases)
