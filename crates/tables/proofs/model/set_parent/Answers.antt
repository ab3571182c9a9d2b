use Rattle.tables.proofs.Laws.ModelTable.{store-parent}
use Rattle.tables.proofs.model.set_parent.Goals as goal

pub returns : goal.returns
returns c =
    rw c.parent_cell.ensures (store-parent c.args.model.now c.args.e.0 _ c.requires.good_model c.requires.e_bound c.requires.parent_below)
