use mathlib.Core.Path.{ap, ◌∙◌}
use Rattle.tables.specs.ModelTable.{cell_item}
use Rattle.tables.proofs.Laws.ModelTable.{read-item, item-below, cell_item-back}
use Rattle.tables.proofs.model.item_at.Goals as goal

pub returns : goal.returns
returns c =
    let xs = c.args.model.now in
    rw c.start_of.ensures.is at c.cell_item.ensures
    ∙ ap cell_item (read-item xs c.requires.good_model c.args.e.0 c.args.i c.requires.i_in_bounds)
    ∙ cell_item-back _ _ c.requires.good_model.sized.count (item-below xs c.requires.good_model c.args.e.0 c.args.i c.requires.i_in_bounds)
