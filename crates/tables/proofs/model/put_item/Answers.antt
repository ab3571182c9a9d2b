use Rattle.tables.proofs.Laws.ModelTable.{store-item}
use Rattle.tables.proofs.model.put_item.Goals as goal

pub returns : goal.returns
returns c =
    rw (c.item_cell.ensures, c.start_of.ensures.is)
    (store-item c.args.model.now c.args.e.0 c.args.i _ c.requires.good_model c.requires.i_in_bounds c.requires.item_below)
