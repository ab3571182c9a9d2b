use Rattle.tables.specs.ModelTable.{item_is, model_of}
use Rattle.tables.proofs.Laws.Model.{insert_items-one}
use Rattle.tables.proofs.model.insert_item.Goals as goal

pub returns : goal.returns
returns c =
    rw (← insert_items-one (model_of c.args.model.now) c.args.e.0 c.args.i (item_is c.args.a)) c.insert_items.ensures
