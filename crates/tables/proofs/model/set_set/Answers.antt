use Rattle.tables.specs.SetCells.{set_is}
use Rattle.tables.proofs.Laws.ModelTable.{store-set}
use Rattle.tables.proofs.model.set_set.Goals as goal

pub returns : goal.returns
returns c =
    rw c.store_set.ensures (store-set c.args.model.now c.args.e.0 (set_is c.args.s) c.requires.good_model c.requires.e_bound)
