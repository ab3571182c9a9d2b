use native.Mathlib.Omega.{arith}
use Rattle.tables.specs.SetCells.{set_is}
use Rattle.tables.proofs.Laws.ModelTable.{store-add}
use Rattle.tables.proofs.model.add_element.Goals as goal

pub returns : goal.returns
returns c =
    rw (c.store_set.ensures, c.parent_cell-c.ensures)
    (store-add c.args.model.now _ (set_is c.args.s) _ c.requires.good_model c.count-n.ensures (omega arith) c.requires.parent_below)
