use Rattle.tables.specs.ModelTable.{parent_is}
use Rattle.tables.specs.SetCells.{set_is}
use Rattle.tables.proofs.Laws.ModelTable.{parent-below}
use Rattle.imports.proofs.Laws.Entering.{parent-asks, set-asks, enters}
use Rattle.imports.proofs.import.enter.Goals as goal

pub set_parent-requires : goal.set_parent-requires
set_parent-requires c =
    let r = parent-asks c.args.model.now c.args.log.now c.args.f.0 c.args.p.0 c.args.e.0 c.args.at c.put_item.new.model c.put_item.ensures c.requires.p_bound c.requires.e_bound in record { good_model = r.0; e_bound = r.1; parent_below = r.2 }

pub set_set-requires-clause-e_bound : goal.set_set-requires-clause-e_bound
set_set-requires-clause-e_bound c =
    let r = set-asks c.args.model.now c.args.log.now c.args.f.0 c.args.p.0 c.args.e.0 c.args.at c.put_item.new.model c.put_item.ensures c.set_parent.new.model
    c.set_parent.ensures c.requires.e_bound in
    r.1

pub returns : goal.returns
returns c =
    let m = c.args.model.now in
    let below = rw (← c.parent_of-parent.ensures) at (parent-below m c.requires.good_model c.args.e.0 c.requires.e_bound) in
    enters m c.args.log.now c.args.f.0 c.args.p.0 c.args.e.0 c.args.at c.put_item.new.model c.put_item.ensures c.set_parent.new.model c.set_parent.ensures c.set_set.new.model c.push_entry.new.log (set_is c.with.result) (set_is c.set_of-set.result) (parent_is c.parent_of-parent.result) c.set_set.ensures c.push_entry.ensures
    c.parent_of-parent.ensures c.set_of-set.ensures (rw c.set_of-set.ensures at c.with.ensures) c.requires.p_bound c.requires.e_bound c.requires.at_in_bounds below
