use Rattle.tables.specs.SetCells.{set_is}
use Rattle.tables.specs.ModelTable.{parent_is}
use Rattle.merge_log.proofs.Laws.Undo.{undo-parent-asks, undo-set-asks, undo-import, undo-restriction, undo-extension}
use Rattle.merge_log.proofs.log.undo_entry.Goals as goal

pub set_parent-requires : goal.set_parent-requires
set_parent-requires c =
    let h = rw c.in-Import.is at c.requires.entry_in in
    let r = undo-parent-asks c.args.model.now c.take_out-q.new.model c.in-Import.e.0 (parent_is c.in-Import.parent) c.requires.good_model c.take_out-q.ensures.keeps c.take_out-q.ensures.good h.0 h.2 in record { good_model = r.0; e_bound = r.1; parent_below = r.2 }

pub set_set-requires-clause-e_bound : goal.set_set-requires-clause-e_bound
set_set-requires-clause-e_bound c =
    let h = rw c.in-Import.is at c.requires.entry_in in
    let r = undo-set-asks c.args.model.now c.take_out-q.new.model c.set_parent.new.model c.in-Import.e.0 (parent_is c.in-Import.parent)
    c.requires.good_model c.take_out-q.ensures.keeps c.set_parent.ensures h.0 in
    r.1

pub returns-in-Import : goal.returns-in-Import
returns-in-Import c =
    rw c.in-Import.is (undo-import c.args.model.now c.args.once c.args.r c.take_out-q.new.model c.set_parent.new.model c.set_set.new.model c.take_out-q.result c.in-Import.e.0 c.in-Import.p.0 (parent_is c.in-Import.parent) (set_is c.in-Import.set) c.take_out-q.ensures c.set_parent.ensures c.set_set.ensures)

pub returns-in-Restriction : goal.returns-in-Restriction
returns-in-Restriction c =
    rw c.in-Restriction.is (undo-restriction c.args.model.now c.args.once c.args.r c.requires.run_in c.requires.once_if c.set_set-in-Restriction.new.model c.in-Restriction.e.0 (set_is c.in-Restriction.set) c.set_set-in-Restriction.ensures)

pub returns-in-Extension : goal.returns-in-Extension
returns-in-Extension c =
    rw c.in-Extension.is (undo-extension c.args.model.now c.args.once c.args.r c.requires.run_in c.requires.once_if c.set_set-in-Extension.new.model c.in-Extension.e.0 (set_is c.without-set.result) c.set_set-in-Extension.ensures c.in-Extension.f.0 (set_is c.set_of.result) c.set_of.ensures c.without-set.ensures)
