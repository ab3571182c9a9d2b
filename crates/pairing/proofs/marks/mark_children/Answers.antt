use Rattle.pairing.proofs.Laws.Marks.{marked}
use Rattle.pairing.specs.Lent.{fixed_of, model_in}
use Rattle.pairing.proofs.marks.mark_children.Goals as goal

pub returns : goal.returns
returns c =
    let x = fixed_of c.args.tables.now in
    let both =
    marked x (model_in c.args.tables.now) c.args.s c.args.work.now c.mark_keys.new.work c.mark_keys-2.new.work
    c.requires.mark_room.order c.requires.mark_room.within c.mark_keys.auto.work c.mark_keys-2.auto.work
    c.mark_keys.ensures c.mark_keys-2.ensures in
    record { marked = both.0; work_unchanged = both.1 }
