use mathlib.Core.Path.{refl}
use native.Mathlib.Omega.{arith}
use Rattle.pairing.proofs.Laws.Rows.{second-front}
use Rattle.pairing.proofs.walk.search_children.Goals as goal

pub returns-then-marked : goal.returns-then-marked
returns-then-marked c = record { searches = c.search_marked.ensures; marked = c.requires.marked_if c.if-marked.true; work_unchanged = refl }

pub returns : goal.returns
returns c =
    let size = c.mark_children.auto.work in
    let same = second-front c.args.s c.args.work.now c.mark_children.new.work c.requires.mark_room.order (omega (arith, c.requires.mark_room.within)) size c.mark_children.ensures.work_unchanged in record { searches = rw same at c.search_marked-2.ensures; marked = c.mark_children.ensures.marked; work_unchanged = c.mark_children.ensures.work_unchanged }

pub search_marked-requires-2-clause-listed : goal.search_marked-requires-2-clause-listed
search_marked-requires-2-clause-listed c =
    rw (second-front c.args.s c.args.work.now c.mark_children.new.work c.requires.mark_room.order (omega (arith, c.requires.mark_room.within)) c.mark_children.auto.work c.mark_children.ensures.work_unchanged) c.requires.listed
