use mathlib.Core.Path.{refl, sym, ◌∙◌}
use Rattle.pairing.proofs.Laws.Ways.{walks_skip, walks-import}
use Rattle.pairing.proofs.plan.import_next.Goals as goal

pub returns-then-is_paired : goal.returns-then-is_paired
returns-then-is_paired c =
    walks_skip c.args.s c.args.work.now c.args.uses.now c.args.c.a c.args.c.b c.args.c.new c.requires.work_room c.requires.counted c.args.position c.requires.b_bound (sym c.is_paired.ensures ∙ c.if-is_paired.true)

pub returns : goal.returns
returns c =
    rw c.imported_again.ensures (walks-import c.args.s c.args.work.now c.args.uses.now c.args.c.a c.args.c.b c.args.c.new c.requires.work_room c.requires.counted c.args.position c.requires.b_bound _ refl (sym c.is_paired.ensures ∙ c.if-is_paired.false))
