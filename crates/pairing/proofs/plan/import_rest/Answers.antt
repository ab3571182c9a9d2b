use mathlib.Core.Path.{◌∙◌}
use native.Mathlib.Omega.{arith}
use Rattle.pairing.proofs.Laws.Steps.{passes-left}
use Rattle.pairing.proofs.Laws.Ways.{walks-then}
use Rattle.pairing.proofs.plan.import_rest.Goals as goal

pub loop-b-preserved : goal.loop-b-preserved
loop-b-preserved c = (
  walks-then c.args.s _ _ c.args.work.now c.args.c.a c.args.c.b c.args.c.new _ _ c.loop-b.work c.loop-b.uses c.args.c.a c.loop-b.b c.loop-b.new c.import_next-new.new.work c.import_next-new.new.uses c.args.c.a _ c.import_next-new.result c.loop-b.invariant.0 c.import_next-new.ensures (λ act end q. passes-left c.args.s c.loop-b.work c.args.c.a c.loop-b.b c.loop-b.new c.loop-b.invariant.0.room act end c.args.position c.requires.a_value (omega (arith, c.requires.work_room.second, c.loop-b-test.true)) q) (λ n q. q),
  c.import_next-new.auto.work ∙ c.loop-b.invariant.1,
  c.import_next-new.auto.uses ∙ c.loop-b.invariant.2,
)
