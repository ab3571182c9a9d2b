use mathlib.Core.Path.{◌∙◌}
use Rattle.table_test.proofs.Laws.Scans.{rising-next, rising-done}
use Rattle.table_test.proofs.model_test.rises.Goals as goal

pub loop-x-preserved : goal.loop-x-preserved
loop-x-preserved c =
    rising-next c.loop-x.all c.loop-x.last c.args.s.now c.loop-x.x-index c.loop-x-test.true ∙ c.loop-x.invariant

pub returns : goal.returns
returns c =
    rising-done c.loop-x.all c.loop-x.last c.args.s.now c.loop-x.x-index c.loop-x-test.false ∙ c.loop-x.invariant
