use mathlib.Core.Path.{◌∙◌}
use Rattle.table_test.proofs.Laws.Scans.{zeros-more, zeros-end}
use Rattle.table_test.proofs.scan.bits_of.Goals as goal

pub loop-x-preserved : goal.loop-x-preserved
loop-x-preserved c =
    zeros-more c.loop-x.any c.args.s.now c.loop-x.x-index c.loop-x-test.true ∙ c.loop-x.invariant

pub returns : goal.returns
returns c =
    zeros-end c.loop-x.any c.args.s.now c.loop-x.x-index c.loop-x-test.false ∙ c.loop-x.invariant
