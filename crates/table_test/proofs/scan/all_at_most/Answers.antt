use mathlib.Core.Path.{◌∙◌}
use Rattle.table_test.specs.ModelTest.{at_most}
use Rattle.tables.proofs.Laws.Scans.{all-next, all_done}
use Rattle.table_test.proofs.scan.all_at_most.Goals as goal

pub loop-x-preserved : goal.loop-x-preserved
loop-x-preserved c =
    all-next (at_most c.args.n) c.loop-x.all c.args.s.now c.loop-x.x-index 0 c.loop-x-test.true ∙ c.loop-x.invariant

pub returns : goal.returns
returns c =
    all_done (at_most c.args.n) c.loop-x.all c.args.s.now c.loop-x.x-index c.loop-x-test.false ∙ c.loop-x.invariant
