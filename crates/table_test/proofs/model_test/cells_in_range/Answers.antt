use mathlib.Core.Path.{◌∙◌}
use Rattle.table_test.specs.ModelTest.{cell_in_range}
use Rattle.tables.proofs.Laws.Scans.{all-next, all_done}
use Rattle.table_test.proofs.model_test.cells_in_range.Goals as goal

pub loop-c-preserved : goal.loop-c-preserved
loop-c-preserved c =
    rw c.cell_in_range-all.ensures (all-next (cell_in_range c.args.n c.args.texts) c.loop-c.all c.args.s.now c.loop-c.c-index 0 c.loop-c-test.true) ∙ c.loop-c.invariant

pub returns : goal.returns
returns c =
    all_done (cell_in_range c.args.n c.args.texts) c.loop-c.all c.args.s.now c.loop-c.c-index c.loop-c-test.false ∙ c.loop-c.invariant
