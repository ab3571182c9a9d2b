use mathlib.Core.Path.{◌∙◌}
use Rattle.table_test.proofs.Laws.IndexTest.{same_more, same_end}
use Rattle.table_test.proofs.index_test.same_cells.Goals as goal

pub loop-j-preserved : goal.loop-j-preserved
loop-j-preserved c =
    same_more c.loop-j.same c.args.s.now c.args.t.now c.loop-j.j c.requires c.loop-j-test.true ∙ c.loop-j.invariant

pub returns : goal.returns
returns c =
    same_end c.loop-j.same c.args.s.now c.args.t.now c.loop-j.j c.requires c.loop-j-test.false ∙ c.loop-j.invariant
