use Rattle.table_test.proofs.Laws.AreaTest.{too_many, rows_more, rows-stop, rows_end}
use native.Mathlib.Omega.{arith}
use mathlib.Core.Path.{sym, ◌∙◌}
use Rattle.table_test.proofs.area_test.Area.passes.Goals as goal

pub returns-then-limit-count : goal.returns-then-limit-count
returns-then-limit-count c =
    too_many c.args.self c.args.count c.args.area.now (omega arith)

pub returns-then-not-row_passes : goal.returns-then-not-row_passes
returns-then-not-row_passes c =
    rows-stop c.args.self c.args.area.now c.args.count c.width-w.result c.loop-i.i c.loop-i.invariant c.loop-i-test.true (sym c.row_passes.ensures ∙ c.if-not-row_passes.true)

pub loop-i-preserved : goal.loop-i-preserved
loop-i-preserved c =
    rows_more c.args.self c.args.area.now c.args.count c.width-w.result c.loop-i.i c.loop-i.invariant c.loop-i-test.true (sym c.row_passes.ensures ∙ c.if-not-row_passes.false)

pub returns : goal.returns
returns c =
    rows_end c.args.self c.args.area.now c.args.count c.width-w.result c.loop-i.i c.loop-i.invariant c.loop-i-test.false c.all_zero.result c.all_zero.ensures
