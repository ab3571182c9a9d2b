use mathlib.Core.Path.{sym}
use Rattle.table_test.proofs.Laws.Scans.{marked_start, marked-child, marked-text, marked-stop}
use Rattle.table_test.proofs.model_test.once.Goals as goal

pub loop-j-init : goal.loop-j-init
loop-j-init c = marked_start c.args.list.now c.args.marks.now c.args.mark c.requires.marks_len c.requires.by_index

pub returns-then-marks-k-clause-value : goal.returns-then-marks-k-clause-value
returns-then-marks-k-clause-value c = sym (marked-stop c.args.list.now c.loop-j.marks c.args.mark c.loop-j.j c.loop-j-test.true c.loop-j.invariant c.if-c-lt-TEXT_CELLS_AT.true c.if-marks-k.true)

pub loop-j-preserved-then-c-lt-TEXT_CELLS_AT : goal.loop-j-preserved-then-c-lt-TEXT_CELLS_AT
loop-j-preserved-then-c-lt-TEXT_CELLS_AT c =
    marked-child c.args.list.now c.loop-j.marks c.args.mark c.loop-j.j c.loop-j-test.true c.loop-j.invariant c.if-c-lt-TEXT_CELLS_AT.true c.if-marks-k.false

pub loop-j-preserved : goal.loop-j-preserved
loop-j-preserved c =
    marked-text c.args.list.now c.loop-j.marks c.args.mark c.loop-j.j c.loop-j-test.true c.loop-j.invariant c.if-c-lt-TEXT_CELLS_AT.false
