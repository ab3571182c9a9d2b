use native.Mathlib.Omega.{arith}
use Rattle.pairing.proofs.Laws.Marks.{no-mark-part}
use Rattle.pairing.proofs.marks.skip_marks.Goals as goal

pub loop-k-preserved : goal.loop-k-preserved
loop-k-preserved c = no-mark-part c.loop-k.invariant (omega arith) c.loop-k-test.true (c.any_marked.ensures c.if-any_marked.false)
