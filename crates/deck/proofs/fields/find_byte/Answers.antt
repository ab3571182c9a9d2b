use native.Mathlib.Omega.{arith}
use Rattle.deck.proofs.Laws.Parts.{reach_here, reach-on, reach-end}
use Rattle.deck.proofs.fields.find_byte.Goals as goal

pub returns-then-s-i : goal.returns-then-s-i
returns-then-s-i c =
    record { past = omega arith; within = omega arith; is = omega (arith, reach_here c.args.s.now c.args.separator c.loop-i.i c.args.end (omega arith) (omega arith) c.if-s-i.true) }

pub loop-i-preserved : goal.loop-i-preserved
loop-i-preserved c =
    record { past = omega arith; within = omega arith; is = omega (arith, reach-on c.args.s.now c.args.separator c.loop-i.i c.args.end (omega arith) (omega arith) c.if-s-i.false) }

pub returns : goal.returns
returns c = record { past = omega arith; within = omega arith; is = omega (arith, reach-end c.args.s.now c.args.separator c.loop-i.i c.args.end (omega arith)) }
