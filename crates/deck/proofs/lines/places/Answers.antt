use native.Mathlib.Omega.{arith}
use Rattle.deck.proofs.Laws.Lines.{span-some, span_none}
use Rattle.deck.proofs.lines.places.Goals as goal

pub returns-then-i-f : goal.returns-then-i-f
returns-then-i-f c = λ deck w. span-some deck c.args.f c.args.i w (omega arith)

pub returns-else-i-f : goal.returns-else-i-f
returns-else-i-f c = λ deck w. span_none deck c.args.f c.args.i w (omega arith)
