use Rattle.deck.proofs.Laws.Numbers.{NumberReading}
use Rattle.deck.proofs.fields.number.Given as goal

abbrev pub invariant-loop-b : goal.invariant-loop-b
invariant-loop-b l = NumberReading l.radix l.most l.s l.value l.b-index
