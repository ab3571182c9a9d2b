use Rattle.deck.proofs.Laws.Parts.{Seeking}
use Rattle.deck.proofs.fields.find_byte.Given as goal

abbrev pub invariant-loop-i : goal.invariant-loop-i
invariant-loop-i l = Seeking l.s l.separator l.at l.end l.i
