use Rattle.deck.specs.Deck.{fields}
use Rattle.deck.specs.Answers.{part_at}
use Rattle.deck.proofs.Laws.Lines.{Splitting}
use Rattle.deck.proofs.lines.split.Given as goal

abbrev pub invariant-loop-i : goal.invariant-loop-i
invariant-loop-i l = Splitting l.deck (fields (part_at l.deck l.start l.end)) l.end l.spans l.i l.at
