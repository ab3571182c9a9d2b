use borrow.Author.Tests.{eq-eqb, ne_eqb}
use Rattle.deck.specs.Deck.{line_m, only}
use Rattle.deck.specs.Answers.{line_is}
use Rattle.deck.proofs.Laws.Lines.{fields-count}
use Rattle.deck.proofs.lines.line_m.Goals as goal

pub returns-then-f-ne1 : goal.returns-then-f-ne1
unfolding line_is line_m only
returns-then-f-ne1 c = λ deck w. record { is = rw (line_m, fields-count deck c.args.f w, ne_eqb _ 1 c.if-f-ne1.true); fits = tt }

pub returns : goal.returns
unfolding line_is line_m only
returns c = λ deck w. record { is = rw (line_m, fields-count deck c.args.f w, eq-eqb _ 1 c.if-f-ne1.false); fits = tt }
