use mathlib.Core.Path.{sym}
use native.Mathlib.Omega.{arith}
use Rattle.deck.specs.Deck.{field}
use Rattle.deck.specs.Answers.{num_is, fields_of}
use Rattle.deck.proofs.Laws.Lines.{letter-one, letter-not}
use Rattle.deck.proofs.lines.letter_at.Goals as goal

pub returns-in-len1 : goal.returns-in-len1
unfolding num_is
returns-in-len1 c =
    sym (letter-one (field (fields_of c.args.deck.now c.args.f) c.args.i) c.bytes_of.result.now c.bytes_of.ensures (omega (arith, c.in-len1.len_at_least, c.in-len1.len_below)))

pub returns-in_default : goal.returns-in_default
unfolding num_is
returns-in_default c =
    sym (letter-not (field (fields_of c.args.deck.now c.args.f) c.args.i) c.bytes_of.result.now c.bytes_of.ensures (λ e. absurd (omega (arith, c.in_default.len_below))))

pub returns-in_default-2 : goal.returns-in_default-2
unfolding num_is
returns-in_default-2 c =
    sym (letter-not (field (fields_of c.args.deck.now c.args.f) c.args.i) c.bytes_of.result.now c.bytes_of.ensures (λ e. absurd (omega (arith, c.in_default.len_at_least))))
