use mathlib.Core.Path.{sym, ◌∙◌}
use native.Mathlib.Omega.{arith}
use Rattle.deck.specs.Answers.{text_is}
use Rattle.deck.proofs.Laws.Texts.{string-bad, string-is}
use Rattle.deck.proofs.fields.string_text.Goals as goal

pub returns-then-not-all_printable : goal.returns-then-not-all_printable
unfolding text_is
returns-then-not-all_printable c = record { is = sym (string-bad c.args.deck.now c.args.start c.args.end (sym c.all_printable.ensures ∙ c.if-not-all_printable.true)); fits = tt }

pub returns : goal.returns
unfolding text_is
returns c =
    record { is = string-is c.args.deck.now c.args.start c.args.end (omega arith) (omega arith) (omega arith) (sym c.all_printable.ensures ∙ c.if-not-all_printable.false); fits = (omega arith, omega arith) }
