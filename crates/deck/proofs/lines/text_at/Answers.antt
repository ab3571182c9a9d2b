use mathlib.Core.Option.{bind}
use mathlib.Core.Path.{◌∙◌, ap}
use Rattle.deck.specs.Deck.{by_letter, texts, text_fields}
use Rattle.deck.specs.Answers.{num_is, text_is}
use Rattle.deck.proofs.lines.text_at.Goals as goal

pub returns-in_err-kind : goal.returns-in_err-kind
unfolding text_is num_is text_fields bind
returns-in_err-kind c = record { is = rw (c.from_residual.ensures, ← c.letter_at.ensures, c.in_err-kind.was); fits = rw c.from_residual.ensures tt }

pub returns : goal.returns
unfolding num_is text_fields bind
returns c =
    record { is = rw (← c.letter_at.ensures, c.in_ok-kind.was) (c.text_field.ensures.is ∙ ap (by_letter texts c.in_ok-kind.kind) (c.places-p.ensures c.args.deck.now c.requires.0).is); fits = c.text_field.ensures.fits }
