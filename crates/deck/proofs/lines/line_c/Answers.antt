use mathlib.Core.Option.{bind}
use borrow.Author.Tests.{eq-eqb, ne_eqb}
use Rattle.deck.specs.Deck.{only, line_c, depth_field, decimal}
use Rattle.deck.specs.Answers.{num_is, text_is, line_is}
use Rattle.deck.proofs.Laws.Lines.{fields-count}
use Rattle.deck.proofs.lines.line_c.Goals as goal

pub returns-in_err-depth : goal.returns-in_err-depth
unfolding line_is num_is text_is bind only line_c depth_field decimal
returns-in_err-depth c = record { is = rw (c.from_residual.ensures, ← c.number_at.ensures, c.in_err-depth.was); fits = rw c.from_residual.ensures tt }

pub returns-in_err-text : goal.returns-in_err-text
unfolding line_is num_is text_is bind only line_c depth_field decimal
returns-in_err-text c = record { is = rw (c.from_residual-in_err-text.ensures, ← c.number_at.ensures, c.in_ok-depth.was, ← c.text_at.ensures.is, c.in_err-text.was); fits = rw c.from_residual-in_err-text.ensures tt }

pub returns-then-f-ne4 : goal.returns-then-f-ne4
unfolding line_is num_is text_is bind only line_c depth_field decimal
returns-then-f-ne4 c =
    record { is = rw (← c.number_at.ensures, c.in_ok-depth.was, ← c.text_at.ensures.is, c.in_ok-text.was, fields-count c.args.deck.now c.args.f c.requires.0, ne_eqb _ 4 c.if-f-ne4.true); fits = tt }

pub returns : goal.returns
unfolding line_is num_is text_is bind only line_c depth_field decimal
returns c =
    record { is = rw (← c.number_at.ensures, c.in_ok-depth.was, ← c.text_at.ensures.is, c.in_ok-text.was, fields-count c.args.deck.now c.args.f c.requires.0, eq-eqb _ 4 c.if-f-ne4.false); fits = rw c.in_ok-text.was at c.text_at.ensures.fits }
