use mathlib.Core.Option.{bind}
use borrow.Author.Tests.{eq-eqb, ne_eqb}
use Rattle.deck.specs.Deck.{only, line_e, depth_field, name_field, set_field, decimal, hexadecimal}
use Rattle.deck.specs.Answers.{num_is, line_is}
use Rattle.deck.proofs.Laws.Lines.{fields-count}
use Rattle.deck.proofs.lines.line_e.Goals as goal

pub returns-in_err-depth : goal.returns-in_err-depth
unfolding line_is num_is bind only line_e depth_field name_field set_field decimal hexadecimal
returns-in_err-depth c = record { is = rw (c.from_residual.ensures, ← c.number_at.ensures, c.in_err-depth.was); fits = rw c.from_residual.ensures tt }

pub returns-in_err-name : goal.returns-in_err-name
unfolding line_is num_is bind only line_e depth_field name_field set_field decimal hexadecimal
returns-in_err-name c = record { is = rw (c.from_residual-in_err-name.ensures, ← c.number_at.ensures, c.in_ok-depth.was, ← c.number_at-2.ensures, c.in_err-name.was); fits = rw c.from_residual-in_err-name.ensures tt }

pub returns-in_err-set : goal.returns-in_err-set
unfolding line_is num_is bind only line_e depth_field name_field set_field decimal hexadecimal
returns-in_err-set c =
    record { is = rw (c.from_residual-in_err-set.ensures, ← c.number_at.ensures, c.in_ok-depth.was, ← c.number_at-2.ensures, c.in_ok-name.was, ← c.number_at-3.ensures, c.in_err-set.was); fits = rw c.from_residual-in_err-set.ensures tt }

pub returns-then-f-ne4 : goal.returns-then-f-ne4
unfolding line_is num_is bind only line_e depth_field name_field set_field decimal hexadecimal
returns-then-f-ne4 c =
    record { is = rw (← c.number_at.ensures, c.in_ok-depth.was, ← c.number_at-2.ensures, c.in_ok-name.was, ← c.number_at-3.ensures, c.in_ok-set.was, fields-count c.args.deck.now c.args.f c.requires, ne_eqb _ 4 c.if-f-ne4.true); fits = tt }

pub returns : goal.returns
unfolding line_is num_is bind only line_e depth_field name_field set_field decimal hexadecimal
returns c =
    record { is = rw (← c.number_at.ensures, c.in_ok-depth.was, ← c.number_at-2.ensures, c.in_ok-name.was, ← c.number_at-3.ensures, c.in_ok-set.was, fields-count c.args.deck.now c.args.f c.requires, eq-eqb _ 4 c.if-f-ne4.false, c.from_bits.ensures); fits = tt }
