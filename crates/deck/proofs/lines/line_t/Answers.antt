use mathlib.Core.Option.{bind}
use native.Mathlib.Omega.{arith}
use borrow.Author.Tests.{eq-eqb, ne_eqb}
use Rattle.deck.specs.Deck.{only, line_t, type_field, mode_field, named_field, mask_field, decimal, hexadecimal}
use Rattle.deck.specs.Answers.{num_is, line_is}
use Rattle.deck.proofs.Laws.Numbers.{read-most}
use Rattle.deck.proofs.Laws.Lines.{fields-count}
use Rattle.deck.proofs.lines.line_t.Goals as goal

pub returns-in_err-ty : goal.returns-in_err-ty
unfolding line_is num_is bind only line_t type_field mode_field named_field mask_field decimal hexadecimal
returns-in_err-ty c = record { is = rw (c.from_residual.ensures, ← c.number_at.ensures, c.in_err-ty.was); fits = rw c.from_residual.ensures tt }

pub returns-in_err-mode : goal.returns-in_err-mode
unfolding line_is num_is bind only line_t type_field mode_field named_field mask_field decimal hexadecimal
returns-in_err-mode c = record { is = rw (c.from_residual-in_err-mode.ensures, ← c.number_at.ensures, c.in_ok-ty.was, ← c.number_at-2.ensures, c.in_err-mode.was); fits = rw c.from_residual-in_err-mode.ensures tt }

pub returns-in_err-named : goal.returns-in_err-named
unfolding line_is num_is bind only line_t type_field mode_field named_field mask_field decimal hexadecimal
returns-in_err-named c =
    record { is = rw (c.from_residual-in_err-named.ensures, ← c.number_at.ensures, c.in_ok-ty.was, ← c.number_at-2.ensures, c.in_ok-mode.was, ← c.number_at-3.ensures, c.in_err-named.was); fits = rw c.from_residual-in_err-named.ensures tt }

pub returns-in_err-split : goal.returns-in_err-split
unfolding line_is num_is bind only line_t type_field mode_field named_field mask_field decimal hexadecimal
returns-in_err-split c =
    record { is = rw (c.from_residual-in_err-split.ensures, ← c.number_at.ensures, c.in_ok-ty.was, ← c.number_at-2.ensures, c.in_ok-mode.was, ← c.number_at-3.ensures, c.in_ok-named.was, ← c.number_at-4.ensures, c.in_err-split.was); fits = rw c.from_residual-in_err-split.ensures tt }

pub returns-then-f-ne5 : goal.returns-then-f-ne5
unfolding line_is num_is bind only line_t type_field mode_field named_field mask_field decimal hexadecimal
returns-then-f-ne5 c =
    record { is = rw (← c.number_at.ensures, c.in_ok-ty.was, ← c.number_at-2.ensures, c.in_ok-mode.was, ← c.number_at-3.ensures, c.in_ok-named.was, ← c.number_at-4.ensures, c.in_ok-split.was, fields-count c.args.deck.now c.args.f c.requires, ne_eqb _ 5 c.if-f-ne5.true); fits = tt }

pub returns : goal.returns
unfolding line_is num_is bind only line_t type_field mode_field named_field mask_field decimal hexadecimal
returns c =
    record { is = rw (← c.number_at.ensures, c.in_ok-ty.was, ← c.number_at-2.ensures, c.in_ok-mode.was, ← c.number_at-3.ensures, c.in_ok-named.was, ← c.number_at-4.ensures, c.in_ok-split.was, fields-count c.args.deck.now c.args.f c.requires, eq-eqb _ 5 c.if-f-ne5.false); fits = omega (arith, read-most 10 4 _ _ _ c.number_at-2.ensures c.in_ok-mode.was) }
