use mathlib.Core.Option.{bind}
use native.Mathlib.Omega.{arith}
use borrow.Author.Tests.{eq-eqb, ne_eqb}
use Rattle.deck.specs.Deck.{only, line_g, type_field, mode_field, decimal}
use Rattle.deck.specs.Answers.{num_is, path_is, line_is}
use Rattle.deck.proofs.Laws.Numbers.{read-most}
use Rattle.deck.proofs.Laws.Lines.{fields-count}
use Rattle.deck.proofs.lines.line_g.Goals as goal

pub returns-in_err-ty : goal.returns-in_err-ty
unfolding line_is num_is path_is bind only line_g type_field mode_field decimal
returns-in_err-ty c = record { is = rw (c.from_residual.ensures, ← c.number_at.ensures, c.in_err-ty.was); fits = rw c.from_residual.ensures tt }

pub returns-in_err-path : goal.returns-in_err-path
unfolding line_is num_is path_is bind only line_g type_field mode_field decimal
returns-in_err-path c = record { is = rw (c.from_residual-in_err-path.ensures, ← c.number_at.ensures, c.in_ok-ty.was, ← c.path_at.ensures.is, c.in_err-path.was); fits = rw c.from_residual-in_err-path.ensures tt }

pub returns-in_err-mode : goal.returns-in_err-mode
unfolding line_is num_is path_is bind only line_g type_field mode_field decimal
returns-in_err-mode c =
    record { is = rw (c.from_residual-in_err-mode.ensures, ← c.number_at.ensures, c.in_ok-ty.was, ← c.path_at.ensures.is, c.in_ok-path.was, ← c.number_at-2.ensures, c.in_err-mode.was); fits = rw c.from_residual-in_err-mode.ensures tt }

pub returns-then-f-ne4 : goal.returns-then-f-ne4
unfolding line_is num_is path_is bind only line_g type_field mode_field decimal
returns-then-f-ne4 c =
    record { is = rw (← c.number_at.ensures, c.in_ok-ty.was, ← c.path_at.ensures.is, c.in_ok-path.was, ← c.number_at-2.ensures, c.in_ok-mode.was, fields-count c.args.deck.now c.args.f c.requires, ne_eqb _ 4 c.if-f-ne4.true); fits = tt }

pub returns : goal.returns
unfolding line_is num_is path_is bind only line_g type_field mode_field decimal
returns c =
    record { is = rw (← c.number_at.ensures, c.in_ok-ty.was, ← c.path_at.ensures.is, c.in_ok-path.was, ← c.number_at-2.ensures, c.in_ok-mode.was, fields-count c.args.deck.now c.args.f c.requires, eq-eqb _ 4 c.if-f-ne4.false); fits = omega (arith, read-most 10 3 _ _ _ c.number_at-2.ensures c.in_ok-mode.was) }
