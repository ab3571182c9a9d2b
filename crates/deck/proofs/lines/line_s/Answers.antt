use mathlib.Core.Option.{bind}
use native.Mathlib.Omega.{arith}
use borrow.Author.Tests.{eq-eqb, ne_eqb, lt-ltb, le-ltb}
use Rattle.deck.specs.Deck.{only, line_s, type_field, name_field, mult_field, mask_field, decimal, hexadecimal}
use Rattle.deck.specs.Answers.{num_is, path_is, line_is}
use Rattle.deck.proofs.Laws.Lines.{fields-count}
use Rattle.deck.proofs.lines.line_s.Goals as goal

pub returns-in_err-ty : goal.returns-in_err-ty
unfolding line_is num_is path_is bind only line_s type_field name_field mult_field mask_field decimal hexadecimal
returns-in_err-ty c = record { is = rw (c.from_residual.ensures, ← c.number_at.ensures, c.in_err-ty.was); fits = rw c.from_residual.ensures tt }

pub returns-in_err-path : goal.returns-in_err-path
unfolding line_is num_is path_is bind only line_s type_field name_field mult_field mask_field decimal hexadecimal
returns-in_err-path c = record { is = rw (c.from_residual-in_err-path.ensures, ← c.number_at.ensures, c.in_ok-ty.was, ← c.path_at.ensures.is, c.in_err-path.was); fits = rw c.from_residual-in_err-path.ensures tt }

pub returns-in_err-name : goal.returns-in_err-name
unfolding line_is num_is path_is bind only line_s type_field name_field mult_field mask_field decimal hexadecimal
returns-in_err-name c =
    record { is = rw (c.from_residual-in_err-name.ensures, ← c.number_at.ensures, c.in_ok-ty.was, ← c.path_at.ensures.is, c.in_ok-path.was, ← c.number_at-2.ensures, c.in_err-name.was); fits = rw c.from_residual-in_err-name.ensures tt }

pub returns-in_err-child : goal.returns-in_err-child
unfolding line_is num_is path_is bind only line_s type_field name_field mult_field mask_field decimal hexadecimal
returns-in_err-child c =
    record { is = rw (c.from_residual-in_err-child.ensures, ← c.number_at.ensures, c.in_ok-ty.was, ← c.path_at.ensures.is, c.in_ok-path.was, ← c.number_at-2.ensures, c.in_ok-name.was, ← c.number_at-3.ensures, c.in_err-child.was); fits = rw c.from_residual-in_err-child.ensures tt }

pub returns-in_err-mult : goal.returns-in_err-mult
unfolding line_is num_is path_is bind only line_s type_field name_field mult_field mask_field decimal hexadecimal
returns-in_err-mult c =
    record { is = rw (c.from_residual-in_err-mult.ensures, ← c.number_at.ensures, c.in_ok-ty.was, ← c.path_at.ensures.is, c.in_ok-path.was, ← c.number_at-2.ensures, c.in_ok-name.was, ← c.number_at-3.ensures, c.in_ok-child.was, ← c.number_at-4.ensures, c.in_err-mult.was); fits = rw c.from_residual-in_err-mult.ensures tt }

pub returns-in_err-mask : goal.returns-in_err-mask
unfolding line_is num_is path_is bind only line_s type_field name_field mult_field mask_field decimal hexadecimal
returns-in_err-mask c =
    record { is = rw (c.from_residual-in_err-mask.ensures, ← c.number_at.ensures, c.in_ok-ty.was, ← c.path_at.ensures.is, c.in_ok-path.was, ← c.number_at-2.ensures, c.in_ok-name.was, ← c.number_at-3.ensures, c.in_ok-child.was, ← c.number_at-4.ensures, c.in_ok-mult.was, ← c.number_at-5.ensures, c.in_err-mask.was); fits = rw c.from_residual-in_err-mask.ensures tt }

pub returns-then-f-ne7 : goal.returns-then-f-ne7
unfolding line_is num_is path_is bind only line_s type_field name_field mult_field mask_field decimal hexadecimal
returns-then-f-ne7 c =
    record { is = rw (← c.number_at.ensures, c.in_ok-ty.was, ← c.path_at.ensures.is, c.in_ok-path.was, ← c.number_at-2.ensures, c.in_ok-name.was, ← c.number_at-3.ensures, c.in_ok-child.was, ← c.number_at-4.ensures, c.in_ok-mult.was, ← c.number_at-5.ensures, c.in_ok-mask.was, fields-count c.args.deck.now c.args.f c.requires, ne_eqb _ 7 c.if-f-ne7.true); fits = tt }

pub returns-then-mask-eq0 : goal.returns-then-mask-eq0
unfolding line_is num_is path_is bind only line_s type_field name_field mult_field mask_field decimal hexadecimal
returns-then-mask-eq0 c =
    record { is = rw (← c.number_at.ensures, c.in_ok-ty.was, ← c.path_at.ensures.is, c.in_ok-path.was, ← c.number_at-2.ensures, c.in_ok-name.was, ← c.number_at-3.ensures, c.in_ok-child.was, ← c.number_at-4.ensures, c.in_ok-mult.was, ← c.number_at-5.ensures, c.in_ok-mask.was, fields-count c.args.deck.now c.args.f c.requires, eq-eqb _ 7 c.if-f-ne7.false, le-ltb 0 c.in_ok-mask.mask (omega arith)); fits = tt }

pub returns : goal.returns
unfolding line_is num_is path_is bind only line_s type_field name_field mult_field mask_field decimal hexadecimal
returns c =
    record { is = rw (← c.number_at.ensures, c.in_ok-ty.was, ← c.path_at.ensures.is, c.in_ok-path.was, ← c.number_at-2.ensures, c.in_ok-name.was, ← c.number_at-3.ensures, c.in_ok-child.was, ← c.number_at-4.ensures, c.in_ok-mult.was, ← c.number_at-5.ensures, c.in_ok-mask.was, fields-count c.args.deck.now c.args.f c.requires, eq-eqb _ 7 c.if-f-ne7.false, lt-ltb 0 c.in_ok-mask.mask (omega arith), c.from_number.ensures); fits = rw c.in_ok-path.was at c.path_at.ensures.fits }
