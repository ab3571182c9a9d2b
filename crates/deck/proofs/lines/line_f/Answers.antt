use Prim.Native.Nat.{◌-◌}
use Rattle.tables.specs.Limits.{file_limit, version_limit}
use mathlib.Core.Option.{bind}
use native.Mathlib.Omega.{arith}
use borrow.Author.Tests.{eq-eqb, ne_eqb}
use Rattle.deck.specs.Deck.{only, line_f, file_field, decimal}
use Rattle.deck.specs.Answers.{num_is, line_is}
use Rattle.deck.proofs.Laws.Numbers.{read-most}
use Rattle.deck.proofs.Laws.Lines.{fields-count}
use Rattle.deck.proofs.lines.line_f.Goals as goal

pub returns-in_err-file : goal.returns-in_err-file
unfolding line_is num_is bind only line_f file_field decimal
returns-in_err-file c = record { is = rw (c.from_residual.ensures, ← c.number_at.ensures, c.in_err-file.was); fits = rw c.from_residual.ensures tt }

pub returns-in_err-version : goal.returns-in_err-version
unfolding line_is num_is bind only line_f file_field decimal
returns-in_err-version c = record { is = rw (c.from_residual-in_err-version.ensures, ← c.number_at.ensures, c.in_ok-file.was, ← c.number_at-2.ensures, c.in_err-version.was); fits = rw c.from_residual-in_err-version.ensures tt }

pub returns-then-f-ne3 : goal.returns-then-f-ne3
unfolding line_is num_is bind only line_f file_field decimal
returns-then-f-ne3 c =
    record { is = rw (← c.number_at.ensures, c.in_ok-file.was, ← c.number_at-2.ensures, c.in_ok-version.was, fields-count c.args.deck.now c.args.f c.requires, ne_eqb _ 3 c.if-f-ne3.true); fits = tt }

pub returns : goal.returns
unfolding line_is num_is bind only line_f file_field decimal
returns c =
    record { is = rw (← c.number_at.ensures, c.in_ok-file.was, ← c.number_at-2.ensures, c.in_ok-version.was, fields-count c.args.deck.now c.args.f c.requires, eq-eqb _ 3 c.if-f-ne3.false); fits = (omega (arith, read-most 10 (file_limit - 1) _ _ _ c.number_at.ensures c.in_ok-file.was), omega (arith, read-most 10 (version_limit - 1) _ _ _ c.number_at-2.ensures c.in_ok-version.was)) }
