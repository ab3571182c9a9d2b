use native.Mathlib.Omega.{arith}
use borrow.Author.Tests.{eq-eqb, ne_eqb}
use Rattle.printing.specs.Buffers.{is_full}
use Rattle.printing.proofs.buffer.is_full.Goals as goal

pub returns-then-w-ne0 : goal.returns-then-w-ne0
unfolding is_full
returns-then-w-ne0 c = rw (is_full, ne_eqb c.args.w.skip 0 (λ z. omega (arith, c.if-w-ne0.true)))

pub returns : goal.returns
unfolding is_full
returns c = rw (is_full, eq-eqb c.args.w.skip 0 (omega (arith, c.if-w-ne0.false)))
