use native.Mathlib.Omega.{arith}
use Rattle.printing.proofs.Laws.Buffers.{byte-passed, byte-written, left_out}
use Rattle.printing.proofs.buffer.append_byte.Goals as goal

pub returns-then-w-ne0 : goal.returns-then-w-ne0
returns-then-w-ne0 c = byte-passed _ _ (λ z. omega (arith, c.if-w-ne0.true))

pub returns-then-out-at : goal.returns-then-out-at
returns-then-out-at c = left_out _ _ (omega arith) c.if-out-at.true

pub returns : goal.returns
returns c = byte-written _ _ (omega arith) c.if-out-at.false
