use mathlib.Core.List.{List}
use mathlib.Core.Path.{refl}
use Prim.Native.Nat.{ℕ}
use Rattle.printing.proofs.Laws.Buffers.{list-turn, list-end}
use borrow.Author.Rules.{rules}
use Rattle.printing.proofs.buffer.append_bytes.Goals as goal

pub loop-b-preserved : goal.loop-b-preserved
loop-b-preserved c = (search rules, list-turn (λ (s : List ℕ). s) _ c.loop-b.b-index 0 c.loop-b-test.true refl c.loop-b.invariant.1 c.append_byte-k.ensures)

pub returns : goal.returns
returns c = list-end (λ (s : List ℕ). s) _ c.loop-b.b-index c.loop-b-test.false refl c.loop-b.invariant.1
