use Prim.Native.Nat.{◌≤◌}
use lib.ListN.{length, drop}
use Rattle.printing.specs.Buffers.{buffer_is}
use Rattle.printing.proofs.Laws.Buffers.{Leaves}
use Rattle.printing.proofs.buffer.append_bytes.Given as goal

abbrev pub invariant-loop-b : goal.invariant-loop-b
invariant-loop-b l = (l.b-index ≤ length l.text) × Leaves (buffer_is l.initial.k l.initial.out) l.text (buffer_is l.k l.out) (drop l.b-index l.text)
