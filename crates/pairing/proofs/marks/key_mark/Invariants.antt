use mathlib.Core.Path.{◌≡◌}
use Prim.Native.Nat.{◌<◌}
use lib.ListN.{drop}
use Rattle.pairing.specs.Keys.{mark_of}
use Rattle.pairing.proofs.marks.key_mark.Given as goal

-- h and the bytes that are left give the mark of all
abbrev pub invariant-loop-b : goal.invariant-loop-b
invariant-loop-b l = (l.h < 65536) × (mark_of l.h (drop l.b-index l.bytes) ≡ mark_of 0 l.bytes)
