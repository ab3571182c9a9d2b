use mathlib.Core.Bool.{◌&&◌}
use mathlib.Core.Path.{◌≡◌}
use Prim.Native.Nat.{◌+◌, ◌-◌}
use lib.ListN.{take, drop}
use Rattle.tables.specs.Lists.{same_list}
use Rattle.tables.proofs.text.same_bytes.Given as goal

abbrev pub invariant-loop-i : goal.invariant-loop-i
invariant-loop-i l =
    (l.same && same_list (take (l.n - l.i) (drop (l.a + l.i) l.deck)) (take (l.n - l.i) (drop (l.b + l.i) l.deck))) ≡ same_list (take l.n (drop l.a l.deck)) (take l.n (drop l.b l.deck))
