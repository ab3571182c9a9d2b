use mathlib.Core.Path.{◌≡◌}
use Prim.Native.Nat.{◌-◌, ◌≤◌}
use lib.ListN.{length, drop}
use Rattle.tables.specs.Lists.{first_of}
use Rattle.pairing.specs.Keys.{is_name}
use Rattle.pairing.proofs.Laws.Siblings.{fits, Compared}
use Rattle.pairing.proofs.sibling.sibling.Given as goal

-- the bytes from j on decide whether all are equal
abbrev pub invariant-loop-j : goal.invariant-loop-j
invariant-loop-j l = Compared l.deck l.s l.start l.size l.j

-- the siblings from k on give the first that has A's name and key
abbrev pub invariant-siblings : goal.invariant-siblings
invariant-siblings l =
    let t = fits l.tables (is_name l.kind) l.n.0 l.key in
    (l.k ≤ length l.second) × (first_of t (drop l.k l.second) ≡ first_of t l.second)

abbrev pub decreases-siblings : goal.decreases-siblings
decreases-siblings l = length l.second - l.k
