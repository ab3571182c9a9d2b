use Prim.Native.Nat.{◌-◌}
use lib.ListN.{length}
use Rattle.pairing.specs.Keys.{NoMark}
use Rattle.pairing.proofs.marks.skip_marks.Given as goal

-- the mark stands nowhere between `from` and k
abbrev pub invariant-loop-k : goal.invariant-loop-k
invariant-loop-k l = NoMark l.marks l.mark l.from l.k

abbrev pub decreases-loop-k : goal.decreases-loop-k
decreases-loop-k l = length l.marks - l.k
