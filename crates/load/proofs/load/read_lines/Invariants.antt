use Prim.Native.Nat.{◌-◌}
use lib.ListN.{length}
use Rattle.load.proofs.Laws.Reading.{Reading}
use Rattle.load.proofs.load.read_lines.Given as goal

abbrev pub invariant-loop-at : goal.invariant-loop-at
invariant-loop-at l = Reading l.deck l.p l.at l.n l.schema l.elements l.model

abbrev pub decreases-loop-at : goal.decreases-loop-at
decreases-loop-at l = length l.deck - l.at
