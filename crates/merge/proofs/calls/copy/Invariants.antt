use mathlib.Core.Path.{◌≡◌}
use lib.ListN.{length, take}
use Rattle.merge.proofs.calls.copy.Given as goal

-- the cells passed are those of the other table
abbrev pub invariant-loop-i : goal.invariant-loop-i
invariant-loop-i l = (length l.to ≡ length l.from) × (take l.i l.to ≡ take l.i l.from)
