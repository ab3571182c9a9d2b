use mathlib.Core.Path.{◌≡◌}
use Prim.Native.Nat.{◌+◌, ◌-◌, ◌≤◌}
use lib.ListN.{length, take}
use Rattle.tables.specs.Lists.{remove_run}
use Rattle.tables.proofs.model.move_up.Given as goal

-- the cells from j + k on are moved
abbrev pub invariant-loop-j : goal.invariant-loop-j
invariant-loop-j l = (remove_run l.s l.j l.k ≡ take (length l.initial.s - l.k) l.initial.s) × (length l.s ≡ length l.initial.s) × (l.j + l.k ≤ length l.initial.s)
