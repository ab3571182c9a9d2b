use mathlib.Core.Path.{◌≡◌}
use Prim.Native.Nat.{◌≤◌}
use lib.ListN.{length}
use Rattle.tables.specs.ModelTable.{shift_out}
use Rattle.tables.proofs.model.move_down.Given as goal

abbrev pub invariant-loop-j : goal.invariant-loop-j
invariant-loop-j l = (shift_out l.s l.j l.k ≡ shift_out l.initial.s 0 l.k) × (length l.s ≡ length l.initial.s) × (l.j ≤ l.n)
