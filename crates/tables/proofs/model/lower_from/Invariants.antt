use mathlib.Core.Path.{◌≡◌}
use Prim.Native.Nat.{ℕ, ◌-◌, ◌≤◌, ◌<◌}
use lib.ListN.{length, get_or}
use Rattle.tables.specs.ModelTable.{on_from}
use Rattle.tables.proofs.model.lower_from.Given as goal

abbrev pub invariant-loop-j : goal.invariant-loop-j
invariant-loop-j l = (on_from (λ (x : ℕ). x - l.k) l.s l.j ≡ on_from (λ (x : ℕ). x - l.k) l.initial.s l.i) × (length l.s ≡ length l.initial.s) × ((n : ℕ) → l.j ≤ n → n < length l.initial.s → l.k ≤ get_or l.s n 0)
