use mathlib.Core.Path.{◌≡◌}
use Prim.Native.Nat.{ℕ, ◌≤◌}
use lib.ListN.{length}
use Rattle.tables.specs.Limits.{item_limit}
use Rattle.tables.specs.Records.{Element}
use Rattle.merge_rules.specs.Pairing.{Action}
use Rattle.pairing.specs.Walks.{Walks}
use Rattle.pairing.proofs.plan.import_rest.Given as goal

-- the walk came to the children of B that are left, each one before imported or passed
abbrev pub invariant-loop-b : goal.invariant-loop-b
invariant-loop-b l =
    Walks l.s (λ (act : Element → Element → Action) (end : ℕ). end ≡ l.position) (λ (n : ℕ). l.position ≤ item_limit) l.initial.work l.a l.fn.c.b l.initial.new l.work l.uses l.a l.b l.new
    × (length l.work ≡ length l.initial.work)
    × (length l.uses ≡ length l.initial.uses)
