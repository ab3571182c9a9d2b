use mathlib.Core.Path.{ap}
use Prim.Native.Nat.{ℕ, ◌/◌, ◌%◌, ◌^◌}
use lib.Dec.{eqb}
use Rattle.deck.specs.Schema.{splittable_in}
use Rattle.schema_calls.proofs.calls.splittable_in.Goals as goal

pub returns : goal.returns
unfolding splittable_in
returns c = ap (λ (split : ℕ). eqb (split / 2 ^ c.args.v % 2) 1) c.type_split-split.ensures
