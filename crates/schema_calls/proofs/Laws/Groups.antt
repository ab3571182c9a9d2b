-- Laws of a type's groups: whether one stands at a path, and its mode. Assumes nothing.
use mathlib.Core.Bool.{Bool}
use mathlib.Core.List.{List, ◌∷◌}
use mathlib.Core.Option.{none, some}
use mathlib.Core.Path.{◌≡◌, refl, sym, ap, ◌∙◌}
use Prim.Native.Nat.{ℕ, zero, suc, ◌≤◌}
use lib.ListN.{length, get_or}
use Rattle.tables.specs.Paths.{front}
use Rattle.tables.specs.Records.{SchemaPath, Group, Schema, type_row}
use Rattle.tables.specs.SchemaTable.{no_group}
use Rattle.deck.specs.Schema.{group_at, has_group, group_mode}
use Rattle.schema_calls.specs.Calls.{group_matches, groups_above}
use Rattle.schema_calls.specs.Search.{any_below}
use Rattle.schema_calls.proofs.Laws.Closed.{has-any}
use Rattle.schema_calls.proofs.Laws.Schemas.{groups-all}
use Rattle.schema_calls.proofs.Laws.Search.{any-first}

-- one of the places above this one has the type and the path
pub has_above : (sc : Schema) (n t : ℕ) (p : SchemaPath) → n ≤ length sc.groups
    → {r : Bool} → r ≡ any_below (λ (i : ℕ). group_matches t p (get_or sc.groups i no_group)) n → r ≡ has_group (groups_above sc n) t p
unfolding groups_above
has_above sc n t p h e = any-first (group_matches t p) no_group sc.groups n h e ∙ sym (has-any (groups_above sc n) t p)

-- a path that has a part
part-some : (sc : Schema) (t x : ℕ) (cs : List ℕ) {g : Group} → (x ≡ 0 → ⊥) → group_at sc t (front (x ∷ cs)) ≡ some g → g.mode ≡ group_mode sc t (front (x ∷ cs))
unfolding group_mode front
part-some sc t zero cs h k = absurd (h refl)
part-some sc t (suc a) cs h k = rw (group_mode, k)

part_none : (sc : Schema) (t x : ℕ) (cs : List ℕ) → (x ≡ 0 → ⊥) → group_at sc t (front (x ∷ cs)) ≡ none → (type_row sc t).mode ≡ group_mode sc t (front (x ∷ cs))
unfolding group_mode front
part_none sc t zero cs h k = absurd (h refl)
part_none sc t (suc a) cs h k = rw (group_mode, k)

module _ (sc : Schema) (t x : ℕ) (cs : List ℕ) where
  -- the empty path
  pub mode-empty : x ≡ 0 → (type_row sc t).mode ≡ group_mode sc t (front (x ∷ cs))
  unfolding group_mode front
  mode-empty e = rw e

  module _ (n : ℕ) (all : n ≡ length sc.groups) (part : x ≡ 0 → ⊥) where
    at_all : group_at sc t (front (x ∷ cs)) ≡ group_at (groups_above sc n) t (front (x ∷ cs))
    at_all = ap (λ (s : Schema). group_at s t (front (x ∷ cs))) (sym (groups-all sc n all))

    pub mode-at : {g : Group} → group_at (groups_above sc n) t (front (x ∷ cs)) ≡ some g → g.mode ≡ group_mode sc t (front (x ∷ cs))
    mode-at e = part-some sc t x cs part (at_all ∙ e)

    pub mode-none : group_at (groups_above sc n) t (front (x ∷ cs)) ≡ none → (type_row sc t).mode ≡ group_mode sc t (front (x ∷ cs))
    mode-none e = part_none sc t x cs part (at_all ∙ e)
