-- Tables of readings by their letters. Assumes nothing.
use mathlib.Core.Bool.{Bool, true, false}
use mathlib.Core.List.{List, [], ◌∷◌}
use mathlib.Core.Option.{Option, none, some}
use mathlib.Core.Path.{◌≡◌, refl, sym}
use Prim.Native.Nat.{ℕ}
use borrow.Author.Tests.{ne_eqb}
use lib.Dec.{eqb}
use Rattle.tables.specs.Cells.{Each}
use Rattle.tables.specs.Lists.{first_of}
use Rattle.deck.specs.Deck.{by_letter}

module _ {A B : Type 0} where
  -- a letter that the table does not have
  pub letter-unknown : (table : List (ℕ × (A → Option B))) (k : ℕ) (a : A) → Each (λ (r : ℕ × (A → Option B)). k ≡ r.0 → ⊥) table
      → by_letter table k a ≡ none
  unfolding by_letter first_of
  letter-unknown [] k a n = refl
  letter-unknown (r ∷ rs) k a n = rw (by_letter, first_of, ne_eqb r.0 k (λ h. n.0 (sym h))) (letter-unknown rs k a n.1)

  -- what every reading of the table reads alike
  pub letter-alike : (table : List (ℕ × (A → Option B))) (k : ℕ) (a b : A) → Each (λ (r : ℕ × (A → Option B)). r.1 a ≡ r.1 b) table
      → by_letter table k a ≡ by_letter table k b
  unfolding by_letter first_of
  letter-alike [] k a b e = refl
  letter-alike (r ∷ rs) k a b e = go (eqb r.0 k) (letter-alike rs k a b e.1)
    where
      pick : Bool → Option (ℕ × (A → Option B))
      pick t = elim t [ true ↦ some r | false ↦ first_of (λ (q : ℕ × (A → Option B)). eqb q.0 k) rs ]

      go : (t : Bool) → by_letter rs k a ≡ by_letter rs k b
          → ◌≡◌ {A = Option B} (elim (pick t) [ none ↦ none | some q ↦ q.1 a ]) (elim (pick t) [ none ↦ none | some q ↦ q.1 b ])
      go true h = e.0
      go false h = h
