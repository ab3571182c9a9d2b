-- The open elements: the owner that a depth asks for, and one element opened. Assumes nothing.
use mathlib.Core.List.{List, [], ◌∷◌, ◌++◌}
use mathlib.Core.Option.{none, some, none-ne-some, some-injective}
use mathlib.Core.Path.{◌≡◌, refl, sym, ap, ◌∙◌, subst}
use Prim.Native.Nat.{ℕ, zero, suc, ◌+◌, ◌-◌, ◌≤◌, ◌<◌}
use native.Mathlib.Nat.{not-suc-le-zero, le_of_suc-le-suc}
use native.Mathlib.Numerals.{add-one}
use native.Mathlib.Omega.{arith}
use lib.ListN.{length, get_or, get_elem?, take, set}
use lib.Seq.{take-suc-set}
use Rattle.tables.specs.Cells.{Each}
use Rattle.tables.specs.Records.{Element}
use Rattle.tables.specs.ModelTable.{parent_is}
use Rattle.std.specs.Prelude as program_option
use Rattle.tables.specs.declared.numbers.Element as program_element
use Rattle.deck.specs.Load.{Loading, owner}
use Rattle.load.specs.Lines.{loading_of}
use Rattle.load.specs.declared.progress.Progress.{Progress}

module _ {A : Type 0} where
  elem_past : (n i : ℕ) (l : List A) → n ≤ i → get_elem? (take n l) i ≡ none
  elem_past zero i l h = refl
  elem_past (suc n) i [] h = refl
  elem_past (suc n) zero (x ∷ l) h = absurd (not-suc-le-zero h)
  elem_past (suc n) (suc i) (x ∷ l) h = elem_past n i l (le_of_suc-le-suc h)

  elem_at : (n i : ℕ) (l : List A) (d : A) → i < n → i < length l → get_elem? (take n l) i ≡ some (get_or l i d)
  elem_at zero i l d h k = absurd (not-suc-le-zero h)
  elem_at (suc n) i [] d h k = absurd (not-suc-le-zero k)
  elem_at (suc n) zero (x ∷ l) d h k = refl
  elem_at (suc n) (suc i) (x ∷ l) d h k = elem_at n i l d (le_of_suc-le-suc h) (le_of_suc-le-suc k)

  elem-each : (P : A → Type 0) (l : List A) (i : ℕ) (a : A) → Each P l → get_elem? l i ≡ some a → P a
  elem-each P [] i a f h = absurd (none-ne-some a h)
  elem-each P (x ∷ l) zero a f h = subst P (some-injective x a h) f.0
  elem-each P (x ∷ l) (suc i) a f h = elem-each P l i a f.1 h

  -- one more open, at this depth
  pub opened-at : (l : List A) (d : ℕ) (a : A) → d < length l → take (d + 1) (set l d a) ≡ take d l ++ (a ∷ [])
  opened-at l d a h = rw (add-one d) (take-suc-set l d a h)

module _ (l : Loading) where
  pub owner-root : (d : ℕ) → d ≡ 0 → none ≡ owner l d
  unfolding owner
  owner-root zero h = refl
  owner-root (suc d) h = absurd (omega arith)

  module _ (n : ℕ) (above : List Element) (e : l.above ≡ take n above) where
    pub owner-past : (d : ℕ) → n < d → none ≡ owner l d
    unfolding owner
    owner-past zero h = refl
    owner-past (suc d) h = sym (ap (λ (a : List Element). get_elem? a d) e ∙ elem_past n d above (le_of_suc-le-suc h))

    pub owner_at : (d : ℕ) → (d ≡ 0 → ⊥) → d ≤ n → n ≤ length above → some (get_or above (d - 1) 0) ≡ owner l d
    unfolding owner
    owner_at zero z h k = absurd (z refl)
    owner_at (suc d) z h k =
        let p : suc d - 1 ≡ d = omega arith in
        rw p (sym (ap (λ (a : List Element). get_elem? a d) e ∙ elem_at n d above 0 (omega arith) (omega arith)))

  -- an owner is an element
  pub owner-element : (n d p : ℕ) → Each (λ (e : Element). e < n) l.above → owner l d ≡ some p → p < n
  unfolding owner
  owner-element n zero p f h = absurd (none-ne-some p h)
  owner-element n (suc d) p f h = elem-each (λ (e : Element). e < n) l.above d p f h

  -- no owner at depth 0
  pub owner-deep : (d p : ℕ) → owner l d ≡ some p → d ≡ 0 → ⊥
  owner-deep d p h z = none-ne-some p (owner-root d z ∙ h)

-- the owner that the program found
pub owner-told : (p : Progress) (schema elements model : List ℕ) (d : ℕ) (r q : program_option.Option program_element.Element)
    → ((l : Loading) → l.above ≡ take p.depth p.above → parent_is r ≡ owner l d) → r ≡ q
    → owner (loading_of p schema elements model) d ≡ parent_is q
owner-told p schema elements model d r q f e = sym (f (loading_of p schema elements model) refl) ∙ ap parent_is e
