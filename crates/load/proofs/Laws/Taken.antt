-- Numbers that entries take: an entry of a new number makes one more, and has room. Assumes nothing.
use mathlib.Core.Bool.{Bool, true, false}
use mathlib.Core.List.{List, [], ◌∷◌, ◌++◌}
use mathlib.Core.Path.{◌≡◌, refl, ap}
use Prim.Native.Nat.{ℕ, zero, suc, ◌≤◌, ◌<◌}
use native.Mathlib.Omega.{arith}
use borrow.Author.Tests.{eqb-true, eqb-false, ne_eqb}
use lib.Dec.{eqb}
use lib.ListN.{length, length-append}
use Rattle.tables.specs.Lists.{any_of}
use Rattle.tables.proofs.Laws.Scans.{any-snoc-false, any-snoc-true}
use Rattle.load.specs.Lines.{taken}

abbrev counted : Bool → ℕ → ℕ
counted b k = elim b [ true ↦ suc k | false ↦ k ]

module _ {A : Type 0} (number : A → ℕ) where
  abbrev has : ℕ → List A → Bool
  has n l = any_of (λ x. eqb (number x) n) l

  pub taken-le : (n : ℕ) (l : List A) → taken number n l ≤ n
  unfolding taken
  taken-le zero l = omega arith
  taken-le (suc n) l = go (has n l) (taken-le n l)
    where
      go : (b : Bool) → taken number n l ≤ n → counted b (taken number n l) ≤ suc n
      go true h = omega arith
      go false h = omega arith

  -- a number that is not below n counts for nothing
  taken-past : (n : ℕ) (l : List A) (a : A) → n ≤ number a → taken number n (l ++ (a ∷ [])) ≡ taken number n l
  unfolding taken
  taken-past zero l a h = refl
  taken-past (suc n) l a h =
      rw (any-snoc-false (λ x. eqb (number x) n) a (ne_eqb (number a) n (λ e. omega arith)) l, taken)
      (ap (counted (has n l)) (taken-past n l a (omega arith)))

  pub taken-snoc : (n : ℕ) (l : List A) (a : A) → number a < n → has (number a) l ≡ false
      → taken number n (l ++ (a ∷ [])) ≡ suc (taken number n l)
  unfolding taken
  taken-snoc zero l a h new = absurd (omega arith)
  taken-snoc (suc n) l a h new = go (eqb (number a) n) refl (λ k. taken-snoc n l a k new)
    where
      below : (b : Bool) → taken number n (l ++ (a ∷ [])) ≡ suc (taken number n l)
          → counted b (taken number n (l ++ (a ∷ []))) ≡ suc (counted b (taken number n l))
      below true e = ap suc e
      below false e = e

      go : (b : Bool) → eqb (number a) n ≡ b → (number a < n → taken number n (l ++ (a ∷ [])) ≡ suc (taken number n l))
          → taken number (suc n) (l ++ (a ∷ [])) ≡ suc (taken number (suc n) l)
      go true e rest =
          let z : number a ≡ n = eqb-true (number a) n e in
          let none : has n l ≡ false = rw z at new in
          rw (any-snoc-true (λ x. eqb (number x) n) a e l, taken, none, taken) (ap suc (taken-past n l a (omega arith)))
      go false e rest =
          let k : number a < n = omega (arith, eqb-false (number a) n e) in
          rw (any-snoc-false (λ x. eqb (number x) n) a e l, taken) (below (has n l) (rest k))

  -- where each entry has a number of its own, a new number below n has room
  pub taken-room : (n : ℕ) (l : List A) (a : A) → number a < n → has (number a) l ≡ false → length l ≡ taken number n l → length l < n
  taken-room n l a h new e = omega (arith, taken-snoc n l a h new, taken-le n (l ++ (a ∷ [])))

  -- and each entry still has one
  pub taken_more : (n : ℕ) (l : List A) (a : A) → number a < n → has (number a) l ≡ false → length l ≡ taken number n l
      → length (l ++ (a ∷ [])) ≡ taken number n (l ++ (a ∷ []))
  taken_more n l a h new e = rw (taken-snoc n l a h new, length-append l (a ∷ [])) (omega arith)
