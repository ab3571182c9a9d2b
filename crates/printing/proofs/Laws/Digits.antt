-- Laws of the digits of a number: what stands before the last one are the digits of the number without it. Assumes nothing.
use mathlib.Core.Bool.{Bool, true, false}
use mathlib.Core.List.{List, [], ◌∷◌, ◌++◌, append_assoc}
use mathlib.Core.Path.{◌≡◌, refl, sym, ap, ◌∙◌}
use Prim.Native.Nat.{ℕ, zero, suc, ◌*◌, ◌/◌, ◌%◌, ◌≤◌, ◌<◌}
use native.Mathlib.Nat.{div-lt_iff_lt-mul, not-suc-le-zero}
use native.Mathlib.Omega.{arith}
use borrow.Author.Tests.{lt-ltb, le-ltb, ltb-false}
use lib.Dec.{ltb}
use Rattle.merge_rules.specs.Program.{digit_byte, digits_before}

pub div-less : (n radix : ℕ) → 1 < radix → radix ≤ n → n / radix < n
div-less n radix h k = (div-lt_iff_lt-mul {k = radix} {x = n} {y = n} (omega arith)).1 (more n radix h (omega arith))
  where
    more : (n radix : ℕ) → 1 < radix → 0 < n → n < n * radix
    more n (suc (suc r)) h k = omega arith
    more n zero h k = absurd (omega arith)
    more n (suc zero) h k = absurd (omega arith)

-- what is written already stays behind
before : (k radix n : ℕ) (w : List ℕ) → digits_before k radix n w ≡ digits_before k radix n [] ++ w
unfolding digits_before
before zero radix n w = refl
before (suc k) radix n w =
    by-test (ltb n radix) _ _
    (before k radix (n / radix) (digit_byte (n % radix) ∷ w)
    ∙ sym
    (ap (λ (l : List ℕ). l ++ w) (before k radix (n / radix) (digit_byte (n % radix) ∷ []))
    ∙ append_assoc (digits_before k radix (n / radix) []) (digit_byte (n % radix) ∷ []) w))
  where
    by-test : (t : Bool) (x y : List ℕ) → x ≡ y ++ w
        → ◌≡◌ {A = List ℕ} (elim t [ true ↦ digit_byte (n % radix) ∷ w | false ↦ x ]) (elim t [ true ↦ digit_byte (n % radix) ∷ [] | false ↦ y ] ++ w)
    by-test true x y e = refl
    by-test false x y e = e

-- the bound of the count does not matter
bounds : (j k radix n : ℕ) (w : List ℕ) → 1 < radix → n < j → n < k → digits_before j radix n w ≡ digits_before k radix n w
unfolding digits_before
bounds zero k radix n w h a b = absurd (not-suc-le-zero a)
bounds (suc j) zero radix n w h a b = absurd (not-suc-le-zero b)
bounds (suc j) (suc k) radix n w h a b =
    by-test (ltb n radix) refl
    (λ g.
    let l = div-less n radix h g in
    bounds j k radix (n / radix) (digit_byte (n % radix) ∷ w) h (omega arith) (omega arith))
  where
    by-test : (t : Bool) → ltb n radix ≡ t → {x y : List ℕ} → (radix ≤ n → x ≡ y)
        → ◌≡◌ {A = List ℕ} (elim t [ true ↦ digit_byte (n % radix) ∷ w | false ↦ x ]) (elim t [ true ↦ digit_byte (n % radix) ∷ w | false ↦ y ])
    by-test true e f = refl
    by-test false e f = f (ltb-false n radix e)

module _ (n radix : ℕ) where
  pub one-digit : n < radix → digit_byte (n % radix) ∷ [] ≡ digits_before (suc n) radix n []
  unfolding digits_before
  one-digit h = rw (digits_before, lt-ltb n radix h)

  pub more-digits : 1 < radix → radix ≤ n
      → digits_before (suc (n / radix)) radix (n / radix) [] ++ (digit_byte (n % radix) ∷ []) ≡ digits_before (suc n) radix n []
  unfolding digits_before
  more-digits h k =
      let l = div-less n radix h k in
      let e : digits_before n radix (n / radix) (digit_byte (n % radix) ∷ []) ≡ digits_before (suc n) radix n [] = rw (digits_before, le-ltb n radix k) in
      ap (λ (q : List ℕ). q ++ (digit_byte (n % radix) ∷ [])) (bounds (suc (n / radix)) n radix (n / radix) [] h (omega arith) (omega arith))
      ∙ sym (before n radix (n / radix) (digit_byte (n % radix) ∷ []))
      ∙ e
