-- A number that is read prints as it was written. Assumes nothing.
use mathlib.Core.Bool.{Bool, true, false, false≢true}
use mathlib.Core.List.{List, [], ◌∷◌, ◌++◌, append-nil}
use mathlib.Core.Option.{some}
use mathlib.Core.Path.{◌≡◌, refl, sym, subst, ◌∙◌}
use Prim.Native.Nat.{ℕ, zero, suc, ◌+◌, ◌-◌, ◌*◌, ◌≤◌, ◌<◌}
use native.Mathlib.Nat.{mod-eq_of_lt, div-eq_of_lt, mul-add-div_right, mul-add-mod_self_right, mul-le-mul_left}
use native.Mathlib.Omega.{arith}
use borrow.Author.Tests.{ltb-true, ltb-false, leb-true, leb-false, eqb-false, lt-ltb, le-ltb}
use lib.Dec.{eqb, leb, ltb}
use Rattle.tables.proofs.Laws.Cases.{bool-split, bool_case}
use Rattle.deck.specs.Deck.{Part, digit, value_from, plain, only, number}
use Rattle.deck.proofs.Laws.Numbers.{digit-below, digit-decimal, digit-between, digit-letter, digit-above}
use Rattle.merge_rules.specs.Program.{digit_byte, digits_before}
use Rattle.merge_rules.proofs.Laws.Cases.{IfSome, is_some, is_none, some-map, some-bind}

-- a byte below the radix is the byte of its worth
digit-back : (b : ℕ) → digit b < 16 → digit_byte (digit b) ≡ b
unfolding digit_byte
digit-back b h =
    bool-split (ltb b 48) (λ t. absurd (omega (arith, digit-below b (ltb-true b 48 t)))) (λ t.
    let low : 48 ≤ b = ltb-false b 48 t in
    bool-split (leb b 57) (λ u. let k : b ≤ 57 = leb-true b 57 u in rw (digit-decimal b low k, digit_byte, lt-ltb (b - 48) 10 (omega arith)) (omega (arith, digit-decimal b low k))) (λ u.
    let past : 57 < b = leb-false b 57 u in
    bool-split (ltb b 97) (λ v. absurd (omega (arith, digit-between b past (ltb-true b 97 v)))) (λ v.
    let letter : 97 ≤ b = ltb-false b 97 v in
    bool-split (leb b 102)
    (λ w. let k : b ≤ 102 = leb-true b 102 w in rw (digit-letter b letter k, digit_byte, le-ltb (b - 97 + 10) 10 (omega arith)) (omega (arith, digit-letter b letter k)))
    (λ w. absurd (omega (arith, digit-above b (leb-false b 102 w)))))))

-- only `0` is worth 0
digit-zero : (b : ℕ) → digit b ≡ 0 → b ≡ 48
unfolding digit_byte
digit-zero b h = sym (digit-back b (omega arith)) ∙ rw h

-- the bound on the count is past the number: a digit more, where the number is a digit
last-digit : (k radix d : ℕ) (written : List ℕ) → d < k → d < radix → digits_before k radix d written ≡ digit_byte d ∷ written
unfolding digits_before
last-digit zero radix d written h r = absurd (omega arith)
last-digit (suc k) radix d written h r = rw (digits_before, lt-ltb d radix r, mod-eq_of_lt r)

-- a digit more, where there are others
next-digit : (k radix v d : ℕ) (written : List ℕ) → d < radix → 1 ≤ v
    → digits_before (suc k) radix (v * radix + d) written ≡ digits_before k radix v (digit_byte d ∷ written)
unfolding digits_before
next-digit k radix v d written r h =
    let most : radix ≤ v * radix = omega (arith, mul-le-mul_left radix h) in
    let z : v + 0 ≡ v = omega arith in
    rw (
      digits_before,
      le-ltb (v * radix + d) radix (omega arith),
      mul-add-mod_self_right v radix d,
      mod-eq_of_lt r,
      mul-add-div_right {m = radix} (omega arith) v d,
      div-eq_of_lt r,
      z,
    )

-- what holds of the value, whatever the test
pub only-any : {A : Type 0} {D : A → Type 0} (b : Bool) (a : A) → D a → IfSome D (only b a)
unfolding only
only-any true a h = is_some h
only-any false a h = is_none

-- the digits behind a number already read are printed behind it
record Before (radix k v v₀ : ℕ) (bs written : List ℕ) : Type 0 where
  left : ℕ
  past : v₀ < left
  is : digits_before k radix v written ≡ digits_before left radix v₀ (bs ++ written)

module _ (radix : ℕ) (low : 2 ≤ radix) (high : radix ≤ 16) where
  step_back : (b : ℕ) (bs : List ℕ) (v₀ : ℕ) → 1 ≤ v₀ → digit b < radix → (v k : ℕ) → Before radix k v (v₀ * radix + digit b) bs []
      → Before radix k v v₀ (b ∷ bs) []
  step_back b bs v₀ h d v k t = go t.left t.past t.is
    where
      go : (left : ℕ) → v₀ * radix + digit b < left → digits_before k radix v [] ≡ digits_before left radix (v₀ * radix + digit b) (bs ++ [])
          → Before radix k v v₀ (b ∷ bs) []
      go zero p e = absurd (omega arith)
      go (suc left) p e =
          record {
            left = left;
            past = omega (arith, mul-le-mul_left v₀ low);
            is = e ∙ next-digit left radix v₀ (digit b) (bs ++ []) d h ∙ rw (digit-back b (omega arith));
          }

  digits-before : (bs : List ℕ) (v₀ : ℕ) → 1 ≤ v₀ → IfSome (λ (v : ℕ). (k : ℕ) → v < k → Before radix k v v₀ bs []) (value_from radix v₀ bs)
  unfolding value_from
  digits-before [] v₀ h = is_some (λ k p. record { left = k; past = p; is = refl })
  digits-before (b ∷ bs) v₀ h =
      bool_case (IfSome (λ (v : ℕ). (k : ℕ) → v < k → Before radix k v v₀ (b ∷ bs) [])) (ltb (digit b) radix)
      (λ t.
      some-map (λ v e k p. step_back b bs v₀ h (ltb-true (digit b) radix t) v k (e k p))
      (digits-before bs (v₀ * radix + digit b) (omega (arith, mul-le-mul_left v₀ low))))
      (λ _. is_none)

  -- the first digit, which is not 0 where there are others
  first_back : (b : ℕ) (bs : List ℕ) → digit b < radix → (v : ℕ) → Before radix (suc v) v (digit b) bs [] → digits_before (suc v) radix v [] ≡ b ∷ bs
  first_back b bs d v t =
      t.is ∙ last-digit t.left radix (digit b) (bs ++ []) t.past d
      ∙ rw (digit-back b (omega arith), append-nil bs)

  digits-back : (bs : List ℕ) → plain bs ≡ true → IfSome (λ (v : ℕ). digits_before (suc v) radix v [] ≡ bs) (value_from radix 0 bs)
  unfolding value_from plain
  digits-back [] h = absurd (false≢true h)
  digits-back (b ∷ []) h =
      bool_case (IfSome (λ (v : ℕ). digits_before (suc v) radix v [] ≡ b ∷ [])) (ltb (digit b) radix)
      (λ t.
      let z : 0 * radix + digit b ≡ digit b = omega arith in
      is_some (rw z (first_back b [] (ltb-true _ _ t) (digit b) (record { left = suc (digit b); past = omega arith; is = refl }))))
      (λ _. is_none)
  digits-back (b ∷ c ∷ bs) h =
      bool_case (IfSome (λ (v : ℕ). digits_before (suc v) radix v [] ≡ b ∷ c ∷ bs)) (ltb (digit b) radix)
      (λ t.
      let z : 0 * radix + digit b ≡ digit b = omega arith in
      let other : eqb b 48 ≡ false = bool-split (eqb b 48) (λ e. absurd (false≢true (sym (rw (e, plain)) ∙ h))) (λ e. e) in
      let some : 1 ≤ digit b =
      bool-split (ltb 0 (digit b)) (ltb-true 0 (digit b)) (λ u. absurd (eqb-false b 48 other (digit-zero b (omega (arith, ltb-false 0 (digit b) u))))) in
      subst (λ (n : ℕ). IfSome (λ (v : ℕ). digits_before (suc v) radix v [] ≡ b ∷ c ∷ bs) (value_from radix n (c ∷ bs))) (sym z)
      (some-map (λ v e. first_back b (c ∷ bs) (ltb-true (digit b) radix t) v (e (suc v) (omega arith))) (digits-before (c ∷ bs) (digit b) some)))
      (λ _. is_none)

  -- the number's digits are the field
  pub number-back : (most : ℕ) (p : Part) → IfSome (λ (v : ℕ). digits_before (suc v) radix v [] ≡ p.bytes) (number radix most p)
  unfolding number
  number-back most p =
      bool_case (IfSome (λ (v : ℕ). digits_before (suc v) radix v [] ≡ p.bytes)) (plain p.bytes)
      (λ h. some-bind (digits-back p.bytes h) (λ v e. only-any _ v e)) (λ _. is_none)
