-- Numbers of a field: the value read so far, and what the rest of the digits makes of it. Assumes nothing.
use mathlib.Core.Bool.{Bool, true, false}
use mathlib.Core.List.{List, [], ◌∷◌}
use mathlib.Core.Option.{Option, none, some, bind}
use mathlib.Core.Path.{◌≡◌, refl, sym, ◌∙◌, ap}
use Prim.Native.Nat.{ℕ, ◌+◌, ◌-◌, ◌*◌, ◌/◌, ◌≤◌, ◌<◌}
use native.Mathlib.Nat.{div-lt_iff_lt-mul, le-div_iff_mul-le, le-mul_of_pos_right}
use native.Mathlib.Numerals.{add-one}
use native.Mathlib.Omega.{arith}
use borrow.Author.Tests.{lt-ltb, le-ltb, le-leb, lt-leb, eq-eqb, ne_eqb, leb-true}
use lib.Dec.{leb, ltb}
use lib.ListN.{length, get_or, drop, drop_of_length-le}
use lib.Seq.{drop-cons}
use Rattle.deck.specs.Deck.{Part, digit, value_from, plain, only, number}
use Rattle.std.specs.Prelude as program_option
use Rattle.std.specs.Prelude.{Some}
use Rattle.deck.specs.Answers.{whole, num_is}

-- the digits behind a number already read, where the whole is at most the largest one
unfoldable pub rest : ℕ → ℕ → ℕ → List ℕ → Option ℕ
rest radix most v bs = bind (value_from radix v bs) (λ w. only (leb w most) w)

-- ---- the overflow test

pub over : (radix most v d : ℕ) → 0 < radix → d ≤ most → (most - d) / radix < v → most < v * radix + d
over radix most v d p h t = omega (arith, (div-lt_iff_lt-mul {k = radix} {x = most - d} {y = v} p).0 t)

pub within : (radix most v d : ℕ) → 0 < radix → d ≤ most → v ≤ (most - d) / radix → v * radix + d ≤ most
within radix most v d p h t = omega (arith, (le-div_iff_mul-le {k = radix} {x = v} {y = most - d} p).0 t)

-- a number past the largest one is never brought back by more digits
pub rest_over : (radix most v : ℕ) (bs : List ℕ) → 0 < radix → most < v → rest radix most v bs ≡ none
unfolding rest value_from only bind
rest_over radix most v [] p h = rw (lt-leb v most h)
rest_over radix most v (b ∷ bs) p h =
    by-digit (ltb (digit b) radix) (rest_over radix most (v * radix + digit b) bs p (omega (arith, le-mul_of_pos_right v p)))
  where
    by-digit : (t : Bool) → bind (value_from radix (v * radix + digit b) bs) (λ w. only (leb w most) w) ≡ none
        → bind (elim t [ true ↦ value_from radix (v * radix + digit b) bs | false ↦ none ]) (λ w. only (leb w most) w) ≡ none
    by-digit true e = e
    by-digit false e = refl

-- ---- along the bytes of a field

module _ (radix most v : ℕ) (s : List ℕ) (i : ℕ) where
  pub rest_more : i < length s → digit (get_or s i 0) < radix
      → rest radix most v (drop i s) ≡ rest radix most (v * radix + digit (get_or s i 0)) (drop (i + 1) s)
  unfolding rest value_from
  rest_more h t = rw (add-one i, drop-cons s i 0 h, rest, value_from, lt-ltb (digit (get_or s i 0)) radix t)

  pub rest-bad : i < length s → radix ≤ digit (get_or s i 0) → rest radix most v (drop i s) ≡ none
  unfolding rest value_from bind
  rest-bad h t = rw (drop-cons s i 0 h, rest, value_from, le-ltb (digit (get_or s i 0)) radix t)

  pub rest_end : length s ≤ i → v ≤ most → rest radix most v (drop i s) ≡ some v
  unfolding rest value_from bind only
  rest_end h t = rw (drop_of_length-le s h, le-leb v most t)

  -- the value with this digit is past the largest one
  pub rest-past : 0 < radix → i < length s → digit (get_or s i 0) < radix → most < v * radix + digit (get_or s i 0)
      → rest radix most v (drop i s) ≡ none
  rest-past p h t o = rest_more h t ∙ rest_over radix most (v * radix + digit (get_or s i 0)) (drop (i + 1) s) p o

pub number-plain : (radix most : ℕ) (s : List ℕ) → plain s ≡ true → number radix most (whole s) ≡ rest radix most 0 (drop 0 s)
unfolding number rest
number-plain radix most s h = rw (number, h)

pub number-none : (radix most : ℕ) (s : List ℕ) → plain s ≡ false → number radix most (whole s) ≡ none
unfolding number
number-none radix most s h = rw (number, h)

pub plain-empty : (s : List ℕ) → length s ≡ 0 → plain s ≡ false
unfolding plain
plain-empty [] h = refl
plain-empty (b ∷ bs) h = absurd (omega arith)

pub plain-one : (s : List ℕ) → length s ≡ 1 → plain s ≡ true
unfolding plain
plain-one [] h = absurd (omega arith)
plain-one (b ∷ []) h = refl
plain-one (b ∷ c ∷ bs) h = absurd (omega arith)

pub plain-zero : (s : List ℕ) → (length s ≡ 0 → ⊥) → (length s ≡ 1 → ⊥) → get_or s 0 0 ≡ 48 → plain s ≡ false
unfolding plain
plain-zero [] h k e = absurd (h refl)
plain-zero (b ∷ []) h k e = absurd (k refl)
plain-zero (b ∷ c ∷ bs) h k e = rw (plain, eq-eqb b 48 e)

pub plain_other : (s : List ℕ) → (length s ≡ 0 → ⊥) → (length s ≡ 1 → ⊥) → (get_or s 0 0 ≡ 48 → ⊥) → plain s ≡ true
unfolding plain
plain_other [] h k e = absurd (h refl)
plain_other (b ∷ []) h k e = absurd (k refl)
plain_other (b ∷ c ∷ bs) h k e = rw (plain, ne_eqb b 48 e)

-- the first i bytes give the value v
pub record NumberReading (radix most : ℕ) (s : List ℕ) (v i : ℕ) : Type 0 where
  pub place : i ≤ length s
  pub small : v ≤ most
  pub left : number radix most (whole s) ≡ rest radix most v (drop i s)

-- a number read is at most the largest one
pub number-most : (radix most : ℕ) (p : Part) (v : ℕ) → number radix most p ≡ some v → v ≤ most
unfolding number bind only
number-most radix most p v e = by-plain (plain p.bytes) (value_from radix 0 p.bytes) e
  where
    by-test : (t : Bool) (w : ℕ) → leb w most ≡ t → only t w ≡ some v → v ≤ most
    by-test true w h e = let z : w ≡ v = cc in omega (arith, leb-true w most h)
    by-test false w h e = let z : ◌≡◌ {A = ℕ} 0 1 = cc in absurd (omega arith)

    by-plain : (t : Bool) (o : Option ℕ) → elim t [ true ↦ bind o (λ w. only (leb w most) w) | false ↦ none ] ≡ some v → v ≤ most
    by-plain true none e = let z : ◌≡◌ {A = ℕ} 0 1 = cc in absurd (omega arith)
    by-plain true (some w) e = by-test (leb w most) w refl e
    by-plain false o e = let z : ◌≡◌ {A = ℕ} 0 1 = cc in absurd (omega arith)

pub read-most : (radix most : ℕ) (p : Part) (r : program_option.Option ℕ) (v : ℕ) → num_is r ≡ number radix most p → r ≡ Some v → v ≤ most
unfolding num_is
read-most radix most p r v e g = number-most radix most p v (sym e ∙ ap num_is g)

-- where a field begins does not matter to its number
pub number-bytes : (radix most : ℕ) (p : Part) → number radix most p ≡ number radix most (whole p.bytes)
unfolding number
number-bytes radix most p = refl

-- ---- digits

pub digit-below : (b : ℕ) → b < 48 → digit b ≡ 16
unfolding digit
digit-below b h = rw (digit, lt-leb 48 b h, lt-leb 97 b (omega arith))

pub digit-decimal : (b : ℕ) → 48 ≤ b → b ≤ 57 → digit b ≡ b - 48
unfolding digit
digit-decimal b h k = rw (digit, le-leb 48 b h, le-leb b 57 k)

pub digit-between : (b : ℕ) → 57 < b → b < 97 → digit b ≡ 16
unfolding digit
digit-between b h k = rw (digit, le-leb 48 b (omega arith), lt-leb b 57 h, lt-leb 97 b k)

pub digit-letter : (b : ℕ) → 97 ≤ b → b ≤ 102 → digit b ≡ b - 97 + 10
unfolding digit
digit-letter b h k = rw (digit, le-leb 48 b (omega arith), lt-leb b 57 (omega arith), le-leb 97 b h, le-leb b 102 k)

pub digit-above : (b : ℕ) → 102 < b → digit b ≡ 16
unfolding digit
digit-above b h = rw (digit, le-leb 48 b (omega arith), lt-leb b 57 (omega arith), le-leb 97 b (omega arith), lt-leb b 102 h)
