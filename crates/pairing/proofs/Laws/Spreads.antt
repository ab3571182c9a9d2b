-- Laws of `spread`: what a function gives of numbers in order. Assumes nothing.
use mathlib.Core.List.{List, [], ◌∷◌, ◌++◌, append_assoc, append-nil}
use mathlib.Core.Path.{◌≡◌, refl, sym, ap, ◌∙◌}
use Prim.Native.Nat.{ℕ, zero, suc, ◌+◌, ◌-◌, ◌≤◌, ◌<◌}
use native.Mathlib.Numerals.{add-one}
use native.Mathlib.Omega.{arith}
use lib.ListN.{length, get_or}
use Rattle.pairing.specs.Plans.{spread}

module _ {A : Type 0} (f : ℕ → List A) where
  -- one number more, at the end
  pub spread-suc : (i n : ℕ) → spread f i (suc n) ≡ spread f i n ++ f (i + n)
  unfolding spread
  spread-suc i zero = let e : i + 0 ≡ i = omega arith in rw (append-nil, e)
  spread-suc i (suc n) =
      let e : suc i + n ≡ i + suc n = omega arith in
      ap (λ (l : List A). f i ++ l) (spread-suc (suc i) n ∙ rw e) ∙ sym (append_assoc (f i) (spread f (suc i) n) (f (i + suc n)))

  pub spread-more : (i n : ℕ) → spread f i (n + 1) ≡ spread f i n ++ f (i + n)
  spread-more i n = rw (add-one n) (spread-suc i n)

  pub spread-last : (n : ℕ) → spread f 0 (n + 1) ≡ spread f 0 n ++ f n
  spread-last n = let e : 0 + n ≡ n = omega arith in spread-more 0 n ∙ rw e

  -- one number less, at the front: the turn and the end of a loop over the numbers below e
  pub spread-here : (i e : ℕ) → i < e → spread f i (e - i) ≡ f i ++ spread f (i + 1) (e - (i + 1))
  unfolding spread
  spread-here i e h = let k : e - i ≡ suc (e - (i + 1)) = omega arith in rw (k, add-one i)

  pub spread-done : (i e : ℕ) → e ≤ i → spread f i (e - i) ≡ []
  unfolding spread
  spread-done i e h = let k : e - i ≡ 0 = omega arith in rw k

  -- some numbers, and then the others
  pub spread-split : (i a b : ℕ) → spread f i (a + b) ≡ spread f i a ++ spread f (i + a) b
  unfolding spread
  spread-split i zero b = let e : 0 + b ≡ b = omega arith in let g : i + 0 ≡ i = omega arith in rw (e, g)
  spread-split i (suc a) b =
      let e : suc a + b ≡ suc (a + b) = omega arith in
      let g : suc i + a ≡ i + suc a = omega arith in
      rw (e, spread-split (suc i) a b, g) (sym (append_assoc (f i) (spread f (suc i) a) (spread f (i + suc a) b)))

  -- no entry for any
  pub spread_none : (i n : ℕ) → ((m : ℕ) → i ≤ m → m < i + n → f m ≡ []) → spread f i n ≡ []
  unfolding spread
  spread_none i zero h = refl
  spread_none i (suc n) h = rw (h i (omega arith) (omega arith)) (spread_none (suc i) n (λ m a b. h m (omega arith) (omega arith)))

pub spread_same : {A : Type 0} (f g : ℕ → List A) (i n : ℕ) → ((m : ℕ) → i ≤ m → m < i + n → f m ≡ g m) → spread f i n ≡ spread g i n
unfolding spread
spread_same f g i zero h = refl
spread_same f g i (suc n) h =
    rw (h i (omega arith) (omega arith)) (ap (λ (l : List _). g i ++ l) (spread_same f g (suc i) n (λ m a b. h m (omega arith) (omega arith))))

-- one entry for each number
module _ {A : Type 0} (g : ℕ → A) where
  pub length-singles : (i n : ℕ) → length (spread (λ (m : ℕ). g m ∷ []) i n) ≡ n
  unfolding spread
  length-singles i zero = refl
  length-singles i (suc n) = ap suc (length-singles (suc i) n)

  pub get_d-singles : (i n m : ℕ) (d : A) → m < n → get_or (spread (λ (m : ℕ). g m ∷ []) i n) m d ≡ g (i + m)
  unfolding spread
  get_d-singles i zero m d h = absurd (omega arith)
  get_d-singles i (suc n) zero d h = let e : i + 0 ≡ i = omega arith in rw e
  get_d-singles i (suc n) (suc m) d h = let e : i + suc m ≡ suc i + m = omega arith in rw e (get_d-singles (suc i) n m d (omega arith))
