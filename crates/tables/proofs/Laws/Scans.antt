-- Laws of scans: a test of every entry, of some entry, the first entry that passes, each from entry i on; what they say of the whole list.
-- Assumes nothing.
use mathlib.Core.Bool.{Bool, true, false, false≢true, ◌&&◌, and-true}
use mathlib.Core.List.Memᴰ
use mathlib.Core.List.{List, [], ◌∷◌, ◌++◌, map, Memᴰ}
use mathlib.Core.Logic.{⊎_elim}
use mathlib.Core.Option.{none, some, none-ne-some}
use mathlib.Core.Path.{◌≡◌, refl, sym, ap, ◌∙◌}
use Prim.Native.Nat.{ℕ, zero, suc, ◌+◌, ◌≤◌, ◌<◌}
use native.Mathlib.Nat.{le_of_suc-le-suc, not-suc-le-zero}
use native.Mathlib.Numerals.{add-one}
use lib.ListN.{length, get_or, drop, drop_of_length-le}
use lib.Seq.{drop-cons}
use Rattle.tables.specs.Cells.{Each}
use Rattle.tables.specs.Lists.{any_of, all_of, first_of}
use Rattle.tables.proofs.Laws.Cases.{bool-split, bool_case}

-- ---- what is left gives the whole, from entry i on

module _ {A : Type 0} (s : List A) (i : ℕ) where
  pub drop-next : (d : A) → i < length s → drop i s ≡ get_or s i d ∷ drop (i + 1) s
  drop-next d h = rw (add-one i) (drop-cons s i d h)

  pub drop-end : length s ≤ i → drop i s ≡ []
  drop-end h = rw (drop_of_length-le s h)

module _ {A : Type 0} (t : A → Bool) (s : List A) (i : ℕ) where
  pub all_more : (d : A) → i < length s → t (get_or s i d) ≡ true → all_of t (drop (i + 1) s) ≡ all_of t (drop i s)
  unfolding all_of
  all_more d h e = rw (drop-next s i d h, all_of, e)

  pub all-stop : (d : A) → i < length s → t (get_or s i d) ≡ false → all_of t (drop i s) ≡ false
  unfolding all_of
  all-stop d h e = rw (drop-next s i d h, all_of, e)

  pub all_end : length s ≤ i → all_of t (drop i s) ≡ true
  unfolding all_of
  all_end h = rw (drop-end s i h)

  pub any-more : (d : A) → i < length s → t (get_or s i d) ≡ false → any_of t (drop (i + 1) s) ≡ any_of t (drop i s)
  unfolding any_of
  any-more d h e = rw (drop-next s i d h, any_of, e)

  pub any-stop : (d : A) → i < length s → t (get_or s i d) ≡ true → any_of t (drop i s) ≡ true
  unfolding any_of
  any-stop d h e = rw (drop-next s i d h, any_of, e)

  pub any-end : length s ≤ i → any_of t (drop i s) ≡ false
  unfolding any_of
  any-end h = rw (drop-end s i h)

  pub first_more : (d : A) → i < length s → t (get_or s i d) ≡ false → first_of t (drop (i + 1) s) ≡ first_of t (drop i s)
  unfolding first_of
  first_more d h e = rw (drop-next s i d h, first_of, e)

  pub first-stop : (d : A) → i < length s → t (get_or s i d) ≡ true → first_of t (drop i s) ≡ some (get_or s i d)
  unfolding first_of
  first-stop d h e = rw (drop-next s i d h, first_of, e)

  pub first-end : length s ≤ i → first_of t (drop i s) ≡ none
  unfolding first_of
  first-end h = rw (drop-end s i h)

-- ---- the same where b is the answer for the entries before i

pub and-all : (a b c : Bool) → (a && b && c) ≡ (a && elim b [ true ↦ c | false ↦ false ])
and-all true true c = refl
and-all true false c = refl
and-all false b c = refl

module _ {A : Type 0} (t : A → Bool) (b : Bool) (s : List A) (i : ℕ) where
  pub all-next : (d : A) → i < length s → (b && t (get_or s i d) && all_of t (drop (i + 1) s)) ≡ (b && all_of t (drop i s))
  unfolding all_of
  all-next d h = rw (drop-next s i d h, all_of) (and-all b (t (get_or s i d)) (all_of t (drop (i + 1) s)))

  pub all_done : length s ≤ i → b ≡ (b && all_of t (drop i s))
  all_done h = rw (all_end t s i h) (sym (and-true b))

-- ---- every entry passes

module _ {A : Type 0} (t : A → Bool) where
  pub all_head : (a : A) (l : List A) → all_of t (a ∷ l) ≡ true → t a ≡ true
  unfolding all_of
  all_head a l = bool_case (λ (b : Bool). b ≡ true → t a ≡ true) (t a) (λ e h. e) (λ e h. absurd (false≢true h))

  pub all_tail : (a : A) (l : List A) → all_of t (a ∷ l) ≡ true → all_of t l ≡ true
  unfolding all_of
  all_tail a l h = rw (all_head a l h, all_of) at h

  pub all-at : (l : List A) (i : ℕ) (d : A) → all_of t l ≡ true → i < length l → t (get_or l i d) ≡ true
  all-at [] i d h k = absurd (not-suc-le-zero k)
  all-at (a ∷ l) zero d h k = all_head a l h
  all-at (a ∷ l) (suc i) d h k = all-at l i d (all_tail a l h) (le_of_suc-le-suc k)

  pub all_in : (l : List A) → all_of t l ≡ true → (a : A) → Memᴰ a l → t a ≡ true
  all_in [] h a i = absurd (Memᴰ.not-nil i)
  all_in (b ∷ l) h a i = ⊎_elim (λ e. ap t e ∙ all_head b l h) (all_in l (all_tail b l h) a) (Memᴰ.cases_cons i)

  pub each-passes : (l : List A) → Each (λ (a : A). t a ≡ true) l → all_of t l ≡ true
  unfolding all_of
  each-passes [] h = refl
  each-passes (a ∷ l) h = rw (h.0, all_of) (each-passes l h.1)

  pub passes-each : (l : List A) → all_of t l ≡ true → Each (λ (a : A). t a ≡ true) l
  passes-each [] h = tt
  passes-each (a ∷ l) h = (all_head a l h, passes-each l (all_tail a l h))

pub all_append : {A : Type 0} (t : A → Bool) (l r : List A) → all_of t (l ++ r) ≡ (all_of t l && all_of t r)
unfolding all_of
all_append t [] r = refl
all_append t (a ∷ l) r = by (t a) (all_of t (l ++ r)) (all_of t l) (all_append t l r)
  where
    by : (b p q : Bool) → p ≡ (q && all_of t r) → elim b [ true ↦ p | false ↦ false ] ≡ (elim b [ true ↦ q | false ↦ false ] && all_of t r)
    by true p q e = e
    by false p q e = refl

pub all_map : {A B : Type 0} (t : B → Bool) (f : A → B) (l : List A) → all_of t (map f l) ≡ all_of (λ (a : A). t (f a)) l
unfolding all_of
all_map t f [] = refl
all_map t f (a ∷ l) = ap (λ (r : Bool). elim (t (f a)) [ true ↦ r | false ↦ false ]) (all_map t f l)

-- ---- some entry passes, and the first that does

module _ {A : Type 0} (t : A → Bool) where
  pub any_some : (l : List A) {a : A} → first_of t l ≡ some a → true ≡ any_of t l
  unfolding any_of first_of
  any_some [] {a} h = absurd (none-ne-some a h)
  any_some (x ∷ l) h = bool-split (t x) (λ e. rw (e, any_of)) (λ e. rw (e, any_of) (any_some l (rw (e, first_of) at h)))

  pub any_none : (l : List A) → first_of t l ≡ none → false ≡ any_of t l
  unfolding any_of first_of
  any_none [] h = refl
  any_none (x ∷ l) h =
      bool-split (t x) (λ e. absurd (none-ne-some x (sym (rw (e, first_of) at h)))) (λ e. rw (e, any_of) (any_none l (rw (e, first_of) at h)))

  -- one entry more at the end
  pub any-snoc-false : (a : A) → t a ≡ false → (l : List A) → any_of t (l ++ (a ∷ [])) ≡ any_of t l
  unfolding any_of
  any-snoc-false a h [] = rw h
  any-snoc-false a h (x ∷ l) = ap (λ (b : Bool). elim (t x) [ true ↦ true | false ↦ b ]) (any-snoc-false a h l)

  pub any-snoc-true : (a : A) → t a ≡ true → (l : List A) → any_of t (l ++ (a ∷ [])) ≡ true
  unfolding any_of
  any-snoc-true a h [] = rw h
  any-snoc-true a h (x ∷ l) = bool_case (λ (b : Bool). b ≡ true) (t x) (λ e. refl) (λ e. any-snoc-true a h l)
