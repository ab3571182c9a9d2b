-- The search for an element's first place, from the front and from the back. Assumes nothing.
use mathlib.Core.Bool.{true, false, false≢true}
use mathlib.Core.List.{List, ◌∷◌}
use mathlib.Core.Option.{Option, none, some}
use mathlib.Core.Path.{◌≡◌, refl, sym, ap, ◌∙◌}
use Prim.Native.Nat.{ℕ, suc, ◌+◌, ◌-◌, ◌≤◌, ◌<◌}
use native.Mathlib.Nat.{add-zero}
use native.Mathlib.Numerals.{add-one}
use native.Mathlib.Omega.{arith}
use lib.ListN.{length, get_or, drop, drop_of_length-le}
use lib.Seq.{drop-cons}
use Rattle.tables.specs.Records.{Element, Item, child, text}
use Rattle.std.specs.Prelude as program_option
use Rattle.std.specs.Prelude.{Some, None}
use Rattle.merge_rules.specs.Log.{first_place_of}
use Rattle.merge_log.specs.Places.{is_child, FirstPlace}
use Rattle.table_test.specs.ModelTest.{once_in}
use Rattle.merge_log.proofs.Laws.Once.{once-first}

-- a place counted from i on
abbrev pub behind : ℕ → Option ℕ → Option ℕ
behind i none = none
behind i (some k) = some (i + k)

one_further : (i : ℕ) (o : Option ℕ) → behind i (elim o [ none ↦ none | some k ↦ some (suc k) ]) ≡ behind (i + 1) o
one_further i none = refl
one_further i (some k) = ap {B = Option ℕ} some (omega arith)

-- behind an item that is not the element, the place is one further
next_place : (e : Element) (a : Item) (l : List Item) (i : ℕ) → is_child e a ≡ false → behind i (first_place_of e (a ∷ l)) ≡ behind (i + 1) (first_place_of e l)
unfolding first_place_of
next_place e (child c) l i h = rw (first_place_of, h) (one_further i (first_place_of e l))
next_place e (text t) l i h = one_further i (first_place_of e l)

this_place : (e : Element) (a : Item) (l : List Item) → is_child e a ≡ true → first_place_of e (a ∷ l) ≡ some 0
unfolding first_place_of
this_place e (child c) l h = rw (first_place_of, h)
this_place e (text t) l h = absurd (false≢true h)

no_place_lem : (e : Element) (a : Item) (l : List Item) → is_child e a ≡ false → first_place_of e l ≡ none → first_place_of e (a ∷ l) ≡ none
unfolding first_place_of
no_place_lem e (child c) l h k = rw (first_place_of, h, k)
no_place_lem e (text t) l h k = rw (first_place_of, k)

module _ (e : Element) (l : List Item) where
  -- what the search from place i on finds is what the whole search finds
  abbrev pub Searching : ℕ → Type 0
  Searching i = behind i (first_place_of e (drop i l)) ≡ first_place_of e l

  pub search-more : (i : ℕ) (a : Item) → i < length l → a ≡ get_or l i (child 0) → is_child e a ≡ false → Searching i → Searching (i + 1)
  search-more i a h s n inv =
      let d : drop i l ≡ a ∷ drop (i + 1) l = rw (add-one i, s) (drop-cons l i (child 0) h) in
      sym (next_place e a (drop (i + 1) l) i n) ∙ (rw d at inv)

  pub search-found : (i : ℕ) (a : Item) → i < length l → a ≡ get_or l i (child 0) → is_child e a ≡ true → Searching i → FirstPlace e l (Some i)
  search-found i a h s n inv =
      let d : drop i l ≡ a ∷ drop (suc i) l = rw s (drop-cons l i (child 0) h) in
      record { is = ap {B = Option ℕ} some (sym (add-zero i)) ∙ (rw (d, this_place e a (drop (suc i) l) n) at inv); within = h }

  pub search-end : (i : ℕ) → length l ≤ i → Searching i → FirstPlace e l None
  unfolding first_place_of
  search-end i h inv = record { is = rw (drop_of_length-le l h) at inv; within = tt }

  -- from place i on the element does not stand
  abbrev pub NoneFrom : ℕ → Type 0
  NoneFrom i = first_place_of e (drop i l) ≡ none

  pub back_start : (n : ℕ) → n ≡ length l → NoneFrom n
  unfolding first_place_of
  back_start n h = rw (drop_of_length-le l {i = n} (omega arith))

  pub back_more : (i : ℕ) (a : Item) → 0 < i → i ≤ length l → a ≡ get_or l (i - 1) (child 0) → is_child e a ≡ false → NoneFrom i → NoneFrom (i - 1)
  back_more i a o h s n none-behind =
      let z : suc (i - 1) ≡ i = omega arith in
      let d : drop (i - 1) l ≡ a ∷ drop i l = rw s (drop-cons l (i - 1) (child 0) (omega arith) ∙ ap (λ (k : ℕ). get_or l (i - 1) (child 0) ∷ drop k l) z) in
      rw d (no_place_lem e a (drop i l) n none-behind)

  pub back_found : (i : ℕ) (a : Item) → 0 < i → i ≤ length l → a ≡ get_or l (i - 1) (child 0) → is_child e a ≡ true → once_in l ≡ true → FirstPlace e l (Some (i - 1))
  back_found i a o h s n once =
      let low : i - 1 < length l = omega arith in
      record { is = sym (once-first e l (i - 1) once low (rw s at n)); within = low }

pub place-within : (e : Element) (l : List Item) (i : ℕ) (r : program_option.Option ℕ) → FirstPlace e l r → r ≡ Some i → i < length l
place-within e l i r f m = rw m at f.within
