-- Lists that have no element twice: where an element stands is its first place, and what leaves them keeps them so. Assumes nothing.
use mathlib.Core.Bool.{Bool, true, false, false≢true, true≢false}
use mathlib.Core.List.{List, [], ◌∷◌}
use mathlib.Core.Option.{some}
use mathlib.Core.Path.{◌≡◌, refl, sym, ◌∙◌}
use Prim.Native.Nat.{ℕ, zero, suc, ◌<◌}
use native.Mathlib.Nat.{le_of_suc-le-suc, not-suc-le-zero}
use borrow.Author.Tests.{eqb-true, eq-eqb}
use lib.Dec.{eqb}
use lib.ListN.{length, set, get_or}
use Rattle.tables.specs.Lists.{any_of, all_of, remove_run}
use Rattle.tables.specs.Records.{Element, Item, child, text, Model, list_of, put_list, remove_items}
use Rattle.tables.proofs.Laws.Cases.{bool_case, bool-split}
use Rattle.tables.proofs.Laws.Scans.{all_head, all_tail}
use Rattle.table_test.specs.ModelTest.{same_child, once_in, model_once}
use Rattle.merge_rules.specs.Log.{first_place_of}
use Rattle.merge_rules.proofs.Laws.Lists.{any_of-cons}
use Rattle.merge_log.specs.Places.{is_child}

-- ---- tests of lists

module _ {A : Type 0} (t : A → Bool) where
  any_here : (l : List A) (i : ℕ) (d : A) → i < length l → t (get_or l i d) ≡ true → any_of t l ≡ true
  unfolding any_of
  any_here [] i d h k = absurd (not-suc-le-zero h)
  any_here (x ∷ l) zero d h k = rw (any_of, k)
  any_here (x ∷ l) (suc i) d h k = bool_case (λ (b : Bool). b ≡ true) (t x) (λ _. refl) (λ _. any_here l i d (le_of_suc-le-suc h) k)

  any-remove : (l : List A) (i k : ℕ) → any_of t l ≡ false → any_of t (remove_run l i k) ≡ false
  unfolding any_of remove_run
  any-remove l zero zero h = h
  any-remove [] zero (suc k) h = h
  any-remove (x ∷ l) zero (suc k) h = any-remove l zero k (any_of-cons t x l h).1
  any-remove [] (suc i) k h = h
  any-remove (x ∷ l) (suc i) k h = rw (any_of, (any_of-cons t x l h).0) (any-remove l i k (any_of-cons t x l h).1)

  all_get_d : (l : List A) (i : ℕ) (d : A) → t d ≡ true → all_of t l ≡ true → t (get_or l i d) ≡ true
  all_get_d [] i d e h = e
  all_get_d (x ∷ l) zero d e h = all_head t x l h
  all_get_d (x ∷ l) (suc i) d e h = all_get_d l i d e (all_tail t x l h)

  all_set : (l : List A) (i : ℕ) (a : A) → t a ≡ true → all_of t l ≡ true → all_of t (set l i a) ≡ true
  unfolding all_of
  all_set [] i a e h = h
  all_set (x ∷ l) zero a e h = rw (all_of, e) (all_tail t x l h)
  all_set (x ∷ l) (suc i) a e h = rw (all_of, all_head t x l h) (all_set l i a e (all_tail t x l h))

-- ---- one list

once-parts : (a : Item) (l : List Item) → once_in (a ∷ l) ≡ true → (any_of (same_child a) l ≡ false) × (once_in l ≡ true)
unfolding once_in
once-parts a l =
    bool_case (λ (b : Bool). b ≡ true → (any_of (same_child a) l ≡ false) × (once_in l ≡ true)) (any_of (same_child a) l)
    (λ _ h. absurd (false≢true h)) (λ k h. (k, h))

pub once-remove : (l : List Item) (i k : ℕ) → once_in l ≡ true → once_in (remove_run l i k) ≡ true
unfolding once_in remove_run
once-remove l zero zero h = h
once-remove [] zero (suc k) h = h
once-remove (a ∷ l) zero (suc k) h = once-remove l zero k (once-parts a l h).1
once-remove [] (suc i) k h = h
once-remove (a ∷ l) (suc i) k h =
    let (other, rest) = once-parts a l h in
    rw (once_in, any-remove (same_child a) l i k other) (once-remove l i k rest)

same-is : (e : Element) (a : Item) → is_child e a ≡ true → same_child (child e) a ≡ true
unfolding same_child
same-is e (child c) h = eq-eqb e c (sym (eqb-true c e h))
same-is e (text t) h = absurd (false≢true h)

-- where the element stands, all before it are others
pub once-first : (e : Element) (l : List Item) (i : ℕ) → once_in l ≡ true → i < length l → is_child e (get_or l i (child 0)) ≡ true → first_place_of e l ≡ some i
unfolding first_place_of
once-first e [] i o h k = absurd (not-suc-le-zero h)
once-first e (child c ∷ l) zero o h k = rw (first_place_of, k)
once-first e (text t ∷ l) zero o h k = absurd (false≢true k)
once-first e (text t ∷ l) (suc i) o h k = rw (first_place_of, once-first e l i (once-parts (text t) l o).1 (le_of_suc-le-suc h) k)
once-first e (child c ∷ l) (suc i) o h k =
    let (other, rest) = once-parts (child c) l o in
    let j = le_of_suc-le-suc h in
    bool-split (eqb c e)
    (λ q.
    let same : c ≡ e = eqb-true c e q in
    absurd (true≢false (sym (any_here (same_child (child e)) l i (child 0) j (same-is e _ k)) ∙ (rw same at other))))
    (λ q. rw (first_place_of, q, once-first e l i rest j k))

-- ---- the model

pub once-list : (m : Model) (p : Element) → model_once m ≡ true → once_in (list_of m p) ≡ true
unfolding model_once once_in
once-list m p h = all_get_d once_in m.lists p [] refl h

-- what leaves a list leaves no element twice
pub once-items : (m : Model) (p : Element) (i k : ℕ) → model_once m ≡ true → model_once (remove_items m p i k) ≡ true
unfolding model_once remove_items put_list
once-items m p i k h = all_set once_in m.lists p (remove_run (list_of m p) i k) (once-remove (list_of m p) i k (once-list m p h)) h
