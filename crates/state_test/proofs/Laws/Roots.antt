-- Laws of roots and of listed elements. Assumes nothing.
use mathlib.Core.Bool.{Bool, true, false, ◌&&◌, and-eq-true_iff, false≢true}
use mathlib.Core.List.{List, [], ◌∷◌}
use mathlib.Core.Option.{none, some, none-ne-some, some-injective}
use mathlib.Core.Path.{◌≡◌, refl, sym, ap, ◌∙◌}
use Prim.Native.Nat.{ℕ, zero, suc, ◌+◌, ◌≤◌, ◌<◌}
use native.Mathlib.Nat.{add-zero}
use native.Mathlib.Numerals.{add-one}
use native.Mathlib.Omega.{arith}
use borrow.Author.Tests.{eq-eqb, ne_eqb, eqb-true}
use lib.Dec.{eqb}
use lib.ListN.{length, get_or, drop, get_or-eq_default}
use Rattle.tables.specs.Lists.{all_of, first_of}
use Rattle.tables.specs.Records.{Item, child, Tree, SubElement, Schema, Fixed, root, name_of, type_of, depth_of}
use Rattle.tables.specs.SchemaTable.{no_sub_element}
use Rattle.tables.proofs.Laws.Cases.{bool_case, bool-split}
use Rattle.deck.specs.Schema.{meets, all_versions, find_sub_element, row_of_name}
use Rattle.schema_calls.specs.Calls.{Finds, found_in}
use Rattle.std.specs.Prelude.{Some}
use Rattle.state_test.specs.StateTest.{root_valid, roots_valid, item_valid, lists_valid, FoundRow}
use Rattle.tables.proofs.Laws.Scans.{drop-next, drop-end}

-- ---- roots

module _ (x : Fixed) (e : ℕ) where
  -- an element that is not there
  pub past-root : length x.elements.depths ≤ e → length x.elements.types ≤ e → true ≡ root_valid x e
  unfolding root_valid
  past-root h k = rw (get_or-eq_default x.elements.depths 0 {n = e} h, get_or-eq_default x.elements.types 0 {n = e} k)

  module _ {d : ℕ} (is : d ≡ depth_of x e) where
    pub deep-root : (d ≡ 0 → ⊥) → false ≡ root_valid x e
    unfolding root_valid
    deep-root n = rw (ne_eqb (depth_of x e) 0 (λ z. n (is ∙ z)))

    pub typed-root : {t : ℕ} → t ≡ type_of x e → d ≡ 0 → eqb t 0 ≡ root_valid x e
    unfolding root_valid
    typed-root k z = rw (eq-eqb (depth_of x e) 0 (sym is ∙ z), k)

module _ (x : Fixed) where
  pub roots-stop : root_valid x root ≡ false → false ≡ roots_valid x
  unfolding roots_valid
  roots-stop e = rw (roots_valid, e)

  pub roots-last : root_valid x root ≡ true → {r : Bool} → r ≡ all_of (λ (t : Tree). root_valid x t.root) x.elements.trees → r ≡ roots_valid x
  unfolding roots_valid
  roots-last e g = g ∙ rw (roots_valid, e)

-- ---- a listed element e of p

module _ (x : Fixed) (p e : ℕ) {d o : ℕ} (hd : d ≡ depth_of x e) (ho : o ≡ depth_of x p) where
  pub not-deeper : (d ≡ o + 1 → ⊥) → false ≡ item_valid x p (child e)
  unfolding item_valid
  not-deeper n = rw (item_valid, ne_eqb (depth_of x e) (suc (depth_of x p)) (λ z. n (omega arith)))

  module _ (one : d ≡ o + 1) {t n : ℕ} (ht : t ≡ type_of x p) (hn : n ≡ name_of x e) where
    deeper : eqb (depth_of x e) (suc (depth_of x p)) ≡ true
    deeper = eq-eqb (depth_of x e) (suc (depth_of x p)) (omega arith)

    pub no_row : row_of_name x.schema t n ≡ none → false ≡ item_valid x p (child e)
    unfolding item_valid
    no_row h =
        let k : row_of_name x.schema (type_of x p) (name_of x e) ≡ none = (λ j. row_of_name x.schema (sym ht j) (sym hn j)) ∙ h in
        rw (item_valid, deeper, k)

    pub some-row : {r : SubElement} → row_of_name x.schema t n ≡ some r → {c u : ℕ} → c ≡ r.child_type → u ≡ type_of x e
        → eqb c u ≡ item_valid x p (child e)
    unfolding item_valid
    some-row {r} h a b =
        let k : row_of_name x.schema (type_of x p) (name_of x e) ≡ some r = (λ j. row_of_name x.schema (sym ht j) (sym hn j)) ∙ h in
        rw (item_valid, deeper, k, a, b)

-- ---- the row found last

first_passes : {A : Type 0} (t : A → Bool) (l : List A) (a : A) → first_of t l ≡ some a → t a ≡ true
unfolding first_of
first_passes t [] a h = absurd (none-ne-some a h)
first_passes t (x ∷ l) a h =
    bool_case (λ o. o ≡ some a → t a ≡ true) (t x) (λ e k. ap t (sym (some-injective x a k)) ∙ e) (λ e k. first_passes t l a k) h

module _ (sc : Schema) (i : ℕ) where
  module _ (t n : ℕ) where
    pub found-row : row_of_name sc t n ≡ some (get_or sc.sub_elements i no_sub_element) → FoundRow sc i
    unfolding row_of_name find_sub_element
    found-row e k =
        let r = get_or sc.sub_elements i no_sub_element in
        let m = first_passes (λ (r : SubElement). eqb r.type t && eqb r.name n && meets r.mask all_versions) sc.sub_elements r e in
        let both = ((and-eq-true_iff (eqb r.type t && eqb r.name n) (meets r.mask all_versions)).0 m).0 in
        let (ty, name) = (and-eq-true_iff (eqb r.type t) (eqb r.name n)).0 both in
        rw (eqb-true r.type t ty, eqb-true r.name n name) e

    pub row_kept : FoundRow sc i → i < length sc.sub_elements → {ty name : ℕ} → ty ≡ (get_or sc.sub_elements i no_sub_element).type
        → name ≡ (get_or sc.sub_elements i no_sub_element).name → ty ≡ t → name ≡ n → Finds no_sub_element sc.sub_elements (Some i) (row_of_name sc t n)
    unfolding found_in
    row_kept f k a b e g =
        record { is = sym (f k) ∙ (λ j. row_of_name sc ((sym a ∙ e) j) ((sym b ∙ g) j)); within = k }

-- ---- the lists, r the answer for the list of p

module _ (x : Fixed) (ls : List (List Item)) (p : ℕ) where
  module _ (h : p < length ls) {r : Bool} (is : r ≡ all_of (item_valid x p) (get_or ls p [])) where
    pub lists-stop : r ≡ false → lists_valid x p (drop p ls) ≡ lists_valid x 0 ls → false ≡ lists_valid x 0 ls
    unfolding lists_valid
    lists-stop n inv =
        let k : lists_valid x p (drop p ls) ≡ false = rw (drop-next ls p [] h, lists_valid, sym is ∙ n) in
        sym k ∙ inv

    pub lists-more : r ≡ true → lists_valid x p (drop p ls) ≡ lists_valid x 0 ls → lists_valid x (p + 1) (drop (p + 1) ls) ≡ lists_valid x 0 ls
    unfolding lists_valid
    lists-more n inv =
        let k : lists_valid x p (drop p ls) ≡ lists_valid x (suc p) (drop (p + 1) ls) = rw (drop-next ls p [] h, lists_valid, sym is ∙ n) in
        ap (λ (q : ℕ). lists_valid x q (drop (p + 1) ls)) (add-one p) ∙ sym k ∙ inv

  pub lists-end : length ls ≤ p → lists_valid x p (drop p ls) ≡ lists_valid x 0 ls → true ≡ lists_valid x 0 ls
  unfolding lists_valid
  lists-end h inv = let k : lists_valid x p (drop p ls) ≡ true = rw (drop-end ls p h) in sym k ∙ inv

-- ---- what passes

lists-both : (x : Fixed) (p : ℕ) (l : List Item) (ls : List (List Item)) → lists_valid x p (l ∷ ls) ≡ true
    → (all_of (item_valid x p) l ≡ true) × (lists_valid x (suc p) ls ≡ true)
unfolding lists_valid
lists-both x p l ls h =
    bool-split (all_of (item_valid x p) l) (λ e. (e, rw (lists_valid, e) at h)) (λ e. absurd (false≢true (rw (lists_valid, e) at h)))

-- the n-th list from the owner p on
pub list_at : (x : Fixed) (p : ℕ) (ls : List (List Item)) (n : ℕ) → lists_valid x p ls ≡ true → all_of (item_valid x (p + n)) (get_or ls n []) ≡ true
unfolding all_of
list_at x p [] n h = refl
list_at x p (l ∷ ls) zero h = rw (add-zero p) (lists-both x p l ls h).0
list_at x p (l ∷ ls) (suc n) h = let z : p + suc n ≡ suc p + n = omega arith in rw z (list_at x (suc p) ls n (lists-both x p l ls h).1)
