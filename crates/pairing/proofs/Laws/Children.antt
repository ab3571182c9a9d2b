-- Children copied one by one. Assumes nothing.
use mathlib.Core.List.{List, [], ◌∷◌, ◌++◌, append-nil}
use mathlib.Core.Logic.{⊎_elim}
use mathlib.Core.Path.{◌≡◌, refl, sym, ap, ◌∙◌}
use Prim.Native.Nat.{ℕ, suc, ◌+◌, ◌*◌, ◌≤◌, ◌<◌}
use native.Mathlib.Numerals.{add-one}
use native.Mathlib.Omega.{arith}
use lib.ListN.{length, get_or, take}
use lib.Seq.{take-suc, take_all, get_or-take, length-take-le, ext_get_or}
use Rattle.std.proofs.Math.Nat.{mul-suc, mul-le-mul_left}
use Rattle.tables.specs.Limits.{element_limit}
use Rattle.tables.specs.Records.{Element, Item, child, text, Model, list_of}
use Rattle.tables.specs.ModelTable.{item_is, count_of, model_of, ItemBelow, GoodModel}
use Rattle.tables.proofs.Laws.ModelTable.{item-below}
use Rattle.tables.specs.declared.model.Item as program
use Rattle.tables.specs.declared.model.Item.TheVariants.{Child, Text}
use Rattle.merge_rules.specs.Pairing.{children, children_of}
use Rattle.merge_rules.proofs.Laws.Cases.{same-or-other}
use Rattle.pairing.specs.Plans.{spread, CopiedRows}
use Rattle.pairing.proofs.Laws.Spreads.{spread-last, spread_same, length-singles, get_d-singles}

children-append : (l m : List Item) → children (l ++ m) ≡ children l ++ children m
unfolding children
children-append [] m = refl
children-append (child e ∷ l) m = ap (λ (k : List Element). e ∷ k) (children-append l m)
children-append (text t ∷ l) m = children-append l m

-- the children among the first items, and one item more
module _ (l : List Item) (i : ℕ) (a : program.Item) (h : i < length l) (e : item_is a ≡ get_or l i (child 0)) where
  children-more : children (take (i + 1) l) ≡ children (take i l) ++ children (item_is a ∷ [])
  children-more = rw (add-one i, take-suc l i (child 0) h, ← e) (children-append (take i l) (item_is a ∷ []))

  pub children-text : (t : ℕ) → a ≡ Text t → children (take (i + 1) l) ≡ children (take i l)
  unfolding children
  children-text t q = children-more ∙ rw (q, append-nil)

  pub children-child : (x : _) → a ≡ Child x → children (take (i + 1) l) ≡ children (take i l) ++ (x.0 ∷ [])
  unfolding children
  children-child x q = children-more ∙ rw q

pub children-all : (m : Model) (e : Element) (n i : ℕ) → n ≡ length (list_of m e) → n ≤ i → children (take i (list_of m e)) ≡ children_of m e
unfolding children_of
children-all m e n i q h = rw (take_all i (list_of m e) (omega arith))

-- the number of a child in a list
pub item-small : (xs : List ℕ) → GoodModel xs → (e i : ℕ) (a : program.Item) → i < length (list_of (model_of xs) e) → item_is a ≡ get_or (list_of (model_of xs) e) i (child 0)
    → (x : _) → a ≡ Child x → x.0 < element_limit
item-small xs good e i a h q x k =
    let below : ItemBelow (count_of (model_of xs)) (item_is a) = rw q (item-below xs good e i h) in
    omega (arith, rw k at below, good.sized.count)

-- ---- rows of the same width

-- a row further on lies behind all cells of the rows before it
pub row-end : (width i k : ℕ) → i < k → width * i + width ≤ width * k
row-end width i k h =
    let m : width * suc i ≤ width * k = mul-le-mul_left width (omega arith) in
    rw mul-suc at m

pub rows_none : (width : ℕ) (w : List ℕ) → CopiedRows width w 0 (children [])
unfolding children spread
rows_none width w = record { is = refl; within = omega arith; empty = λ i c h. absurd (omega arith) }

-- one row more, which begins with x
pub rows_more : (width : ℕ) → 0 < width → (w w' : List ℕ) (k x : ℕ) (l : List Element) → width * k + width ≤ length w' → CopiedRows width w k l
    → get_or w' (width * k) 0 ≡ x → ((j : ℕ) → j < width * k → get_or w' j 0 ≡ get_or w j 0)
    → ((c : ℕ) → 0 < c → c < width → get_or w' (width * k + c) 0 ≡ 0) → CopiedRows width w' (k + 1) (l ++ (x ∷ []))
rows_more width pos w w' k x l fits h first before behind =
    record {
      is =
          spread-last (λ (i : ℕ). get_or w' (width * i) 0 ∷ []) k
          ∙ rw (
            spread_same (λ (i : ℕ). get_or w' (width * i) 0 ∷ []) (λ (i : ℕ). get_or w (width * i) 0 ∷ []) 0 k
                (λ m a b. rw (before (width * m) (omega (arith, row-end width m k (omega arith))))),
            h.is,
            first,
          );
      within = rw (add-one k, mul-suc) fits;
      empty = λ i c a p q.
          ⊎_elim (λ (e : i ≡ k). rw e (behind c p q))
          (λ (e : i ≡ k → ⊥).
          let z : i < k = omega (arith, e) in
          before (width * i + c) (omega (arith, row-end width i k z)) ∙ h.empty i c z p q) (same-or-other i k);
    }

-- the first r cells are the list
pub record Copied (part : List ℕ) (r : ℕ) (l : List Element) : Type 0 where
  pub is : take r part ≡ l
  pub within : r ≤ length part

singles-take : (part : List ℕ) (r : ℕ) → r ≤ length part → spread (λ (i : ℕ). get_or part i 0 ∷ []) 0 r ≡ take r part
singles-take part r h =
    let f = λ (i : ℕ). get_or part i 0 in
    let n = length-singles f 0 r in
    ext_get_or 0 (spread (λ (i : ℕ). f i ∷ []) 0 r) (take r part) (n ∙ sym (length-take-le r part h))
    (λ i a. let e : 0 + i ≡ i = omega arith in get_d-singles f 0 r i 0 (omega (arith, n)) ∙ rw e (sym (get_or-take r part i 0 (omega (arith, n)))))

-- rows of one cell
pub copied_cells : (part : List ℕ) (r : ℕ) (l : List Element) → CopiedRows 1 part r l → Copied part r l
copied_cells part r l h =
    let one : (i : ℕ) → 1 * i ≡ i = λ i. omega arith in
    let within : r ≤ length part = omega (arith, h.within) in
    let same = spread_same (λ (i : ℕ). get_or part (1 * i) 0 ∷ []) (λ (i : ℕ). get_or part i 0 ∷ []) 0 r (λ m a b. rw (one m)) in
    record { is = sym (singles-take part r within) ∙ sym same ∙ h.is; within = within }
