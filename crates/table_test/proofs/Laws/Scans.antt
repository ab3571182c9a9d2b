-- Laws of scans: cells that are all zero, entries that do not fall, and no element twice in a list. Assumes nothing.
use mathlib.Core.Bool.{Bool, true, false, ◌&&◌, and-true, and_assoc}
use mathlib.Core.List.{List, [], ◌∷◌, ◌++◌, map}
use mathlib.Core.Path.{◌≡◌, refl, sym, ap, ◌∙◌}
use Prim.Native.Nat.{ℕ, zero, suc, ◌+◌, ◌-◌, ◌%◌, ◌≤◌, ◌<◌}
use native.Mathlib.Omega.{arith}
use borrow.Author.Tests.{eqb-true, eqb-false, eq-eqb, ne_eqb}
use lib.Bits.{bit_or, or_add_and, and_le_r}
use lib.Dec.{eqb, leb}
use lib.ListN.{length, set, get_or, drop, length-set, length-append}
use lib.Seq.{drop-cons, drop-append-add, drop-length, get_or-set_same, get_or-set_other}
use Rattle.tables.specs.Limits.{element_limit, item_limit}
use Rattle.tables.specs.Lists.{any_of, all_of}
use Rattle.tables.specs.Records.{Item, child, text}
use Rattle.tables.specs.ModelTable.{cell_item}
use Rattle.table_test.specs.ModelTest.{is_zero, rising, same_child, once_in}
use Rattle.tables.proofs.Laws.ModelTable.{cell_item-child, cell_item-text}
use Rattle.tables.proofs.Laws.Scans.{drop-next, drop-end, all_end, all_append, and-all}

-- ---- cells that are all zero

or-zero : (a b : ℕ) → eqb (bit_or a b) 0 ≡ (eqb a 0 && eqb b 0)
or-zero zero b = refl
or-zero (suc a) b = rw (ne_eqb (suc a) 0 (λ e. absurd (omega (arith, e)))) (ne_eqb (bit_or (suc a) b) 0 (λ e. absurd (omega (arith, e, or_add_and (suc a) b, and_le_r (suc a) b))))

-- x has the bits of all cells before j
module _ (x : ℕ) (s : List ℕ) (j : ℕ) where
  pub zeros-more : j < length s → (eqb (bit_or x (get_or s j 0)) 0 && all_of is_zero (drop (j + 1) s)) ≡ (eqb x 0 && all_of is_zero (drop j s))
  unfolding all_of
  zeros-more h = rw (or-zero x (get_or s j 0), drop-next s j 0 h, all_of) (and-all (eqb x 0) (eqb (get_or s j 0) 0) (all_of is_zero (drop (j + 1) s)))

  pub zeros-end : length s ≤ j → eqb x 0 ≡ (eqb x 0 && all_of is_zero (drop j s))
  zeros-end h = rw (all_end is_zero s j h) (sym (and-true (eqb x 0)))

-- r has the bits of the first cells of those left, or of all of them
module _ (x r : ℕ) (first : List ℕ) (is : eqb r 0 ≡ all_of is_zero first) where
  pub zeros-last : eqb (bit_or x r) 0 ≡ (eqb x 0 && all_of is_zero first)
  zeros-last = or-zero x r ∙ ap (λ (b : Bool). eqb x 0 && b) is

  pub zeros-block : (left : List ℕ) → (eqb (bit_or x r) 0 && all_of is_zero left) ≡ (eqb x 0 && all_of is_zero (first ++ left))
  zeros-block left =
      ap (λ (b : Bool). b && all_of is_zero left) zeros-last
      ∙ and_assoc (eqb x 0) (all_of is_zero first) (all_of is_zero left)
      ∙ ap (λ (b : Bool). eqb x 0 && b) (sym (all_append is_zero first left))

-- the cells behind the last whole block of 16
abbrev pub behind_blocks : List ℕ → List ℕ
behind_blocks s = drop (length s - length s % 16) s

pub behind-block : (block left : List ℕ) → length block ≡ 16 → behind_blocks (block ++ left) ≡ behind_blocks left
behind-block block left h =
    let e : length (block ++ left) - length (block ++ left) % 16 ≡ length block + (length left - length left % 16) = rw (length-append block left, h) (omega arith) in
    rw e (drop-append-add block left (length left - length left % 16))

pub behind-none : (s : List ℕ) → length s < 16 → behind_blocks s ≡ s
behind-none s h = let z : length s - length s % 16 ≡ 0 = omega arith in ap (λ (k : ℕ). drop k s) z

-- ---- entries that do not fall

-- b is the answer for the entries before j, the last of which is a
module _ (b : Bool) (a : ℕ) (s : List ℕ) (j : ℕ) where
  pub rising-next : j < length s → (b && leb a (get_or s j 0) && rising (get_or s j 0) (drop (j + 1) s)) ≡ (b && rising a (drop j s))
  unfolding rising
  rising-next h = rw (drop-next s j 0 h, rising) (and_assoc b (leb a (get_or s j 0)) (rising (get_or s j 0) (drop (j + 1) s)))

  pub rising-done : length s ≤ j → (b && leb a item_limit) ≡ (b && rising a (drop j s))
  unfolding rising
  rising-done h = rw (drop-end s j h)

-- ---- no element twice in a list

-- no item is the same child as a text
pub any-text : (t : ℕ) (l : List Item) → any_of (same_child (text t)) l ≡ false
unfolding any_of same_child
any-text t [] = refl
any-text t (child e ∷ l) = any-text t l
any-text t (text u ∷ l) = any-text t l

-- a list whose tail fails
once-fails : (f : ℕ → Item) (l : List ℕ) (k : ℕ) → once_in (map f (drop k l)) ≡ false → once_in (map f l) ≡ false
unfolding once_in
once-fails f l zero h = h
once-fails f [] (suc k) h = h
once-fails f (x ∷ l) (suc k) h = by (any_of (same_child (f x)) (map f l)) (once-fails f l k h)
  where
    by : (b : Bool) → once_in (map f l) ≡ false → elim b [ true ↦ false | false ↦ once_in (map f l) ] ≡ false
    by true e = refl
    by false e = e

-- the elements of the list from j on are marked, and no others
pub record Marked (list marks : List ℕ) (mark j : ℕ) : Type 0 where
  pub within : j ≤ length list
  pub size : length marks ≡ element_limit
  pub once : once_in (map cell_item (drop j list)) ≡ true
  pub known : (k : ℕ) → k < element_limit → eqb (get_or marks k 0) mark ≡ any_of (same_child (child k)) (map cell_item (drop j list))
  pub most : (k : ℕ) → get_or marks k 0 ≤ mark

pub marked_start : (list marks : List ℕ) (mark : ℕ) → length marks ≡ element_limit → ((k : ℕ) → get_or marks k 0 < mark) → Marked list marks mark (length list)
unfolding once_in any_of
marked_start list marks mark s h =
    record {
      within = omega arith;
      size = s;
      once = rw (drop-length list);
      known = λ k l. rw (drop-length list) (ne_eqb (get_or marks k 0) mark (λ e. omega (arith, h k)));
      most = λ k. omega (arith, h k);
    }

stored-most : (marks : List ℕ) (mark c k : ℕ) → c < length marks → ((i : ℕ) → get_or marks i 0 ≤ mark) → get_or (set marks c mark) k 0 ≤ mark
stored-most marks mark c k h m = by (eqb k c) refl
  where
    by : (b : Bool) → eqb k c ≡ b → get_or (set marks c mark) k 0 ≤ mark
    by true e = rw (eqb-true k c e, get_or-set_same marks c mark 0 h) (omega arith)
    by false e = rw (get_or-set_other marks c k mark 0 (eqb-false k c e)) (m k)

stored-known : (marks : List ℕ) (mark c k : ℕ) (l : List Item) → c < length marks → eqb (get_or marks k 0) mark ≡ any_of (same_child (child k)) l
    → eqb (get_or (set marks c mark) k 0) mark ≡ any_of (same_child (child k)) (child c ∷ l)
unfolding any_of same_child
stored-known marks mark c k l h m = by (eqb k c) refl
  where
    by : (b : Bool) → eqb k c ≡ b → eqb (get_or (set marks c mark) k 0) mark ≡ elim (eqb k c) [ true ↦ true | false ↦ any_of (same_child (child k)) l ]
    by true e = rw e (rw (eqb-true k c e, get_or-set_same marks c mark 0 h) (eq-eqb mark mark refl))
    by false e = rw e (rw (get_or-set_other marks c k mark 0 (eqb-false k c e)) m)

module _ (list marks : List ℕ) (mark j : ℕ) (some : 0 < j) (m : Marked list marks mark j) where
  front : drop (j - 1) list ≡ get_or list (j - 1) 0 ∷ drop j list
  front =
      let e : suc (j - 1) ≡ j = omega arith in
      drop-cons list (j - 1) 0 (omega (arith, m.within)) ∙ ap (λ (n : ℕ). get_or list (j - 1) 0 ∷ drop n list) e

  front-child : get_or list (j - 1) 0 < element_limit → map cell_item (drop (j - 1) list) ≡ child (get_or list (j - 1) 0) ∷ map cell_item (drop j list)
  front-child h = ap (map cell_item) front ∙ ap (λ (a : Item). a ∷ map cell_item (drop j list)) (sym (cell_item-child (get_or list (j - 1) 0) h))

  front-text : element_limit ≤ get_or list (j - 1) 0 → map cell_item (drop (j - 1) list) ≡ text (get_or list (j - 1) 0 - element_limit) ∷ map cell_item (drop j list)
  front-text h = ap (map cell_item) front ∙ ap (λ (a : Item). a ∷ map cell_item (drop j list)) (sym (cell_item-text (get_or list (j - 1) 0) h))

  pub marked-child : get_or list (j - 1) 0 < element_limit → (get_or marks (get_or list (j - 1) 0) 0 ≡ mark → ⊥)
      → Marked list (set marks (get_or list (j - 1) 0) mark) mark (j - 1)
  unfolding once_in
  marked-child h n =
      let c = get_or list (j - 1) 0 in
      let b : c < length marks = omega (arith, m.size) in
      let e : any_of (same_child (child c)) (map cell_item (drop j list)) ≡ false = sym (m.known c h) ∙ ne_eqb (get_or marks c 0) mark n in
      record {
        within = omega (arith, m.within);
        size = length-set marks c mark ∙ m.size;
        once = rw (front-child h, once_in, e) m.once;
        known = λ k l. rw (front-child h) (stored-known marks mark c k (map cell_item (drop j list)) b (m.known k l));
        most = λ k. stored-most marks mark c k b m.most;
      }

  pub marked-text : element_limit ≤ get_or list (j - 1) 0 → Marked list marks mark (j - 1)
  unfolding once_in any_of same_child
  marked-text h =
      record {
        within = omega (arith, m.within);
        size = m.size;
        once = rw (front-text h, once_in, any-text (get_or list (j - 1) 0 - element_limit) (map cell_item (drop j list))) m.once;
        known = λ k l. rw (front-text h) (m.known k l);
        most = m.most;
      }

  pub marked-stop : get_or list (j - 1) 0 < element_limit → get_or marks (get_or list (j - 1) 0) 0 ≡ mark → once_in (map cell_item list) ≡ false
  unfolding once_in
  marked-stop h n =
      let c = get_or list (j - 1) 0 in
      let e : any_of (same_child (child c)) (map cell_item (drop j list)) ≡ true = sym (m.known c h) ∙ eq-eqb (get_or marks c 0) mark n in
      once-fails cell_item list (j - 1) (rw (front-child h, once_in, e))

pub marked-end : (list marks : List ℕ) (mark j : ℕ) → j ≤ 0 → Marked list marks mark j → once_in (map cell_item list) ≡ true
marked-end list marks mark j h m =
    let z : j ≡ 0 = omega arith in
    ap (λ (n : ℕ). once_in (map cell_item (drop n list))) (sym z) ∙ m.once
