-- The test of a model table: a table that passes is the encoding of what it says, and each such table passes. Assumes nothing.
use mathlib.Core.Bool.{Bool, true, false, ◌&&◌, and-eq-true_iff}
use mathlib.Core.List.{List, [], ◌∷◌, ◌++◌, map, append_assoc, append-nil}
use mathlib.Core.Option.{Option, none, some}
use mathlib.Core.Path.{◌≡◌, refl, sym, ap, ◌∙◌, subst}
use Prim.Native.Nat.{ℕ, zero, suc, ◌+◌, ◌-◌, ◌*◌, ◌≤◌, ◌<◌}
use native.Mathlib.Nat.{zero-add, add-sub_cancel_left, le_of_suc-le-suc, not-suc-le-zero}
use native.Mathlib.Omega.{arith}
use borrow.Author.Tests.{eqb-true, leb-true, ltb-true, le-leb, eq-eqb}
use lib.Dec.{eqb, leb, ltb}
use lib.ListN.{length, get_or, take, drop, replicate, length-replicate, length-map, length-drop, take-append-drop}
use lib.Seq.{drop_at, take_at, take-add, take_all, drop-drop, drop-cons, drop-append-add, length-take-le, get_or-take, get_or-drop}
use Rattle.tables.specs.Cells.{padded, cells, row_cells, row_at, Each, between}
use Rattle.tables.specs.Limits.{element_limit, item_limit}
use Rattle.tables.specs.Lists.{any_of, all_of, sum}
use Rattle.tables.specs.Records.{Item, child, text, content_items, list_of}
use Rattle.tables.specs.ModelTable.{parents_at, sets_at, starts_at, items_at, model_size, parent_cell, cell_parent, item_cell, cell_item, sums, gaps, gaps_of, flat, start_of, cut, count_of, encode_model, model_of, ParentBelow, ItemBelow, SizedModel, GoodModel}
use Rattle.table_test.specs.ModelTest.{once_in, is_zero, at_most, rising, item_in_range, cell_in_range, count_in, total_in, model_shape, model_unused, model_used, model_once, is_model_table, Shaped, TestedModel}
use Rattle.tables.specs.SetCells.{set_width, set_cells, cells_set}
use Rattle.tables.proofs.Laws.Cells.{get_d-zeros, mid-padded, cells-again, length-rows, length-rows_of}
use Rattle.tables.proofs.Laws.Scans.{all_more, all-stop, all_end, all_head, all_tail, all_map}
use Rattle.tables.proofs.Laws.SetCells.{wide-set, set-again}
use Rattle.tables.proofs.Laws.ModelTable.{cell_item-child, cell_item-text, cell_item-back, read_count, read-start, start-room, start-total, items_back, starts-back, parent_area, start_area, item_area, set_area, around-parents, around-sets, around-starts, around-items, before-sets, before-starts, before-items, length-starts_used, length-items_used}

-- ---- cells that say something, and back

pub parent_cell-back : (c : ℕ) → parent_cell (cell_parent c) ≡ c
unfolding parent_cell cell_parent
parent_cell-back zero = refl
parent_cell-back (suc p) = refl

pub item_cell-back : (c : ℕ) → item_cell (cell_item c) ≡ c
unfolding item_cell
item_cell-back c = by (ltb c element_limit) refl
  where
    by : (b : Bool) → ltb c element_limit ≡ b → item_cell (cell_item c) ≡ c
    by true e = rw (← cell_item-child c (borrow.Author.Tests.ltb-true c element_limit e))
    by false e =
        let h : element_limit ≤ c = borrow.Author.Tests.ltb-false c element_limit e in
        rw (← cell_item-text c h) (omega arith)

map-parents : (l : List ℕ) → map parent_cell (map cell_parent l) ≡ l
map-parents [] = refl
map-parents (c ∷ l) = λ i. parent_cell-back c i ∷ map-parents l i

map-items : (l : List ℕ) → map item_cell (map cell_item l) ≡ l
map-items [] = refl
map-items (c ∷ l) = λ i. item_cell-back c i ∷ map-items l i

-- ---- zeros

pub zeros-are : (l : List ℕ) → all_of is_zero l ≡ true → l ≡ replicate (length l) 0
zeros-are [] h = refl
zeros-are (c ∷ l) h = λ i. eqb-true c 0 (all_head is_zero c l h) i ∷ zeros-are l (all_tail is_zero c l h) i

-- an area whose cells behind the first n are zero
area-zeros : (xs : List ℕ) (a n room : ℕ) → n ≤ room → a + room ≤ length xs → all_of is_zero (between (a + n) (a + room) xs) ≡ true
    → padded room (take n (drop a xs)) ≡ take room (drop a xs)
unfolding padded
area-zeros xs a n room h l z =
    let r = room - n in
    let e : n + r ≡ room = omega arith in
    let f : a + room - (a + n) ≡ r = omega arith in
    let rest : List ℕ = take r (drop (a + n) xs) in
    let len : length (take n (drop a xs)) ≡ n = length-take-le n (drop a xs) (rw (length-drop a xs) (omega arith)) in
    let size : length rest ≡ r = length-take-le r (drop (a + n) xs) (rw (length-drop (a + n) xs) (omega arith)) in
    let z' : all_of is_zero rest ≡ true = ap (λ (k : ℕ). all_of is_zero (take k (drop (a + n) xs))) (sym f) ∙ z in
    let b : rest ≡ replicate r 0 = zeros-are rest z' ∙ ap (λ (k : ℕ). replicate k 0) size in
    let t : take (n + r) (drop a xs) ≡ take n (drop a xs) ++ rest = take-add n r (drop a xs) ∙ ap (λ (q : List ℕ). take n (drop a xs) ++ take r q) (drop-drop n a xs) in
    ap (λ (k : ℕ). take n (drop a xs) ++ replicate (room - k) 0) len
    ∙ ap (λ (q : List ℕ). take n (drop a xs) ++ q) (sym b)
    ∙ sym t
    ∙ ap (λ (k : ℕ). take k (drop a xs)) e

-- ---- starts that do not fall

rising-here : (a s : ℕ) (ss : List ℕ) → rising a (s ∷ ss) ≡ true → a ≤ s
unfolding rising
rising-here a s ss h = leb-true a s ((and-eq-true_iff (leb a s) (rising s ss)).0 h).0

rising-rest : (a s : ℕ) (ss : List ℕ) → rising a (s ∷ ss) ≡ true → rising s ss ≡ true
unfolding rising
rising-rest a s ss h = ((and-eq-true_iff (leb a s) (rising s ss)).0 h).1

rising-last : (a : ℕ) (ss : List ℕ) → rising a ss ≡ true → get_or (a ∷ ss) (length ss) 0 ≤ item_limit
unfolding rising
rising-last a [] h = leb-true a item_limit h
rising-last a (s ∷ ss) h = rising-last s ss (rising-rest a s ss h)

sums-gaps : (a : ℕ) (ss : List ℕ) → rising a ss ≡ true → sums a (gaps a ss) ≡ a ∷ ss
unfolding sums gaps
sums-gaps a [] h = refl
sums-gaps a (s ∷ ss) h =
    let l = rising-here a s ss h in
    let e : a + (s - a) ≡ s = omega arith in
    ap (λ (q : List ℕ). a ∷ q) (ap (λ (k : ℕ). sums k (gaps s ss)) e ∙ sums-gaps s ss (rising-rest a s ss h))

sum-gaps : (a : ℕ) (ss : List ℕ) → rising a ss ≡ true → a + sum (gaps a ss) ≡ get_or (a ∷ ss) (length ss) 0
unfolding sum gaps
sum-gaps a [] h = omega arith
sum-gaps a (s ∷ ss) h =
    let l = rising-here a s ss h in
    let r = sum-gaps s ss (rising-rest a s ss h) in
    let e : a + (s - a + sum (gaps s ss)) ≡ s + sum (gaps s ss) = omega arith in
    e ∙ r

length-gaps : (a : ℕ) (ss : List ℕ) → length (gaps a ss) ≡ length ss
unfolding gaps
length-gaps a [] = refl
length-gaps a (s ∷ ss) = ap suc (length-gaps s ss)

-- ---- a flat list cut into lists

module _ {A : Type 0} where
  length_cut : (ns : List ℕ) (l : List A) → length (cut ns l) ≡ length ns
  unfolding cut
  length_cut [] l = refl
  length_cut (n ∷ ns) l = ap suc (length_cut ns (drop n l))

  lengths-cut : (ns : List ℕ) (l : List A) → sum ns ≤ length l → map length (cut ns l) ≡ ns
  unfolding cut sum
  lengths-cut [] l h = refl
  lengths-cut (n ∷ ns) l h =
      let d = length-drop n l in
      let a = length-take-le n l (omega arith) in
      let b = lengths-cut ns (drop n l) (omega arith) in
      λ i. a i ∷ b i

  flat-cut : (ns : List ℕ) (l : List A) → flat (cut ns l) ≡ take (sum ns) l
  unfolding flat cut sum
  flat-cut [] l = refl
  flat-cut (n ∷ ns) l = ap (λ (q : List A). take n l ++ q) (flat-cut ns (drop n l)) ∙ sym (take-add n (sum ns) l)

  -- the list of e in the flat list
  pub take-flat : (ls : List (List A)) (r : List A) (e : ℕ) → e < length ls → take (length (get_or ls e [])) (drop (start_of ls e) (flat ls ++ r)) ≡ get_or ls e []
  unfolding flat start_of
  take-flat [] r e h = absurd (not-suc-le-zero h)
  take-flat (l ∷ ls) r zero h = rw (append_assoc l (flat ls) r) (take_at l (flat ls ++ r) (length l) refl)
  take-flat (l ∷ ls) r (suc e) h =
      rw (append_assoc l (flat ls) r, drop-append-add l (flat ls ++ r) (start_of ls e)) (take-flat ls r e (le_of_suc-le-suc h))

module _ {A B : Type 0} (f : A → B) where
  map-take : (n : ℕ) (l : List A) → map f (take n l) ≡ take n (map f l)
  map-take zero l = refl
  map-take (suc n) [] = refl
  map-take (suc n) (x ∷ l) = ap (λ (r : List B). f x ∷ r) (map-take n l)

  map-drop : (n : ℕ) (l : List A) → map f (drop n l) ≡ drop n (map f l)
  map-drop zero l = refl
  map-drop (suc n) [] = refl
  map-drop (suc n) (x ∷ l) = map-drop n l

-- ---- the shape

-- the starts that are used, from the first one on
module _ (xs : List ℕ) (size : length xs ≡ model_size) (count : count_in xs ≤ element_limit) (first : get_or xs starts_at 0 ≡ 0) where
  starts-are : take (suc (count_in xs)) (drop starts_at xs) ≡ 0 ∷ between (starts_at + 1) (starts_at + 1 + count_in xs) xs
  starts-are =
      let n = count_in xs in
      ap (take (suc n)) (drop-cons xs starts_at 0 (omega arith))
      ∙ ap (λ (k : ℕ). k ∷ take n (drop (suc starts_at) xs)) first
      ∙ ap (λ (k : ℕ). 0 ∷ take k (drop (suc starts_at) xs)) (sym (add-sub_cancel_left (starts_at + 1) n))

  length-later : length (between (starts_at + 1) (starts_at + 1 + count_in xs) xs) ≡ count_in xs
  length-later =
      let n = count_in xs in
      let d = length-drop (starts_at + 1) xs in
      ap (λ (k : ℕ). length (take k (drop (starts_at + 1) xs))) (add-sub_cancel_left (starts_at + 1) n)
      ∙ length-take-le n (drop (starts_at + 1) xs) (omega arith)

  last-is : get_or (0 ∷ between (starts_at + 1) (starts_at + 1 + count_in xs) xs) (length (between (starts_at + 1) (starts_at + 1 + count_in xs) xs)) 0 ≡ total_in xs
  last-is =
      let n = count_in xs in
      ap (λ (k : ℕ). get_or (0 ∷ between (starts_at + 1) (starts_at + 1 + n) xs) k 0) length-later
      ∙ ap (λ (l : List ℕ). get_or l n 0) (sym starts-are)
      ∙ get_or-take (suc n) (drop starts_at xs) n 0 (omega arith)
      ∙ get_or-drop starts_at xs n 0

pub shaped : (xs : List ℕ) → model_shape xs ≡ true → Shaped xs
unfolding model_shape
shaped xs h =
    let n = count_in xs in
    let ss = between (starts_at + 1) (starts_at + 1 + n) xs in
    let b1 = eqb (length xs) model_size in
    let b2 = leb n element_limit in
    let b3 = eqb (get_or xs starts_at 0) 0 in
    let b4 = rising 0 ss in
    let h2 : b2 && (b3 && b4) ≡ true = ((and-eq-true_iff b1 (b2 && (b3 && b4))).0 h).1 in
    let h3 : b3 && b4 ≡ true = ((and-eq-true_iff b2 (b3 && b4)).0 h2).1 in
    let size : length xs ≡ model_size = eqb-true (length xs) model_size ((and-eq-true_iff b1 (b2 && (b3 && b4))).0 h).0 in
    let count : n ≤ element_limit = leb-true n element_limit ((and-eq-true_iff b2 (b3 && b4)).0 h2).0 in
    let first : get_or xs starts_at 0 ≡ 0 = eqb-true (get_or xs starts_at 0) 0 ((and-eq-true_iff b3 b4).0 h3).0 in
    let rises : rising 0 ss ≡ true = ((and-eq-true_iff b3 b4).0 h3).1 in
    record { size = size; count = count; first = first; rises = rises; total = rw (← last-is xs size count first) (rising-last 0 ss rises) }

-- ---- a table that passes

each-parents : (n : ℕ) (l : List ℕ) → all_of (at_most n) l ≡ true → Each (ParentBelow n) (map cell_parent l)
unfolding cell_parent
each-parents n [] h = tt
each-parents n (zero ∷ l) h = (tt, each-parents n l (all_tail (at_most n) zero l h))
each-parents n (suc p ∷ l) h = (leb-true (suc p) n (all_head (at_most n) (suc p) l h), each-parents n l (all_tail (at_most n) (suc p) l h))

item-range : (n texts : ℕ) (a : Item) → texts ≤ item_limit → item_in_range n texts a ≡ true → ItemBelow n a
unfolding item_in_range
item-range n texts (child e) k h = ltb-true e n h
item-range n texts (text t) k h =
    let r = ltb-true t texts h in
    omega arith

pub each-items : (n texts : ℕ) (l : List Item) → texts ≤ item_limit → all_of (item_in_range n texts) l ≡ true → Each (ItemBelow n) l
each-items n texts [] k h = tt
each-items n texts (a ∷ l) k h =
    (item-range n texts a k (all_head (item_in_range n texts) a l h), each-items n texts l k (all_tail (item_in_range n texts) a l h))

-- the four unused parts
record Unused (xs : List ℕ) : Type 0 where
  parents : all_of is_zero (between (parents_at + count_in xs) starts_at xs) ≡ true
  starts : all_of is_zero (between (starts_at + 1 + count_in xs) items_at xs) ≡ true
  items : all_of is_zero (between (items_at + total_in xs) sets_at xs) ≡ true
  sets : all_of is_zero (between (sets_at + count_in xs * set_width) model_size xs) ≡ true

unused-parts : (xs : List ℕ) → model_unused xs ≡ true → Unused xs
unfolding model_unused
unused-parts xs h =
    let b1 = all_of is_zero (between (parents_at + count_in xs) starts_at xs) in
    let b2 = all_of is_zero (between (starts_at + 1 + count_in xs) items_at xs) in
    let b3 = all_of is_zero (between (items_at + total_in xs) sets_at xs) in
    let b4 = all_of is_zero (between (sets_at + count_in xs * set_width) model_size xs) in
    let h2 : b2 && (b3 && b4) ≡ true = ((and-eq-true_iff b1 (b2 && (b3 && b4))).0 h).1 in
    let h3 : b3 && b4 ≡ true = ((and-eq-true_iff b2 (b3 && b4)).0 h2).1 in
    record {
      parents = ((and-eq-true_iff b1 (b2 && (b3 && b4))).0 h).0;
      starts = ((and-eq-true_iff b2 (b3 && b4)).0 h2).0;
      items = ((and-eq-true_iff b3 b4).0 h3).0;
      sets = ((and-eq-true_iff b3 b4).0 h3).1;
    }

-- the cells of an area and what stands behind it
area-next : (xs : List ℕ) (a n : ℕ) → take n (drop a xs) ++ drop (a + n) xs ≡ drop a xs
area-next xs a n = ap (λ (q : List ℕ). take n (drop a xs) ++ q) (sym (drop-drop n a xs)) ∙ take-append-drop n (drop a xs)

-- the table, cut into its areas
areas-of : (xs : List ℕ) → length xs ≡ model_size
    → count_in xs
    ∷ (take element_limit (drop parents_at xs)
    ++ (take (suc element_limit) (drop starts_at xs) ++ (take item_limit (drop items_at xs) ++ drop sets_at xs)))
    ≡ xs
areas-of xs h =
    rw (area-next xs items_at item_limit, area-next xs starts_at (suc element_limit), area-next xs parents_at element_limit) (sym (drop-cons xs 0 0 (omega arith)))

module _ (texts : ℕ) (xs : List ℕ) (few : texts ≤ item_limit) (s : Shaped xs) where
  length_at : (a n : ℕ) → a + n ≤ length xs → length (take n (drop a xs)) ≡ n
  length_at a n h =
      let d = length-drop a xs in
      length-take-le n (drop a xs) (omega arith)

  count-is : count_of (model_of xs) ≡ count_in xs
  unfolding model_of
  count-is = length-map (take (count_in xs) (drop parents_at xs)) cell_parent ∙ length_at parents_at (count_in xs) (omega (arith, s.size, s.count))

  gaps-are : gaps_of (take (suc (count_in xs)) (drop starts_at xs)) ≡ gaps 0 (between (starts_at + 1) (starts_at + 1 + count_in xs) xs)
  unfolding gaps_of
  gaps-are = ap gaps_of (starts-are xs s.size s.count s.first)

  sum-gaps-is : sum (gaps 0 (between (starts_at + 1) (starts_at + 1 + count_in xs) xs)) ≡ total_in xs
  sum-gaps-is =
      let ss = between (starts_at + 1) (starts_at + 1 + count_in xs) xs in
      sym (zero-add (sum (gaps 0 ss))) ∙ sum-gaps 0 ss s.rises ∙ last-is xs s.size s.count s.first

  lists-are : (model_of xs).lists ≡ cut (gaps 0 (between (starts_at + 1) (starts_at + 1 + count_in xs) xs)) (map cell_item (drop items_at xs))
  unfolding model_of
  lists-are = ap (λ (ns : List ℕ). cut ns (map cell_item (drop items_at xs))) gaps-are

  flat-is : flat (model_of xs).lists ≡ map cell_item (take (total_in xs) (drop items_at xs))
  flat-is =
      ap flat lists-are
      ∙ flat-cut (gaps 0 (between (starts_at + 1) (starts_at + 1 + count_in xs) xs)) (map cell_item (drop items_at xs))
      ∙ ap (λ (k : ℕ). take k (map cell_item (drop items_at xs))) sum-gaps-is
      ∙ sym (map-take cell_item (total_in xs) (drop items_at xs))

  lengths-are : map length (model_of xs).lists ≡ gaps 0 (between (starts_at + 1) (starts_at + 1 + count_in xs) xs)
  lengths-are =
      let l = map cell_item (drop items_at xs) in
      let e = length-map (drop items_at xs) cell_item in
      let d = length-drop items_at xs in
      ap (map length) lists-are
      ∙ lengths-cut (gaps 0 (between (starts_at + 1) (starts_at + 1 + count_in xs) xs)) l (rw sum-gaps-is (omega (arith, s.size, s.total)))

  total-is : content_items (model_of xs) ≡ total_in xs
  unfolding content_items
  total-is = ap sum lengths-are ∙ sum-gaps-is

  parents-area : Unused xs → padded element_limit (map parent_cell (model_of xs).parents) ≡ take element_limit (drop parents_at xs)
  unfolding model_of
  parents-area u =
      ap (padded element_limit) (map-parents (take (count_in xs) (drop parents_at xs)))
      ∙ area-zeros xs parents_at (count_in xs) element_limit s.count (omega (arith, s.size)) u.parents

  starts-area : Unused xs → padded (suc element_limit) (sums 0 (map length (model_of xs).lists)) ≡ take (suc element_limit) (drop starts_at xs)
  starts-area u =
      let n = count_in xs in
      let ss = between (starts_at + 1) (starts_at + 1 + n) xs in
      let z : starts_at + 1 + n ≡ starts_at + suc n = omega arith in
      ap (λ (l : List ℕ). padded (suc element_limit) (sums 0 l)) lengths-are
      ∙ ap (padded (suc element_limit)) (sums-gaps 0 ss s.rises ∙ sym (starts-are xs s.size s.count s.first))
      ∙ area-zeros xs starts_at (suc n) (suc element_limit) (omega (arith, s.count)) (omega (arith, s.size))
      (ap (λ (k : ℕ). all_of is_zero (between k items_at xs)) (sym z) ∙ u.starts)

  items-area : Unused xs → padded item_limit (map item_cell (flat (model_of xs).lists)) ≡ take item_limit (drop items_at xs)
  items-area u =
      ap (padded item_limit) (ap (map item_cell) flat-is ∙ map-items (take (total_in xs) (drop items_at xs)))
      ∙ area-zeros xs items_at (total_in xs) item_limit s.total (omega (arith, s.size)) u.items

  -- rows of sets, as many as the table has room for
  sets-size : length (drop sets_at xs) ≡ element_limit * set_width
  sets-size = length-drop sets_at xs ∙ omega (arith, s.size)

  set-row : (i : ℕ) → i < count_in xs → length (row_at set_width i (drop sets_at xs)) ≡ set_width
  set-row i h =
      let z = sets-size in
      length-take-le set_width (drop (i * set_width) (drop sets_at xs)) (rw (length-drop (i * set_width) (drop sets_at xs)) (omega (arith, s.count)))

  sets-zero : Unused xs → drop (count_in xs * set_width) (drop sets_at xs) ≡ replicate (element_limit * set_width - count_in xs * set_width) 0
  sets-zero u =
      let n = count_in xs in
      let d = length-drop (sets_at + n * set_width) xs in
      let rest : length (drop (sets_at + n * set_width) xs) ≡ element_limit * set_width - n * set_width = omega (arith, s.size, s.count) in
      let all = take_all (model_size - (sets_at + n * set_width)) (drop (sets_at + n * set_width) xs) (omega (arith, s.size)) in
      drop-drop (n * set_width) sets_at xs
      ∙ zeros-are (drop (sets_at + n * set_width) xs) (ap (all_of is_zero) (sym all) ∙ u.sets)
      ∙ ap (λ (k : ℕ). replicate k 0) rest

  sets-area : Unused xs → cells set_width element_limit set_cells (model_of xs).sets ≡ drop sets_at xs
  unfolding model_of
  sets-area u =
      cells-again set_width set_cells wide-set cells_set element_limit (count_in xs) (drop sets_at xs) sets-size s.count
      (λ i h. set-again (row_at set_width i (drop sets_at xs)) (set-row i h)) (sets-zero u)

  encodes : Unused xs → xs ≡ encode_model (model_of xs)
  unfolding encode_model
  encodes u =
      let a = count-is in
      let b = parents-area u in
      let c = starts-area u in
      let d = items-area u in
      let e = sets-area u in
      sym ((λ i. a i ∷ (b i ++ (c i ++ (d i ++ e i)))) ∙ areas-of xs s.size)

  -- the parents and items in range
  items-tested : model_used texts xs ≡ true → all_of (item_in_range (count_of (model_of xs)) texts) (flat (model_of xs).lists) ≡ true
  unfolding model_used
  items-tested v =
      let b1 = all_of (at_most (count_in xs)) (between parents_at (parents_at + count_in xs) xs) in
      let b2 = all_of (cell_in_range (count_in xs) texts) (between items_at (items_at + total_in xs) xs) in
      let h : b2 ≡ true = ((and-eq-true_iff b1 b2).0 v).1 in
      ap (λ (n : ℕ). all_of (item_in_range n texts) (flat (model_of xs).lists)) count-is
      ∙ ap (all_of (item_in_range (count_in xs) texts)) flat-is
      ∙ all_map (item_in_range (count_in xs) texts) cell_item (take (total_in xs) (drop items_at xs))
      ∙ ap (λ (k : ℕ). all_of (cell_in_range (count_in xs) texts) (take k (drop items_at xs))) (sym (add-sub_cancel_left items_at (total_in xs)))
      ∙ h

  parents-tested : model_used texts xs ≡ true → Each (ParentBelow (count_of (model_of xs))) (model_of xs).parents
  unfolding model_used model_of
  parents-tested v =
      let n = count_in xs in
      let b1 = all_of (at_most n) (between parents_at (parents_at + n) xs) in
      let b2 = all_of (cell_in_range n texts) (between items_at (items_at + total_in xs) xs) in
      let h : b1 ≡ true = ((and-eq-true_iff b1 b2).0 v).0 in
      let k : all_of (at_most n) (take n (drop parents_at xs)) ≡ true = ap (λ (i : ℕ). all_of (at_most n) (take i (drop parents_at xs))) (sym (add-sub_cancel_left parents_at n)) ∙ h in
      subst (λ (i : ℕ). Each (ParentBelow i) (map cell_parent (take n (drop parents_at xs)))) (sym count-is) (each-parents n (take n (drop parents_at xs)) k)

  sets-count : length (model_of xs).sets ≡ count_in xs
  unfolding model_of
  sets-count = length-rows_of set_width set_cells wide-set cells_set (count_in xs) (drop sets_at xs)

  lists-size : length (model_of xs).lists ≡ count_in xs
  lists-size =
      let ss = between (starts_at + 1) (starts_at + 1 + count_in xs) xs in
      ap length lists-are ∙ length_cut (gaps 0 ss) (map cell_item (drop items_at xs)) ∙ length-gaps 0 ss ∙ length-later xs s.size s.count s.first

  sized : model_used texts xs ≡ true → SizedModel (model_of xs)
  sized v =
      record {
        sets = sets-count ∙ sym count-is;
        lists = lists-size ∙ sym count-is;
        count = rw count-is s.count;
        total = rw total-is s.total;
        parents_in = parents-tested v;
        items_in = each-items (count_of (model_of xs)) texts (flat (model_of xs).lists) few (items-tested v);
      }

pub tested-good : (texts : ℕ) (xs : List ℕ) → texts ≤ item_limit → model_shape xs ≡ true → model_unused xs ≡ true → model_used texts xs ≡ true → GoodModel xs
tested-good texts xs few h u v =
    let s = shaped xs h in
    record { size = s.size; raw = encodes texts xs few s (unused-parts xs u); sized = sized texts xs few s v }

-- a table that passes is the encoding of what it says, its texts are texts, and no list has an element twice
pub tested : (texts : ℕ) (xs : List ℕ) → texts ≤ item_limit → is_model_table texts xs ≡ true → TestedModel texts xs
unfolding is_model_table
tested texts xs few h =
    let b1 = model_shape xs in
    let b2 = model_unused xs in
    let b3 = model_used texts xs in
    let b4 = model_once (model_of xs) in
    let h2 : b2 && (b3 && b4) ≡ true = ((and-eq-true_iff b1 (b2 && (b3 && b4))).0 h).1 in
    let h3 : b3 && b4 ≡ true = ((and-eq-true_iff b2 (b3 && b4)).0 h2).1 in
    let s = shaped xs ((and-eq-true_iff b1 (b2 && (b3 && b4))).0 h).0 in
    let v : model_used texts xs ≡ true = ((and-eq-true_iff b3 b4).0 h3).0 in
    record {
      good = tested-good texts xs few ((and-eq-true_iff b1 (b2 && (b3 && b4))).0 h).0 ((and-eq-true_iff b2 (b3 && b4)).0 h2).0 v;
      items = items-tested texts xs few s v;
      once = ((and-eq-true_iff b3 b4).0 h3).1;
    }

-- ---- one list of a good table

module _ (xs : List ℕ) (g : GoodModel xs) where
  pub list-fits : (e : ℕ) → e < count_of (model_of xs) → get_or xs (starts_at + e) 0 + length (list_of (model_of xs) e) ≤ item_limit
  list-fits e h =
      let r = start-room xs g e h in
      rw (read-start xs g e (omega arith)) (omega (arith, g.sized.total))

  -- the cells of a list say what it holds
  pub list_back : (e n : ℕ) → e < count_of (model_of xs) → n ≡ length (list_of (model_of xs) e)
      → map cell_item (between (items_at + get_or xs (starts_at + e) 0) (items_at + get_or xs (starts_at + e) 0 + n) xs) ≡ list_of (model_of xs) e
  list_back e n h l =
      let m = model_of xs in
      let a = items_at + get_or xs (starts_at + e) 0 in
      let st = start_of m.lists e in
      ap (λ (k : ℕ). map cell_item (take k (drop a xs))) (add-sub_cancel_left a n ∙ l)
      ∙ ap (λ (k : ℕ). map cell_item (take (length (list_of m e)) (drop (items_at + k) xs))) (read-start xs g e (omega arith))
      ∙ ap (λ (q : List ℕ). map cell_item (take (length (list_of m e)) q)) (sym (drop-drop st items_at xs))
      ∙ map-take cell_item (length (list_of m e)) (drop st (drop items_at xs))
      ∙ ap (take (length (list_of m e))) (map-drop cell_item st (drop items_at xs))
      ∙ ap (λ (q : List ℕ). take (length (list_of m e)) (drop st (map cell_item (drop items_at q)))) g.raw
      ∙ ap (λ (q : List Item). take (length (list_of m e)) (drop st q)) (items_back m g.sized)
      ∙ take-flat m.lists _ e (omega (arith, g.sized.lists))

-- ---- no element twice, list by list

-- the lists before e have none twice, and no mark is above e
pub record OnceLeft (xs marks : List ℕ) (e : ℕ) : Type 0 where
  pub left : all_of once_in (drop e (model_of xs).lists) ≡ model_once (model_of xs)
  pub size : length marks ≡ element_limit
  pub most : (k : ℕ) → get_or marks k 0 ≤ e

pub once-start : (xs : List ℕ) → OnceLeft xs (replicate element_limit 0) 0
unfolding model_once
once-start xs = record { left = refl; size = length-replicate {A = ℕ} element_limit 0; most = λ k. rw (get_d-zeros element_limit k) (omega arith) }

few-once : (l : List Item) → length l < 2 → once_in l ≡ true
unfolding once_in any_of
few-once [] h = refl
few-once (a ∷ []) h = refl
few-once (a ∷ b ∷ l) h = absurd (omega arith)

module _ (xs marks : List ℕ) (e n : ℕ) (g : GoodModel xs) (o : OnceLeft xs marks e) (h : e < count_of (model_of xs)) (l : n ≡ length (list_of (model_of xs) e)) where
  pub once-few : n < 2 → OnceLeft xs marks (e + 1)
  once-few k =
      let t : once_in (get_or (model_of xs).lists e []) ≡ true = few-once (list_of (model_of xs) e) (omega arith) in
      record {
        left = all_more once_in (model_of xs).lists e [] (omega (arith, g.sized.lists)) t ∙ o.left;
        size = o.size;
        most = λ i. omega (arith, o.most i);
      }

  pub once-stop : (r : Bool) → r ≡ once_in (map cell_item (between (items_at + get_or xs (starts_at + e) 0) (items_at + get_or xs (starts_at + e) 0 + n) xs))
      → r ≡ false → false ≡ model_once (model_of xs)
  once-stop r c f =
      let t : once_in (get_or (model_of xs).lists e []) ≡ false = ap once_in (sym (list_back xs g e n h l)) ∙ sym c ∙ f in
      sym (all-stop once_in (model_of xs).lists e [] (omega (arith, g.sized.lists)) t) ∙ o.left

  pub once_more : (r : Bool) (ms : List ℕ) → r ≡ once_in (map cell_item (between (items_at + get_or xs (starts_at + e) 0) (items_at + get_or xs (starts_at + e) 0 + n) xs))
      → r ≡ true → length ms ≡ element_limit → ((k : ℕ) → get_or ms k 0 ≤ e + 1) → OnceLeft xs ms (e + 1)
  once_more r ms c f z k =
      let t : once_in (get_or (model_of xs).lists e []) ≡ true = ap once_in (sym (list_back xs g e n h l)) ∙ sym c ∙ f in
      record { left = all_more once_in (model_of xs).lists e [] (omega (arith, g.sized.lists)) t ∙ o.left; size = z; most = k }

pub once-end : (xs marks : List ℕ) (e : ℕ) → GoodModel xs → OnceLeft xs marks e → count_of (model_of xs) ≤ e → true ≡ model_once (model_of xs)
once-end xs marks e g o h = sym (all_end once_in (model_of xs).lists e (omega (arith, g.sized.lists))) ∙ o.left

-- ---- each good table whose texts are texts, with no element twice in a list, passes

pub all-zeros : (n : ℕ) → all_of is_zero (replicate n 0) ≡ true
unfolding all_of
all-zeros zero = refl
all-zeros (suc n) = all-zeros n

-- what stands behind the used cells of an area
zero-part : (p us r : List ℕ) (room a k : ℕ) → length p ≡ a → length us ≡ k → all_of is_zero (between (a + k) (a + room) (p ++ (padded room us ++ r))) ≡ true
unfolding padded
zero-part p us r room a k e f =
    let z : List ℕ = replicate (room - length us) 0 in
    let g : a + room - (a + k) ≡ room - length us = rw f (omega arith) in
    let d : drop (a + k) (p ++ ((us ++ z) ++ r)) ≡ z ++ r =
    sym (drop-drop k a (p ++ ((us ++ z) ++ r)))
    ∙ ap (drop k) (drop_at p ((us ++ z) ++ r) a e)
    ∙ ap (drop k) (append_assoc us z r)
    ∙ drop_at us (z ++ r) k f
    in
    ap (all_of is_zero)
    (ap (take (a + room - (a + k))) d ∙ ap (λ (n : ℕ). take n (z ++ r)) g ∙ take_at z r (room - length us) (length-replicate {A = ℕ} (room - length us) 0))
    ∙ all-zeros (room - length us)

rising-sums : (a : ℕ) (ns : List ℕ) → a + sum ns ≤ item_limit → rising a (drop 1 (sums a ns)) ≡ true
unfolding rising sums sum
rising-sums a [] h = le-leb a item_limit (omega arith)
rising-sums a (n ∷ []) h = rw (le-leb a (a + n) (omega arith)) (le-leb (a + n) item_limit (omega arith))
rising-sums a (n ∷ (k ∷ ns)) h = rw (le-leb a (a + n) (omega arith)) (rising-sums (a + n) (k ∷ ns) (omega arith))

all-parents : (n : ℕ) (ps : List (Option ℕ)) → Each (ParentBelow n) ps → all_of (at_most n) (map parent_cell ps) ≡ true
unfolding all_of parent_cell
all-parents n [] h = refl
all-parents n (none ∷ ps) h = rw (all_of, le-leb 0 n (omega arith)) (all-parents n ps h.1)
all-parents n (some p ∷ ps) h = rw (all_of, le-leb (suc p) n h.0) (all-parents n ps h.1)

all-items : (n texts : ℕ) (l : List Item) → n ≤ element_limit → Each (ItemBelow n) l → all_of (cell_in_range n texts) (map item_cell l) ≡ all_of (item_in_range n texts) l
unfolding all_of
all-items n texts [] k h = refl
all-items n texts (a ∷ l) k h =
    let e = cell_item-back n a k h.0 in
    let r = all-items n texts l k h.1 in
    λ i. elim (item_in_range n texts (e i)) [ true ↦ r i | false ↦ false ]

start-zero : (ls : List (List Item)) → start_of ls 0 ≡ 0
unfolding start_of
start-zero [] = refl
start-zero (l ∷ ls) = refl

module _ (texts : ℕ) (xs : List ℕ) (t : TestedModel texts xs) where
  count-in : count_in xs ≡ count_of (model_of xs)
  count-in = read_count xs t.good

  total-in : total_in xs ≡ content_items (model_of xs)
  total-in =
      ap (λ (n : ℕ). get_or xs (starts_at + n) 0) count-in
      ∙ read-start xs t.good (count_of (model_of xs)) (omega arith)
      ∙ start-total xs t.good

  first-start : get_or xs starts_at 0 ≡ 0
  first-start = read-start xs t.good 0 (omega arith) ∙ start-zero (model_of xs).lists

  passes-shape : model_shape xs ≡ true
  unfolding model_shape content_items
  passes-shape =
      let g = t.good in
      let m = model_of xs in
      let n = count_in xs in
      let c : n ≤ element_limit = rw count-in g.sized.count in
      let l : between (starts_at + 1) (starts_at + 1 + n) xs ≡ drop 1 (sums 0 (map length m.lists)) =
      ap (drop 1)
      (sym (starts-are xs g.size c first-start)
      ∙ ap (λ (k : ℕ). take (suc k) (drop starts_at xs)) count-in
      ∙ ap (λ (q : List ℕ). take (suc (count_of m)) (drop starts_at q)) g.raw
      ∙ starts-back m g.sized)
      in
      let r : rising 0 (between (starts_at + 1) (starts_at + 1 + n) xs) ≡ true =
      ap (rising 0) l ∙ rising-sums 0 (map length m.lists) (rw (zero-add (sum (map length m.lists))) g.sized.total)
      in
      rw (model_shape, eq-eqb (length xs) model_size g.size, le-leb n element_limit c, eq-eqb (get_or xs starts_at 0) 0 first-start) r

  passes-unused : model_unused xs ≡ true
  unfolding model_unused cells
  passes-unused =
      let g = t.good in
      let m = model_of xs in
      let n = count_of m in
      let a : all_of is_zero (between (parents_at + count_in xs) starts_at xs) ≡ true =
      ap (λ (k : ℕ). all_of is_zero (between (parents_at + k) starts_at xs)) count-in
      ∙ ap (λ (q : List ℕ). all_of is_zero (between (parents_at + n) starts_at q)) (g.raw ∙ around-parents m g.sized)
      ∙ zero-part (n ∷ []) (map parent_cell m.parents) (start_area m ++ (item_area m ++ set_area m)) element_limit parents_at n refl
      (length-map m.parents parent_cell)
      in
      let z : starts_at + 1 + n ≡ starts_at + suc n = omega arith in
      let b : all_of is_zero (between (starts_at + 1 + count_in xs) items_at xs) ≡ true =
      ap (λ (k : ℕ). all_of is_zero (between (starts_at + 1 + k) items_at xs)) count-in
      ∙ ap (λ (k : ℕ). all_of is_zero (between k items_at xs)) z
      ∙ ap (λ (q : List ℕ). all_of is_zero (between (starts_at + suc n) items_at q)) (g.raw ∙ around-starts m g.sized)
      ∙ zero-part (n ∷ parent_area m) (sums 0 (map length m.lists)) (item_area m ++ set_area m) (suc element_limit) starts_at (suc n)
      (before-starts m g.sized) (length-starts_used m g.sized)
      in
      let c : all_of is_zero (between (items_at + total_in xs) sets_at xs) ≡ true =
      ap (λ (k : ℕ). all_of is_zero (between (items_at + k) sets_at xs)) total-in
      ∙ ap (λ (q : List ℕ). all_of is_zero (between (items_at + content_items m) sets_at q)) (g.raw ∙ around-items m g.sized)
      ∙ zero-part (n ∷ (parent_area m ++ start_area m)) (map item_cell (flat m.lists)) (set_area m) item_limit items_at (content_items m)
      (before-items m g.sized) (length-items_used m g.sized)
      in
      let d : all_of is_zero (between (sets_at + count_in xs * set_width) model_size xs) ≡ true =
      ap (λ (k : ℕ). all_of is_zero (between (sets_at + k * set_width) model_size xs)) count-in
      ∙ ap (λ (q : List ℕ). all_of is_zero (between (sets_at + n * set_width) model_size q)) (g.raw ∙ around-sets m g.sized ∙ ap (λ (l : List ℕ). (n ∷ (parent_area m ++ (start_area m ++ item_area m))) ++ l) (sym (append-nil (set_area m))))
      ∙ zero-part (n ∷ (parent_area m ++ (start_area m ++ item_area m))) (row_cells set_cells m.sets) [] (element_limit * set_width) sets_at (n * set_width)
      (before-sets m g.sized) (length-rows set_width set_cells wide-set m.sets ∙ ap (λ (k : ℕ). k * set_width) g.sized.sets)
      in
      rw (model_unused, a, b, c) d

  passes-used : model_used texts xs ≡ true
  unfolding model_used
  passes-used =
      let g = t.good in
      let m = model_of xs in
      let n = count_of m in
      let a : all_of (at_most (count_in xs)) (between parents_at (parents_at + count_in xs) xs) ≡ true =
      ap (λ (k : ℕ). all_of (at_most k) (between parents_at (parents_at + k) xs)) count-in
      ∙ ap (λ (k : ℕ). all_of (at_most n) (take k (drop parents_at xs))) (add-sub_cancel_left parents_at n)
      ∙ ap (λ (q : List ℕ). all_of (at_most n) (take n (drop parents_at q))) (g.raw ∙ around-parents m g.sized)
      ∙ ap (all_of (at_most n)) (mid-padded (n ∷ []) (map parent_cell m.parents) (start_area m ++ (item_area m ++ set_area m)) element_limit parents_at n refl (length-map m.parents parent_cell))
      ∙ all-parents n m.parents g.sized.parents_in
      in
      let b : all_of (cell_in_range (count_in xs) texts) (between items_at (items_at + total_in xs) xs) ≡ true =
      ap (λ (k : ℕ). all_of (cell_in_range k texts) (between items_at (items_at + total_in xs) xs)) count-in
      ∙ ap (λ (k : ℕ). all_of (cell_in_range n texts) (between items_at (items_at + k) xs)) total-in
      ∙ ap (λ (k : ℕ). all_of (cell_in_range n texts) (take k (drop items_at xs))) (add-sub_cancel_left items_at (content_items m))
      ∙ ap (λ (q : List ℕ). all_of (cell_in_range n texts) (take (content_items m) (drop items_at q))) (g.raw ∙ around-items m g.sized)
      ∙ ap (all_of (cell_in_range n texts))
      (mid-padded (n ∷ (parent_area m ++ start_area m)) (map item_cell (flat m.lists)) (set_area m) item_limit items_at (content_items m) (before-items m g.sized) (length-items_used m g.sized))
      ∙ all-items n texts (flat m.lists) g.sized.count g.sized.items_in
      ∙ t.items
      in
      rw (model_used, a) b

  pub passes : is_model_table texts xs ≡ true
  unfolding is_model_table
  passes = rw (is_model_table, passes-shape, passes-unused, passes-used) t.once
