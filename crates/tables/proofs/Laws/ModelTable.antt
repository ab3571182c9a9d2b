-- The model table: it decodes to what it encodes, what each read finds, and what each store leaves. Assumes nothing.
use mathlib.Core.List.{List, [], ◌∷◌, ◌++◌, map, append_assoc}
use mathlib.Core.Option.{Option, none, some}
use mathlib.Core.Path.{◌≡◌, refl, sym, ap, ◌∙◌, subst}
use Prim.Native.Nat.{ℕ, zero, suc, ◌+◌, ◌-◌, ◌*◌, ◌≤◌, ◌<◌}
use native.Mathlib.Nat.{zero-add, sub-zero, add-sub_cancel_left, not-suc-le-zero}
use native.Mathlib.Numerals.{add-one}
use native.Mathlib.Omega.{arith}
use borrow.Author.Tests.{lt-ltb, le-ltb}
use borrow.Rule.Slice.PartMut.{mid_of, put_mid}
use lib.ListN.{length, set, get_or, take, drop, replicate, length-append, length-map, length-set, length-replicate, get_or-map, replicate-append-replicate}
use lib.Seq.{drop_at, drop-drop}
use Rattle.std.specs.Prelude.{Some, None}
use Rattle.std.specs.Prelude as program_option
use Rattle.std.specs.Option.{MatchOption, IsSomeAnd}
use Rattle.tables.specs.declared.numbers.Element as program_element
use Rattle.tables.specs.Index.{place_number}
use Rattle.tables.specs.Cells.{padded, puts, row_cells, cells, rows_of, Each}
use Rattle.tables.specs.Limits.{element_limit, item_limit}
use Rattle.tables.specs.Lists.{insert_run, remove_run, sum}
use Rattle.tables.specs.FileSets.{no_set}
use Rattle.tables.specs.SetCells.{set_width, set_cells, cells_set}
use Rattle.tables.specs.Records.{FileSet, Item, child, text, Model, content_items, parent_of, set_of, list_of, put_parent, put_set, put_list, insert_items, put_item, remove_items, add_to_model}
use Rattle.tables.specs.ModelTable.{parent_is, parents_at, sets_at, starts_at, items_at, model_size, parent_cell, cell_parent, item_cell, cell_item, sums, gaps_of, flat, start_of, cut, count_of, encode_model, model_of, ParentBelow, ItemBelow, SizedModel, GoodModel, HoldsModel, shift_in, shift_out, on_from, no_model}
use Rattle.tables.proofs.Laws.Cells.{set-inside, get_d-inside, length-padded, get_d-padded, set-padded, set-behind-padded, take-padded, padded-more, mid-padded, put-padded, each-get_d, each_set, each_append, each_all, each-imp, length-cells, last-back, get_d-rows_of, put_last, append-last}
use Rattle.tables.proofs.Laws.Lists.{length-remove_run, each-insert_run, each-remove_run, map-set, map-insert_run, map-remove_run, map-then, map_back, length-flat, flat-insert_run, flat-remove, flat-set, get_d-flat, start_fits, start-end, start-next, cut-flat, length-shift_in, length-shift_out, shift_in-room}
use Rattle.tables.proofs.Laws.Model.{length-list-insert, length-list-put, length-list-remove, total-insert_items, total-put_item, total-remove, flat-add, total-add}
use Rattle.tables.proofs.Laws.SetCells.{set_back, wide-set}
use Rattle.tables.proofs.Laws.Starts.{length-sums, gaps-sums, sums_at, sums-insert, sums-remove, sums-append, sums-most, sums-past}

-- ---- one cell

pub cell_parent-back : (p : Option ℕ) → cell_parent (parent_cell p) ≡ p
unfolding cell_parent parent_cell
cell_parent-back none = refl
cell_parent-back (some p) = refl

-- an item that a table can hold
pub cell_item-back : (n : ℕ) (a : Item) → n ≤ element_limit → ItemBelow n a → cell_item (item_cell a) ≡ a
unfolding cell_item item_cell
cell_item-back n (child e) h k = rw (cell_item, lt-ltb e element_limit (omega arith))
cell_item-back n (text t) h k = rw (cell_item, le-ltb (element_limit + t) element_limit (omega arith), add-sub_cancel_left element_limit t)

-- what a test of a cell shows
-- a place as an element's number
pub cell_parent-place : (p : program_option.Option ℕ) (r : program_option.Option program_element.Element)
    → MatchOption p (r ≡ None) (λ (x : ℕ). IsSomeAnd r (λ (e : program_element.Element). e.0 ≡ x)) → parent_is r ≡ cell_parent (place_number p)
unfolding cell_parent
cell_parent-place None r h = rw h
cell_parent-place (Some x) None h = absurd h
cell_parent-place (Some x) (Some e) h = ap {B = Option ℕ} some h

pub cell_item-child : (c : ℕ) → c < element_limit → child c ≡ cell_item c
unfolding cell_item
cell_item-child c h = rw (cell_item, lt-ltb c element_limit h)

pub cell_item-text : (c : ℕ) → element_limit ≤ c → text (c - element_limit) ≡ cell_item c
unfolding cell_item
cell_item-text c h = rw (cell_item, le-ltb c element_limit h)

pub parent-weaker : (n k : ℕ) (p : Option ℕ) → n ≤ k → ParentBelow n p → ParentBelow k p
parent-weaker n k none h b = tt
parent-weaker n k (some p) h b = omega arith

pub item-weaker : (n k : ℕ) (a : Item) → n ≤ k → ItemBelow n a → ItemBelow k a
item-weaker n k (child e) h b = omega arith
item-weaker n k (text t) h b = b

-- ---- the areas

abbrev pub parent_area : Model → List ℕ
parent_area m = padded element_limit (map parent_cell m.parents)

abbrev pub start_area : Model → List ℕ
start_area m = padded (suc element_limit) (sums 0 (map length m.lists))

abbrev pub item_area : Model → List ℕ
item_area m = padded item_limit (map item_cell (flat m.lists))

abbrev pub set_area : Model → List ℕ
set_area m = cells set_width element_limit set_cells m.sets

-- what stands behind the items in use
abbrev pub behind_items : Model → List ℕ
behind_items m = replicate (item_limit - length (map item_cell (flat m.lists))) 0 ++ set_area m

each-parent-back : (ps : List (Option ℕ)) → Each (λ (p : Option ℕ). cell_parent (parent_cell p) ≡ p) ps
each-parent-back [] = tt
each-parent-back (p ∷ ps) = (cell_parent-back p, each-parent-back ps)

module _ (m : Model) (s : SizedModel m) where
  pub total-flat : length (flat m.lists) ≡ content_items m
  unfolding content_items
  total-flat = length-flat m.lists

  length-parent_area : length (parent_area m) ≡ element_limit
  length-parent_area = length-padded element_limit (map parent_cell m.parents) (rw (length-map m.parents parent_cell) s.count)

  pub length-starts_used : length (sums 0 (map length m.lists)) ≡ suc (count_of m)
  length-starts_used = length-sums 0 (map length m.lists) ∙ ap suc (length-map m.lists length ∙ s.lists)

  length-start_area : length (start_area m) ≡ suc element_limit
  length-start_area = length-padded (suc element_limit) (sums 0 (map length m.lists)) (rw length-starts_used (omega arith))

  pub length-items_used : length (map item_cell (flat m.lists)) ≡ content_items m
  length-items_used = length-map (flat m.lists) item_cell ∙ total-flat

  length-item_area : length (item_area m) ≡ item_limit
  length-item_area = length-padded item_limit (map item_cell (flat m.lists)) (rw length-items_used s.total)

  length-set_area : length (set_area m) ≡ element_limit * set_width
  length-set_area = length-cells set_width set_cells wide-set element_limit m.sets (omega arith)

  -- the table around each area
  pub around-parents : encode_model m ≡ (count_of m ∷ []) ++ (parent_area m ++ (start_area m ++ (item_area m ++ set_area m)))
  unfolding encode_model
  around-parents = refl

  pub around-starts : encode_model m ≡ (count_of m ∷ parent_area m) ++ (start_area m ++ (item_area m ++ set_area m))
  unfolding encode_model
  around-starts = refl

  pub around-items : encode_model m ≡ (count_of m ∷ (parent_area m ++ start_area m)) ++ (item_area m ++ set_area m)
  unfolding encode_model
  around-items = ap (λ (l : List ℕ). count_of m ∷ l) (sym (append_assoc (parent_area m) (start_area m) (item_area m ++ set_area m)))

  pub around-sets : encode_model m ≡ (count_of m ∷ (parent_area m ++ (start_area m ++ item_area m))) ++ set_area m
  unfolding encode_model
  around-sets = ap (λ (l : List ℕ). count_of m ∷ l) (simp append_assoc)

  pub before-starts : length (count_of m ∷ parent_area m) ≡ starts_at
  before-starts = ap suc length-parent_area

  pub before-items : length (count_of m ∷ (parent_area m ++ start_area m)) ≡ items_at
  before-items = ap suc (length-append (parent_area m) (start_area m) ∙ rw (length-parent_area, length-start_area))

  pub before-sets : length (count_of m ∷ (parent_area m ++ (start_area m ++ item_area m))) ≡ sets_at
  before-sets =
      ap suc
      (length-append (parent_area m) (start_area m ++ item_area m)
      ∙ rw (length-append (start_area m) (item_area m), length-parent_area, length-start_area, length-item_area))

  pub length-encode_model : length (encode_model m) ≡ model_size
  length-encode_model =
      ap length around-sets
      ∙ length-append (count_of m ∷ (parent_area m ++ (start_area m ++ item_area m))) (set_area m)
      ∙ rw (before-sets, length-set_area)

  -- ---- a model that a table can hold is read back

  read-count-of : get_or (encode_model m) 0 0 ≡ count_of m
  unfolding encode_model
  read-count-of = refl

  parents-back : map cell_parent (take (count_of m) (drop parents_at (encode_model m))) ≡ m.parents
  unfolding encode_model
  parents-back =
      let e : take (count_of m) (parent_area m ++ (start_area m ++ (item_area m ++ set_area m))) ≡ map parent_cell m.parents =
      rw (← length-map m.parents parent_cell) (take-padded element_limit (map parent_cell m.parents) _)
      in
      ap (map cell_parent) e ∙ map_back parent_cell cell_parent m.parents (each-parent-back m.parents)

  pub starts-back : take (suc (count_of m)) (drop starts_at (encode_model m)) ≡ sums 0 (map length m.lists)
  starts-back =
      rw (around-starts, drop_at (count_of m ∷ parent_area m) (start_area m ++ (item_area m ++ set_area m)) starts_at before-starts, ← length-starts_used)
      (take-padded (suc element_limit) (sums 0 (map length m.lists)) _)

  pub items_back : map cell_item (drop items_at (encode_model m)) ≡ flat m.lists ++ map cell_item (behind_items m)
  unfolding padded
  items_back =
      let used = map item_cell (flat m.lists) in
      rw (
        around-items,
        drop_at (count_of m ∷ (parent_area m ++ start_area m)) (item_area m ++ set_area m) items_at before-items,
        append_assoc used (replicate (item_limit - length used) 0) (set_area m),
      )
      (map-then cell_item used (behind_items m)
      ∙ ap (λ (l : List Item). l ++ map cell_item (behind_items m))
      (map_back item_cell cell_item (flat m.lists)
      (each-imp (ItemBelow (count_of m)) (λ (a : Item). cell_item (item_cell a) ≡ a) (flat m.lists) (λ a h. cell_item-back (count_of m) a s.count h) s.items_in)))

  sets-back : rows_of set_width (count_of m) cells_set (drop sets_at (encode_model m)) ≡ m.sets
  sets-back =
      rw (around-sets, drop_at (count_of m ∷ (parent_area m ++ (start_area m ++ item_area m))) (set_area m) sets_at before-sets, ← s.sets)
      (last-back set_width set_cells wide-set cells_set element_limit m.sets (each_all (λ (f : FileSet). cells_set (set_cells f) ≡ f) m.sets set_back))

  pub decode-encode : model_of (encode_model m) ≡ m
  unfolding model_of
  decode-encode =
      let c = read-count-of in
      let p = ap (λ (n : ℕ). map cell_parent (take n (drop parents_at (encode_model m)))) c ∙ parents-back in
      let q = ap (λ (n : ℕ). rows_of set_width n cells_set (drop sets_at (encode_model m))) c ∙ sets-back in
      let t = ap (λ (n : ℕ). take (suc n) (drop starts_at (encode_model m))) c ∙ starts-back in
      let l : cut (gaps_of (take (suc (get_or (encode_model m) 0 0)) (drop starts_at (encode_model m)))) (map cell_item (drop items_at (encode_model m))) ≡ m.lists =
      rw (t, gaps-sums 0 (map length m.lists), items_back) (cut-flat m.lists _)
      in
      λ i. record { parents = p i; sets = q i; lists = l i }

-- the constructor: a table that is the encoding of a model that a table can hold
pub hold : (m : Model) (xs : List ℕ) → xs ≡ encode_model m → SizedModel m → HoldsModel xs m
hold m xs e s =
    let d : model_of xs ≡ m = ap model_of e ∙ decode-encode m s in
    record {
      good = record { size = ap length e ∙ length-encode_model m s; raw = e ∙ ap encode_model (sym d); sized = subst SizedModel (sym d) s };
      is = d;
    }

-- ---- tables by what they say

pub encoded : {xs : List ℕ} {m : Model} → HoldsModel xs m → xs ≡ encode_model m
encoded h = h.good.raw ∙ ap encode_model h.is

pub same-table : {xs ys : List ℕ} → GoodModel xs → GoodModel ys → model_of xs ≡ model_of ys → xs ≡ ys
same-table g h e = g.raw ∙ ap encode_model e ∙ sym h.raw

-- ---- what each read finds

module _ (xs : List ℕ) (g : GoodModel xs) where
  pub read_count : get_or xs 0 0 ≡ count_of (model_of xs)
  read_count = ap (λ (l : List ℕ). get_or l 0 0) g.raw ∙ read-count-of (model_of xs) g.sized

  pub read-parent : (e : ℕ) → e < count_of (model_of xs) → get_or xs (parents_at + e) 0 ≡ parent_cell (parent_of (model_of xs) e)
  unfolding parent_cell
  read-parent e h =
      let m = model_of xs in
      let k : e < length (parent_area m) = rw (length-parent_area m g.sized) (omega (arith, g.sized.count)) in
      ap (λ (l : List ℕ). get_or l (parents_at + e) 0) (g.raw ∙ around-parents m g.sized)
      ∙ get_d-inside (count_of m ∷ []) (parent_area m) (start_area m ++ (item_area m ++ set_area m)) parents_at e 0 refl k
      ∙ get_d-padded element_limit (map parent_cell m.parents) e
      ∙ get_or-map parent_cell m.parents e none

  pub read-start : (e : ℕ) → e ≤ count_of (model_of xs) → get_or xs (starts_at + e) 0 ≡ start_of (model_of xs).lists e
  read-start e h =
      let m = model_of xs in
      let k : e < length (start_area m) = rw (length-start_area m g.sized) (omega (arith, g.sized.count)) in
      ap (λ (l : List ℕ). get_or l (starts_at + e) 0) (g.raw ∙ around-starts m g.sized)
      ∙ get_d-inside (count_of m ∷ parent_area m) (start_area m) (item_area m ++ set_area m) starts_at e 0 (before-starts m g.sized) k
      ∙ get_d-padded (suc element_limit) (sums 0 (map length m.lists)) e
      ∙ sums_at 0 m.lists e (omega (arith, g.sized.lists))
      ∙ zero-add (start_of m.lists e)

  -- the set in the cells of e
  pub read_set : (e : ℕ) → e < count_of (model_of xs) → cells_set (take set_width (drop (sets_at + e * set_width) xs)) ≡ set_of (model_of xs) e
  unfolding model_of
  read_set e h =
      ap (λ (l : List ℕ). cells_set (take set_width l)) (sym (drop-drop (e * set_width) sets_at xs))
      ∙ sym (get_d-rows_of set_width set_cells wide-set cells_set (get_or xs 0 0) e (drop sets_at xs) no_set (rw read_count h))

  -- where the list of e ends
  pub read-end : (e : ℕ) → e < count_of (model_of xs) → get_or xs (starts_at + e + 1) 0 ≡ start_of (model_of xs).lists e + length (list_of (model_of xs) e)
  read-end e h =
      let z : starts_at + e + 1 ≡ starts_at + suc e = omega arith in
      rw z (read-start (suc e) h ∙ start-next (model_of xs).lists e (omega (arith, g.sized.lists)))

  -- the last start is the total
  pub start-total : start_of (model_of xs).lists (count_of (model_of xs)) ≡ content_items (model_of xs)
  start-total = rw (← g.sized.lists) (start-end (model_of xs).lists) ∙ total-flat (model_of xs) g.sized

  pub start-room : (e : ℕ) → e < count_of (model_of xs) → start_of (model_of xs).lists e + length (list_of (model_of xs) e) ≤ content_items (model_of xs)
  start-room e h = rw (← total-flat (model_of xs) g.sized) (start_fits (model_of xs).lists e (omega (arith, g.sized.lists)))

  -- an element with a list is an element
  pub listed_below : (e i : ℕ) → i < length (list_of (model_of xs) e) → e < count_of (model_of xs)
  listed_below e i h = rw (← g.sized.lists) (not-past (model_of xs).lists e i h)
    where
      not-past : (ls : List (List Item)) (e i : ℕ) → i < length (get_or ls e []) → e < length ls
      not-past [] e i h = absurd (not-suc-le-zero h)
      not-past (l ∷ ls) zero i h = omega arith
      not-past (l ∷ ls) (suc e) i h =
          let k = not-past ls e i h in
          omega arith

  pub read-item : (e i : ℕ) → i < length (list_of (model_of xs) e)
      → get_or xs (items_at + (start_of (model_of xs).lists e + i)) 0 ≡ item_cell (get_or (list_of (model_of xs) e) i (child 0))
  unfolding item_cell
  read-item e i h =
      let m = model_of xs in
      let at = start_of m.lists e + i in
      let r = start-room e (listed_below e i h) in
      let k : at < length (item_area m) = rw (length-item_area m g.sized) (omega (arith, g.sized.total)) in
      ap (λ (l : List ℕ). get_or l (items_at + at) 0) (g.raw ∙ around-items m g.sized)
      ∙ get_d-inside (count_of m ∷ (parent_area m ++ start_area m)) (item_area m) (set_area m) items_at at 0 (before-items m g.sized) k
      ∙ get_d-padded item_limit (map item_cell (flat m.lists)) at
      ∙ get_or-map item_cell (flat m.lists) at (child 0)
      ∙ ap item_cell (get_d-flat m.lists e i (child 0) h)

  -- items and parents are elements, or texts that a table has room for
  pub item-below : (e i : ℕ) → i < length (list_of (model_of xs) e) → ItemBelow (count_of (model_of xs)) (get_or (list_of (model_of xs) e) i (child 0))
  item-below e i h =
      let m = model_of xs in
      let r = start-room e (listed_below e i h) in
      let k : start_of m.lists e + i < length (flat m.lists) = rw (total-flat m g.sized) (omega arith) in
      rw (← get_d-flat m.lists e i (child 0) h) (each-get_d (ItemBelow (count_of m)) (flat m.lists) (start_of m.lists e + i) (child 0) g.sized.items_in k)

  pub parent-below : (e : ℕ) → e < count_of (model_of xs) → ParentBelow (count_of (model_of xs)) (parent_of (model_of xs) e)
  parent-below e h = each-get_d (ParentBelow (count_of (model_of xs))) (model_of xs).parents e none g.sized.parents_in h

-- ---- what each store leaves

-- two tables with equal areas
same-areas : {n n' : ℕ} {p p' q q' r r' s s' : List ℕ} → n ≡ n' → p ≡ p' → q ≡ q' → r ≡ r' → s ≡ s'
    → ◌≡◌ {A = List ℕ} (n ∷ (p ++ (q ++ (r ++ s)))) (n' ∷ (p' ++ (q' ++ (r' ++ s'))))
same-areas a b c d e = λ i. a i ∷ (b i ++ (c i ++ (d i ++ e i)))

kept : (l : List ℕ) → l ≡ l
kept l = refl

-- the first three areas as one
areas-left : (p q r s : List ℕ) → p ++ (q ++ (r ++ s)) ≡ (p ++ (q ++ r)) ++ s
areas-left p q r s = simp append_assoc

sized-put_parent : (m : Model) (e : ℕ) (p : Option ℕ) → SizedModel m → ParentBelow (count_of m) p → SizedModel (put_parent m e p)
unfolding put_parent content_items
sized-put_parent m e p s h =
    let z = length-set m.parents e p in
    record {
      sets = s.sets ∙ sym z;
      lists = s.lists ∙ sym z;
      count = rw z s.count;
      total = s.total;
      parents_in = rw z (each_set (ParentBelow (count_of m)) m.parents e p s.parents_in h);
      items_in = rw z s.items_in;
    }

pub store-parent : (xs : List ℕ) (e : ℕ) (p : Option ℕ) → GoodModel xs → e < count_of (model_of xs) → ParentBelow (count_of (model_of xs)) p
    → HoldsModel (set xs (parents_at + e) (parent_cell p)) (put_parent (model_of xs) e p)
unfolding put_parent encode_model
store-parent xs e p g h b =
    let m = model_of xs in
    let k : e < length (parent_area m) = rw (length-parent_area m g.sized) (omega (arith, g.sized.count)) in
    let j : e < length (map parent_cell m.parents) = rw (length-map m.parents parent_cell) h in
    let t : set xs (parents_at + e) (parent_cell p) ≡ encode_model (put_parent m e p) =
    ap (λ (l : List ℕ). set l (parents_at + e) (parent_cell p)) (g.raw ∙ around-parents m g.sized)
    ∙ set-inside (count_of m ∷ []) (parent_area m) (start_area m ++ (item_area m ++ set_area m)) parents_at e (parent_cell p) refl k
    ∙ same-areas
    (sym (length-set m.parents e p))
    (set-padded element_limit (map parent_cell m.parents) e (parent_cell p) j ∙ ap (padded element_limit) (sym (map-set parent_cell m.parents e p)))
    (kept (start_area m))
    (kept (item_area m))
    (kept (set_area m))
    in
    hold (put_parent m e p) (set xs (parents_at + e) (parent_cell p)) t (sized-put_parent m e p g.sized b)

sized-put_set : (m : Model) (e s : ℕ) → SizedModel m → SizedModel (put_set m e s)
unfolding put_set content_items
sized-put_set m e f s =
    record {
      sets = length-set m.sets e f ∙ s.sets;
      lists = s.lists;
      count = s.count;
      total = s.total;
      parents_in = s.parents_in;
      items_in = s.items_in;
    }

pub store-set : (xs : List ℕ) (e s : ℕ) → GoodModel xs → e < count_of (model_of xs)
    → HoldsModel (puts xs (sets_at + e * set_width) (set_cells s)) (put_set (model_of xs) e s)
unfolding put_set
store-set xs e s g h =
    let m = model_of xs in
    let front = count_of m ∷ (parent_area m ++ (start_area m ++ item_area m)) in
    let t : puts xs (sets_at + e * set_width) (set_cells s) ≡ encode_model (put_set m e s) =
    ap (λ (l : List ℕ). puts l (sets_at + e * set_width) (set_cells s)) (g.raw ∙ around-sets m g.sized)
    ∙ put_last set_width set_cells wide-set front sets_at element_limit m.sets e s (before-sets m g.sized) (omega (arith, g.sized.sets))
    ∙ sym (around-sets (put_set m e s) (sized-put_set m e s g.sized))
    in
    hold (put_set m e s) _ t (sized-put_set m e s g.sized)

sized-put_item : (m : Model) (e i : ℕ) (a : Item) → SizedModel m → i < length (list_of m e) → ItemBelow (count_of m) a → SizedModel (put_item m e i a)
unfolding put_item put_list
sized-put_item m e i a s k b =
    let z = total-put_item m e i a in
    record {
      sets = s.sets;
      lists = length-set m.lists e (set (list_of m e) i a) ∙ s.lists;
      count = s.count;
      total = rw z s.total;
      parents_in = s.parents_in;
      items_in = rw (flat-set m.lists e i a k) (each_set (ItemBelow (count_of m)) (flat m.lists) (start_of m.lists e + i) a s.items_in b);
    }

pub store-item : (xs : List ℕ) (e i : ℕ) (a : Item) → GoodModel xs → i < length (list_of (model_of xs) e) → ItemBelow (count_of (model_of xs)) a
    → HoldsModel (set xs (items_at + (start_of (model_of xs).lists e + i)) (item_cell a)) (put_item (model_of xs) e i a)
unfolding put_item put_list
store-item xs e i a g h b =
    let m = model_of xs in
    let at = start_of m.lists e + i in
    let us = map item_cell (flat m.lists) in
    let r = start-room xs g e (listed_below xs g e i h) in
    let j : at < length us = rw (length-items_used m g.sized) (omega arith) in
    let k : at < length (item_area m) = rw (length-item_area m g.sized) (omega (arith, g.sized.total)) in
    let starts : start_area m ≡ start_area (put_item m e i a) =
    ap (λ (ns : List ℕ). padded (suc element_limit) (sums 0 ns)) (sym (length-list-put m e i a))
    in
    let items : set (item_area m) at (item_cell a) ≡ item_area (put_item m e i a) =
    set-padded item_limit us at (item_cell a) j
    ∙ ap (padded item_limit) (sym (map-set item_cell (flat m.lists) at a) ∙ ap (map item_cell) (sym (flat-set m.lists e i a h)))
    in
    let s = sized-put_item m e i a g.sized h b in
    let t : set xs (items_at + at) (item_cell a) ≡ encode_model (put_item m e i a) =
    ap (λ (l : List ℕ). set l (items_at + at) (item_cell a)) (g.raw ∙ around-items m g.sized)
    ∙ set-inside (count_of m ∷ (parent_area m ++ start_area m)) (item_area m) (set_area m) items_at at (item_cell a) (before-items m g.sized) k
    ∙ (λ z. (count_of m ∷ (parent_area m ++ starts z)) ++ (items z ++ set_area m))
    ∙ sym (around-items (put_item m e i a) s)
    in
    hold (put_item m e i a) (set xs (items_at + at) (item_cell a)) t s

-- ---- a list that changes

sized-insert : (m : Model) (e i k : ℕ) (a : Item) → SizedModel m → e < count_of m → i ≤ length (list_of m e) → content_items m + k ≤ item_limit
    → ItemBelow (count_of m) a → SizedModel (insert_items m e i k a)
unfolding insert_items put_list
sized-insert m e i k a s h l t b =
    let z = total-insert_items m e i k a (omega (arith, s.lists)) in
    record {
      sets = s.sets;
      lists = length-set m.lists e (insert_run (list_of m e) i k a) ∙ s.lists;
      count = s.count;
      total = rw z t;
      parents_in = s.parents_in;
      items_in =
          rw (flat-insert_run m.lists e i k a (omega (arith, s.lists)) l)
          (each-insert_run (ItemBelow (count_of m)) (flat m.lists) (start_of m.lists e + i) k a s.items_in b);
    }

sized-remove : (m : Model) (e i k : ℕ) → SizedModel m → e < count_of m → i + k ≤ length (list_of m e) → SizedModel (remove_items m e i k)
unfolding remove_items put_list
sized-remove m e i k s h b =
    let z = total-remove m e i k (omega (arith, s.lists)) b in
    record {
      sets = s.sets;
      lists = length-set m.lists e (remove_run (list_of m e) i k) ∙ s.lists;
      count = s.count;
      total = omega (arith, s.total);
      parents_in = s.parents_in;
      items_in =
          rw (flat-remove m.lists e i k (omega (arith, s.lists)) b)
          (each-remove_run (ItemBelow (count_of m)) (flat m.lists) (start_of m.lists e + i) k s.items_in);
    }

-- the parts that are lent, and the table when both are back: the items with ps, the starts with qs
module _ (xs : List ℕ) (g : GoodModel xs) where
  -- the items, of which the used ones are us
  items-part : (us : List ℕ) (k : ℕ) → item_area (model_of xs) ≡ padded item_limit us → length us ≡ k → mid_of items_at k xs ≡ us
  items-part us k e l =
      let m = model_of xs in
      ap (mid_of items_at k) (g.raw ∙ around-items m g.sized ∙ ap (λ (r : List ℕ). (count_of m ∷ (parent_area m ++ start_area m)) ++ (r ++ set_area m)) e)
      ∙ mid-padded (count_of m ∷ (parent_area m ++ start_area m)) us (set_area m) item_limit items_at k (before-items m g.sized) l

  items-put : (us ps : List ℕ) (k : ℕ) → item_area (model_of xs) ≡ padded item_limit us → length us ≡ k → length ps ≡ length us
      → put_mid items_at k xs ps
      ≡ (count_of (model_of xs) ∷ parent_area (model_of xs)) ++ (start_area (model_of xs) ++ (padded item_limit ps ++ set_area (model_of xs)))
  items-put us ps k e l f =
      let m = model_of xs in
      ap (λ (r : List ℕ). put_mid items_at k r ps)
      (g.raw ∙ around-items m g.sized ∙ ap (λ (r : List ℕ). (count_of m ∷ (parent_area m ++ start_area m)) ++ (r ++ set_area m)) e)
      ∙ put-padded (count_of m ∷ (parent_area m ++ start_area m)) us ps (set_area m) item_limit items_at k (before-items m g.sized) l f
      ∙ ap (λ (z : List ℕ). count_of m ∷ z) (append_assoc (parent_area m) (start_area m) (padded item_limit ps ++ set_area m))

  starts-part : (ys r : List ℕ) (k : ℕ) → ys ≡ (count_of (model_of xs) ∷ parent_area (model_of xs)) ++ (start_area (model_of xs) ++ r)
      → k ≡ suc (count_of (model_of xs)) → mid_of starts_at k ys ≡ sums 0 (map length (model_of xs).lists)
  starts-part ys r k e l =
      let m = model_of xs in
      let used = sums 0 (map length m.lists) in
      ap (mid_of starts_at k) e
      ∙ mid-padded (count_of m ∷ parent_area m) used r (suc element_limit) starts_at k (before-starts m g.sized) (length-starts_used m g.sized ∙ sym l)

  starts-put : (ys qs r : List ℕ) (k : ℕ) → ys ≡ (count_of (model_of xs) ∷ parent_area (model_of xs)) ++ (start_area (model_of xs) ++ r)
      → k ≡ suc (count_of (model_of xs)) → length qs ≡ length (sums 0 (map length (model_of xs).lists))
      → put_mid starts_at k ys qs ≡ count_of (model_of xs) ∷ (parent_area (model_of xs) ++ (padded (suc element_limit) qs ++ r))
  starts-put ys qs r k e l f =
      let m = model_of xs in
      let used = sums 0 (map length m.lists) in
      ap (λ (z : List ℕ). put_mid starts_at k z qs) e
      ∙ put-padded (count_of m ∷ parent_area m) used qs r (suc element_limit) starts_at k (before-starts m g.sized) (length-starts_used m g.sized ∙ sym l) f

  -- starts are within the items, and none behind a list that is not empty is 0
  pub starts-few : (k : ℕ) → get_or (sums 0 (map length (model_of xs).lists)) k 0 ≤ item_limit
  unfolding content_items
  starts-few k =
      let r = sums-most 0 (map length (model_of xs).lists) k in
      omega (arith, g.sized.total)

  pub starts-past : (e i k : ℕ) → e < count_of (model_of xs) → i + k ≤ length (list_of (model_of xs) e) → (j : ℕ) → e + 1 ≤ j
      → j < length (sums 0 (map length (model_of xs).lists)) → k ≤ get_or (sums 0 (map length (model_of xs).lists)) j 0
  starts-past e i k h b j c l =
      let m = model_of xs in
      let n : e < length (map length m.lists) = rw (length-map m.lists length) (omega (arith, g.sized.lists)) in
      let o : k ≤ get_or (map length m.lists) e 0 = rw (get_or-map length m.lists e []) (omega arith) in
      sums-past 0 (map length m.lists) e k j n o (omega arith) l

  -- ---- a list changed: of the items, those in use, us, become f of them, and of the starts those behind e become h of each

  module _ (us : List ℕ) (room : item_area (model_of xs) ≡ padded item_limit us) (f : List ℕ → List ℕ) (keeps : length (f us) ≡ length us)
      (k l : ℕ) (ps : List ℕ) (kk : k ≡ length us) (ll : l ≡ suc (count_of (model_of xs))) (pp : ps ≡ f (mid_of items_at k xs)) where
    items-changed : ps ≡ f us
    items-changed = pp ∙ ap f (items-part us k room (sym kk))

    items-stored : put_mid items_at k xs ps
        ≡ (count_of (model_of xs) ∷ parent_area (model_of xs)) ++ (start_area (model_of xs) ++ (padded item_limit ps ++ set_area (model_of xs)))
    items-stored = items-put us ps k room (sym kk) (ap length items-changed ∙ keeps)

    starts-kept : mid_of starts_at l (put_mid items_at k xs ps) ≡ sums 0 (map length (model_of xs).lists)
    starts-kept = starts-part (put_mid items_at k xs ps) (padded item_limit ps ++ set_area (model_of xs)) l items-stored ll

    store-lists : (ls : List (List Item)) (h : ℕ → ℕ) (e : ℕ) (qs : List ℕ) → padded item_limit (f us) ≡ padded item_limit (map item_cell (flat ls))
        → on_from h (sums 0 (map length (model_of xs).lists)) (suc e) ≡ sums 0 (map length ls)
        → qs ≡ on_from h (mid_of starts_at l (put_mid items_at k xs ps)) (e + 1)
        → SizedModel (record { parents = (model_of xs).parents; sets = (model_of xs).sets; lists = ls })
        → HoldsModel (put_mid starts_at l (put_mid items_at k xs ps) qs) (record { parents = (model_of xs).parents; sets = (model_of xs).sets; lists = ls })
    unfolding encode_model
    store-lists ls h e qs items starts qq sized =
        let m = model_of xs in
        let m' : Model = record { parents = m.parents; sets = m.sets; lists = ls } in
        let q : qs ≡ sums 0 (map length ls) =
        qq ∙ ap (λ (z : List ℕ). on_from h z (e + 1)) starts-kept ∙ ap (on_from h (sums 0 (map length m.lists))) (add-one e) ∙ starts
        in
        let size : length qs ≡ length (sums 0 (map length m.lists)) =
        ap length q ∙ length-starts_used m' sized ∙ sym (length-starts_used m g.sized)
        in
        let t : put_mid starts_at l (put_mid items_at k xs ps) qs ≡ encode_model m' =
        starts-put (put_mid items_at k xs ps) qs (padded item_limit ps ++ set_area m) l items-stored ll size
        ∙ same-areas refl (kept (parent_area m)) (ap (padded (suc element_limit)) q) (ap (padded item_limit) items-changed ∙ items) (kept (set_area m))
        in
        hold m' (put_mid starts_at l (put_mid items_at k xs ps) qs) t sized

  -- ---- items inserted

  module _ (e i n : ℕ) (a : Item) (h : e < count_of (model_of xs)) (le : i ≤ length (list_of (model_of xs) e))
      (few : content_items (model_of xs) + n ≤ item_limit) where
    insert-room : item_area (model_of xs) ≡ padded item_limit (map item_cell (flat (model_of xs).lists) ++ replicate n 0)
    insert-room = padded-more item_limit (map item_cell (flat (model_of xs).lists)) n (rw (length-items_used (model_of xs) g.sized) few)

    insert-size : content_items (model_of xs) + n ≡ length (map item_cell (flat (model_of xs).lists) ++ replicate n 0)
    insert-size =
        let us = map item_cell (flat (model_of xs).lists) in
        omega (arith, length-append us (replicate n 0), length-replicate {A = ℕ} n 0, length-items_used (model_of xs) g.sized)

    insert-keeps : length (shift_in (map item_cell (flat (model_of xs).lists) ++ replicate n 0) (start_of (model_of xs).lists e + i) n (item_cell a))
        ≡ length (map item_cell (flat (model_of xs).lists) ++ replicate n 0)
    insert-keeps =
        let s = insert-size in
        length-shift_in (map item_cell (flat (model_of xs).lists) ++ replicate n 0) (start_of (model_of xs).lists e + i) n (item_cell a) (omega arith)

    insert-items : shift_in (map item_cell (flat (model_of xs).lists) ++ replicate n 0) (start_of (model_of xs).lists e + i) n (item_cell a)
        ≡ map item_cell (flat (set (model_of xs).lists e (insert_run (list_of (model_of xs) e) i n a)))
    insert-items =
        let m = model_of xs in
        let at = start_of m.lists e + i in
        shift_in-room (map item_cell (flat m.lists)) at n (item_cell a)
        ∙ sym (map-insert_run item_cell (flat m.lists) at n a)
        ∙ ap (map item_cell) (sym (flat-insert_run m.lists e i n a (omega (arith, g.sized.lists)) le))

    module _ (k l : ℕ) (ps : List ℕ) (kk : k ≡ content_items (model_of xs) + n) (ll : l ≡ suc (count_of (model_of xs)))
        (pp : ps ≡ shift_in (mid_of items_at k xs) (start_of (model_of xs).lists e + i) n (item_cell a)) where
      pub insert-starts : mid_of starts_at l (put_mid items_at k xs ps) ≡ sums 0 (map length (model_of xs).lists)
      insert-starts =
          starts-kept (map item_cell (flat (model_of xs).lists) ++ replicate n 0) insert-room (λ (z : List ℕ). shift_in z (start_of (model_of xs).lists e + i) n (item_cell a)) insert-keeps k l ps (kk ∙ insert-size) ll pp

      pub store-insert : (qs : List ℕ) → ItemBelow (count_of (model_of xs)) a
          → qs ≡ on_from (λ (x : ℕ). x + n) (mid_of starts_at l (put_mid items_at k xs ps)) (e + 1)
          → HoldsModel (put_mid starts_at l (put_mid items_at k xs ps) qs) (insert_items (model_of xs) e i n a)
      unfolding insert_items put_list
      store-insert qs b qq =
          let m = model_of xs in
          let ns = map length m.lists in
          let o : e < length ns = rw (length-map m.lists length) (omega (arith, g.sized.lists)) in
          store-lists (map item_cell (flat m.lists) ++ replicate n 0) insert-room (λ (z : List ℕ). shift_in z (start_of m.lists e + i) n (item_cell a)) insert-keeps k l ps (kk ∙ insert-size) ll pp
          (set m.lists e (insert_run (list_of m e) i n a)) (λ (x : ℕ). x + n) e qs
          (ap (padded item_limit) insert-items)
          (sums-insert 0 ns e n o ∙ ap (sums 0) (sym (length-list-insert m e i n a)))
          qq (sized-insert m e i n a g.sized h le few b)

  -- ---- items removed

  module _ (e i n : ℕ) (h : e < count_of (model_of xs)) (le : i + n ≤ length (list_of (model_of xs) e)) where
    remove-within : start_of (model_of xs).lists e + i + n ≤ length (map item_cell (flat (model_of xs).lists))
    remove-within =
        let r = start-room xs g e h in
        rw (length-items_used (model_of xs) g.sized) (omega arith)

    remove-keeps : length (shift_out (map item_cell (flat (model_of xs).lists)) (start_of (model_of xs).lists e + i) n)
        ≡ length (map item_cell (flat (model_of xs).lists))
    remove-keeps = length-shift_out (map item_cell (flat (model_of xs).lists)) (start_of (model_of xs).lists e + i) n remove-within

    remove-items : remove_run (map item_cell (flat (model_of xs).lists)) (start_of (model_of xs).lists e + i) n
        ≡ map item_cell (flat (set (model_of xs).lists e (remove_run (list_of (model_of xs) e) i n)))
    remove-items =
        let m = model_of xs in
        sym (map-remove_run item_cell (flat m.lists) (start_of m.lists e + i) n)
        ∙ ap (map item_cell) (sym (flat-remove m.lists e i n (omega (arith, g.sized.lists)) le))

    remove-padded : padded item_limit (shift_out (map item_cell (flat (model_of xs).lists)) (start_of (model_of xs).lists e + i) n)
        ≡ padded item_limit (map item_cell (flat (set (model_of xs).lists e (remove_run (list_of (model_of xs) e) i n))))
    unfolding shift_out
    remove-padded =
        let m = model_of xs in
        let us = map item_cell (flat m.lists) in
        let at = start_of m.lists e + i in
        let few : length (remove_run us at n) + n ≤ item_limit =
        omega (arith, length-remove_run us at n remove-within, length-items_used m g.sized, g.sized.total)
        in
        sym (padded-more item_limit (remove_run us at n) n few) ∙ ap (padded item_limit) remove-items

    module _ (k l : ℕ) (ps : List ℕ) (kk : k ≡ content_items (model_of xs)) (ll : l ≡ suc (count_of (model_of xs)))
        (pp : ps ≡ shift_out (mid_of items_at k xs) (start_of (model_of xs).lists e + i) n) where
      pub remove-starts : mid_of starts_at l (put_mid items_at k xs ps) ≡ sums 0 (map length (model_of xs).lists)
      remove-starts =
          starts-kept (map item_cell (flat (model_of xs).lists)) refl (λ (z : List ℕ). shift_out z (start_of (model_of xs).lists e + i) n) remove-keeps k l ps (kk ∙ sym (length-items_used (model_of xs) g.sized)) ll pp

      pub store-remove : (qs : List ℕ) → qs ≡ on_from (λ (x : ℕ). x - n) (mid_of starts_at l (put_mid items_at k xs ps)) (e + 1)
          → HoldsModel (put_mid starts_at l (put_mid items_at k xs ps) qs) (remove_items (model_of xs) e i n)
      unfolding remove_items put_list
      store-remove qs qq =
          let m = model_of xs in
          let ns = map length m.lists in
          let b : e < length ns = rw (length-map m.lists length) (omega (arith, g.sized.lists)) in
          let o : n ≤ get_or ns e 0 = rw (get_or-map length m.lists e []) (omega arith) in
          store-lists (map item_cell (flat m.lists)) refl (λ (z : List ℕ). shift_out z (start_of m.lists e + i) n) remove-keeps k l ps
          (kk ∙ sym (length-items_used m g.sized)) ll pp
          (set m.lists e (remove_run (list_of m e) i n)) (λ (x : ℕ). x - n) e qs
          remove-padded
          (sums-remove 0 ns e n b o ∙ ap (sums 0) (sym (length-list-remove m e i n (omega (arith, g.sized.lists)) le)))
          qq (sized-remove m e i n g.sized h le)

-- ---- one more element

parent-more : (n : ℕ) (p : Option ℕ) → ParentBelow n p → ParentBelow (n + 1) p
parent-more n p h = parent-weaker n (n + 1) p (omega arith) h

item-more : (n : ℕ) (a : Item) → ItemBelow n a → ItemBelow (n + 1) a
item-more n a h = item-weaker n (n + 1) a (omega arith) h

sized-add : (m : Model) (p : Option ℕ) (s : ℕ) → SizedModel m → count_of m < element_limit → ParentBelow (count_of m) p → SizedModel (add_to_model m p s)
unfolding add_to_model
sized-add m p f s h b =
    let z = length-append m.parents (p ∷ []) in
    let t = total-add m p f in
    record {
      sets = rw (length-append m.sets (f ∷ []), z, s.sets);
      lists = rw (length-append m.lists ([] ∷ []), z, s.lists);
      count = rw z (omega arith);
      total = rw t s.total;
      parents_in =
          rw z
          (each_append (ParentBelow (count_of m + 1)) m.parents (p ∷ [])
          (each-imp (ParentBelow (count_of m)) (ParentBelow (count_of m + 1)) m.parents (parent-more (count_of m)) s.parents_in)
          (parent-more (count_of m) p b, tt));
      items_in =
          rw (z, flat-add m.lists)
          (each-imp (ItemBelow (count_of m)) (ItemBelow (count_of m + 1)) (flat m.lists) (item-more (count_of m)) s.items_in);
    }

pub store-add : (xs : List ℕ) (p : Option ℕ) (s n : ℕ) → GoodModel xs → n ≡ count_of (model_of xs) → n < element_limit → ParentBelow (count_of (model_of xs)) p
    → HoldsModel
    (puts (set (set (set xs 0 (n + 1)) (parents_at + n) (parent_cell p)) (starts_at + (n + 1)) (get_or xs (starts_at + n) 0)) (sets_at + n * set_width) (set_cells s))
    (add_to_model (model_of xs) p s)
unfolding add_to_model encode_model content_items
store-add xs p s n g nn h b =
    let m = model_of xs in
    let c = parent_cell p in
    let ps = map parent_cell m.parents in
    let ns = map length m.lists in
    let P = parent_area m in
    let T = start_area m in
    let I = item_area m in
    let S = set_area m in
    let last = get_or xs (starts_at + n) 0 in
    let P' = set P n c in
    let T' = set T (n + 1) last in
    let zp : n ≡ length ps = nn ∙ sym (length-map m.parents parent_cell) in
    let zn : n + 1 ≡ length (sums 0 ns) = add-one n ∙ ap suc nn ∙ sym (length-starts_used m g.sized) in
    let zs : n ≡ length m.sets = nn ∙ sym g.sized.sets in
    let lp : length P ≡ element_limit = length-parent_area m g.sized in
    let lt : length T ≡ suc element_limit = length-start_area m g.sized in
    let li : length I ≡ item_limit = length-item_area m g.sized in
    let lp' : length P' ≡ element_limit = length-set P n c ∙ lp in
    let lt' : length T' ≡ suc element_limit = length-set T (n + 1) last ∙ lt in
    let hp : length ((n + 1) ∷ P') ≡ starts_at = ap suc lp' in
    let hs : length ((n + 1) ∷ (P' ++ (T' ++ I))) ≡ sets_at = ap suc (length-append P' (T' ++ I) ∙ rw (length-append T' I, lp', lt', li)) in
    let e : last ≡ 0 + sum ns =
    read-start xs g n (omega arith) ∙ ap (start_of m.lists) nn ∙ start-total xs g ∙ sym (zero-add (sum ns))
    in
    let t1 : set xs 0 (n + 1) ≡ (n + 1) ∷ (P ++ (T ++ (I ++ S))) = ap (λ (l : List ℕ). set l 0 (n + 1)) g.raw in
    let t2 : set (set xs 0 (n + 1)) (parents_at + n) c ≡ (n + 1) ∷ (P' ++ (T ++ (I ++ S))) =
    ap (λ (l : List ℕ). set l (parents_at + n) c) t1 ∙ set-inside ((n + 1) ∷ []) P (T ++ (I ++ S)) parents_at n c refl (omega arith)
    in
    let t3 : set (set (set xs 0 (n + 1)) (parents_at + n) c) (starts_at + (n + 1)) last ≡ (n + 1) ∷ (P' ++ (T' ++ (I ++ S))) =
    ap (λ (l : List ℕ). set l (starts_at + (n + 1)) last) t2 ∙ set-inside ((n + 1) ∷ P') T (I ++ S) starts_at (n + 1) last hp (omega arith)
    in
    let t4 : puts (set (set (set xs 0 (n + 1)) (parents_at + n) c) (starts_at + (n + 1)) last) (sets_at + n * set_width) (set_cells s)
    ≡ (n + 1) ∷ (P' ++ (T' ++ (I ++ cells set_width element_limit set_cells (m.sets ++ (s ∷ []))))) =
    ap (λ (l : List ℕ). puts l (sets_at + n * set_width) (set_cells s)) (t3 ∙ ap (λ (l : List ℕ). (n + 1) ∷ l) (areas-left P' T' I S))
    ∙ ap (λ (k : ℕ). puts ((n + 1) ∷ ((P' ++ (T' ++ I)) ++ S)) (sets_at + k * set_width) (set_cells s)) zs
    ∙ append-last set_width set_cells wide-set ((n + 1) ∷ (P' ++ (T' ++ I))) sets_at element_limit m.sets s hs (omega arith)
    ∙ ap (λ (l : List ℕ). (n + 1) ∷ l) (sym (areas-left P' T' I _))
    in
    let ep : P' ≡ padded element_limit (map parent_cell (m.parents ++ (p ∷ []))) =
    ap (λ (k : ℕ). set P k c) zp ∙ set-behind-padded element_limit ps c (omega arith) ∙ ap (padded element_limit) (sym (map-then parent_cell m.parents (p ∷ [])))
    in
    let et : T' ≡ padded (suc element_limit) (sums 0 (map length (m.lists ++ ([] ∷ [])))) =
    ap (λ (k : ℕ). set T k last) zn
    ∙ set-behind-padded (suc element_limit) (sums 0 ns) last (omega arith)
    ∙ ap (λ (k : ℕ). padded (suc element_limit) (sums 0 ns ++ (k ∷ []))) e
    ∙ ap (padded (suc element_limit)) (sym (sums-append 0 ns))
    ∙ ap (λ (l : List ℕ). padded (suc element_limit) (sums 0 l)) (sym (map-then length m.lists ([] ∷ [])))
    in
    let ei : I ≡ padded item_limit (map item_cell (flat (m.lists ++ ([] ∷ [])))) =
    ap (λ (l : List Item). padded item_limit (map item_cell l)) (sym (flat-add m.lists))
    in
    let en : n + 1 ≡ length (m.parents ++ (p ∷ [])) = ap (λ (k : ℕ). k + 1) nn ∙ sym (length-append m.parents (p ∷ [])) in
    hold (add_to_model m p s) _ (t4 ∙ same-areas en ep et ei (kept _)) (sized-add m p s g.sized (omega arith) b)

-- ---- a table of zeros holds no element

zeros-areas : (a b c d : ℕ) → replicate (suc (a + (suc b + (c + d)))) 0
    ≡ 0 ∷ (padded a [] ++ (padded (suc b) (0 ∷ []) ++ (padded c [] ++ padded d [])))
unfolding padded
zeros-areas a b c d =
    let e : suc b - 1 ≡ b = omega arith in
    rw (
      sub-zero a,
      e,
      sub-zero c,
      sub-zero d,
      ← replicate-append-replicate {A = ℕ} a (suc b + (c + d)) 0,
      ← replicate-append-replicate {A = ℕ} (suc b) (c + d) 0,
      ← replicate-append-replicate {A = ℕ} c d 0,
    )

pub hold-empty : (xs : List ℕ) → length xs ≡ model_size → xs ≡ replicate (length xs) 0 → HoldsModel xs no_model
unfolding encode_model sums flat content_items sum cells row_cells
hold-empty xs l e =
    hold no_model xs (e ∙ ap (λ (n : ℕ). replicate n 0) l ∙ zeros-areas element_limit element_limit item_limit (element_limit * set_width))
    (record { sets = refl; lists = refl; count = omega arith; total = omega arith; parents_in = tt; items_in = tt })
