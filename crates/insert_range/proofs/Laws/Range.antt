-- Laws of insert ranges: one move by its numbers, one item by its row, the items that are left give the whole, and the range by the
-- parent's mode. Assumes nothing.
use mathlib.Core.List.{List, []}
use mathlib.Core.Option.{none, some}
use mathlib.Core.Path.{◌≡◌, refl, sym, subst, ◌∙◌}
use Prim.Native.Nat.{ℕ, zero, suc, ◌+◌, ◌*◌, ◌%◌, ◌^◌, ◌≤◌, ◌<◌, Ordering}
use native.Mathlib.Numerals.{add-one}
use native.Mathlib.Omega.{arith}
use lib.ListN.{length, get_or, drop, drop_of_length-le}
use Rattle.std.specs.Prelude.{Option, Some, None, Result, Ok, Err}
use Rattle.tables.specs.Limits.{item_limit, version_limit}
use Rattle.tables.specs.Paths.{path_order, order_of}
use Rattle.tables.specs.Records.{SchemaPath, Mode, sequence, choice, bag, mixed, characters, Mult, Item, child, text, Fixed, SubElement, Model, type_row, name_of, type_of, list_of}
use Rattle.tables.specs.ElementsTable.{elements_of}
use Rattle.tables.specs.ModelTable.{model_of, ItemBelow}
use Rattle.tables.specs.declared.schema.Mult as program_mult
use Rattle.tables.specs.SchemaTable.{schema_of, mode_number, mode_from, mult_is, no_sub_element}
use Rattle.std.specs.declared.cmp.Ordering as program_order
use Rattle.std.specs.declared.cmp.Ordering.TheVariants.{Less, Equal, Greater}
use Rattle.tables.proofs.Laws.FileSets.{one_shifted}
use Rattle.tables.proofs.Laws.ModelTable.{start-room, listed_below, item-below}
use Rattle.tables.proofs.Laws.SchemaTable.{mode-back}
use Rattle.deck.specs.Schema.{find_sub_element, row_of_name, version_mask, find_common_group}
use Rattle.state_test.specs.StateTest.{fixed_in}
use Rattle.tables.proofs.Laws.Scans.{drop-next}
use Rattle.merge_rules.specs.Range.{Range, places, no_row, conflicting, stop, move, clash, equal_path, move_by, move_at, read_content, range_in, calc_element_insert_range}
use Rattle.merge_rules.proofs.Laws.Range.{RangeFits, range-fits}
use Rattle.insert_range.specs.declared.range.Move as step
use Rattle.insert_range.specs.declared.range.Move.TheVariants.{Stop, To, Clash}
use Rattle.insert_range.specs.declared.range.Unplaced.{Unplaced}
use Rattle.insert_range.specs.declared.range.Unplaced.TheVariants.{NoRow, Conflicting}
use Rattle.insert_range.specs.declared.range.Against.{Against}
use Rattle.insert_range.specs.declared.range.Bounds.{Bounds}
use Rattle.insert_range.specs.Range.{ordering_is, move_is, move_of, bounds_after, Compares, name_or, Moves, range_is, PlacesIn, Ranges, AnyPlaceIn}
use Rattle.table_test.specs.Fits.{ModelOver}

-- ---- a move, by numbers

module _ (mode : ℕ) (mult : program_mult.Mult) (first index : ℕ) {order : program_order.Ordering} where
  module _ (m : mode ≡ 0) where
    pub sequence-less : order ≡ Less → stop ≡ move_by (mode_from mode) (ordering_is order) (mult_is mult) first index
    unfolding move_by
    sequence-less o = rw (m, o)

    pub sequence-equal : order ≡ Equal → (r : step.Move) → move_is r ≡ equal_path (mult_is mult) first index
        → move_is r ≡ move_by (mode_from mode) (ordering_is order) (mult_is mult) first index
    unfolding move_by
    sequence-equal o r e = rw (m, o) e

    pub sequence-greater : order ≡ Greater
        → move (index + 1) (index + 1) ≡ move_by (mode_from mode) (ordering_is order) (mult_is mult) first index
    unfolding move_by
    sequence-greater o = rw (m, o, add-one index)

  module _ (m : mode ≡ 1) where
    pub choice-less : order ≡ Less → clash ≡ move_by (mode_from mode) (ordering_is order) (mult_is mult) first index
    unfolding move_by
    choice-less o = rw (m, o)

    pub choice-equal : order ≡ Equal → (r : step.Move) → move_is r ≡ equal_path (mult_is mult) first index
        → move_is r ≡ move_by (mode_from mode) (ordering_is order) (mult_is mult) first index
    unfolding move_by
    choice-equal o r e = rw (m, o) e

    pub choice-greater : order ≡ Greater → clash ≡ move_by (mode_from mode) (ordering_is order) (mult_is mult) first index
    unfolding move_by
    choice-greater o = rw (m, o)

-- bag, mixed; no group is characters
pub move-any : (mode : ℕ) (o : Ordering) (k : Mult) (first index : ℕ) → (mode ≡ 0 → ⊥) → (mode ≡ 1 → ⊥)
    → move first (index + 1) ≡ move_by (mode_from mode) o k first index
unfolding move_by
move-any zero o k first index h j = absurd (h refl)
move-any (suc zero) o k first index h j = absurd (j refl)
move-any (suc (suc zero)) o k first index h j = rw (add-one index)
move-any (suc (suc (suc zero))) o k first index h j = rw (add-one index)
move-any (suc (suc (suc (suc zero)))) o k first index h j = rw (add-one index)
move-any (suc (suc (suc (suc (suc m))))) o k first index h j = rw (add-one index)

order-back : (o : Ordering) → ordering_is (order_of o) ≡ o
unfolding order_of
order-back Ordering.lt = refl
order-back Ordering.eq = refl
order-back Ordering.gt = refl

move-back : (m : Mode) (o : Ordering) (k : Mult) (first index : ℕ) {mode : ℕ} (mult : program_mult.Mult) {order : program_order.Ordering}
    → mode ≡ mode_number m → order ≡ order_of o → mult_is mult ≡ k
    → move_by (mode_from mode) (ordering_is order) (mult_is mult) first index ≡ move_by m o k first index
move-back m o k first index mult hm ho hk = rw (hm, ho, hk, mode-back m, order-back o)

-- ---- one item, by how the elements of its name stand to the new one

module _ (schema : List ℕ) (t new n : ℕ) where
  pub compares-none : row_of_name (schema_of schema) t n ≡ none → Compares schema t new n None
  unfolding move_at
  compares-none h =
      record {
        is = λ f p e mult index b hs ht hn hm.
            let k : row_of_name f.schema (type_of f p) (name_of f e) ≡ none = rw (hs, ← ht, ← hn) h in
            rw (move_at, k);
      }

  pub compares-row : {old : SubElement} → row_of_name (schema_of schema) t n ≡ some old
      → {path other : SchemaPath} → path ≡ (get_or (schema_of schema).sub_elements new no_sub_element).path → other ≡ old.path
      → {mode : ℕ} {order : program_order.Ordering} → mode ≡ mode_number (find_common_group (schema_of schema) t path other) → order ≡ order_of (path_order path other)
      → Compares schema t new n (Some (record { mode = mode; order = order }))
  unfolding move_at
  compares-row {old} h hp ho hm hr =
      record {
        is = λ f p e mult index b hs ht hn hk.
            let k : row_of_name f.schema (type_of f p) (name_of f e) ≡ some old = rw (hs, ← ht, ← hn) h in
            move-back _ _ _ b.first index _ hm hr hk ∙ rw (move_at, k, hp, ho, ht, hs);
      }

-- ---- the items from place i on, by the move of item i

-- the move m of item i of the list l, from the bounds b to b'
pub record ItemRead (x : Fixed) (p : ℕ) (new : SubElement) (l : List Item) (i : ℕ) (b b' : Bounds) (m : step.Move) : Type 0 where
  pub within : i < length l
  pub is : move_at x p new (get_or l i (child 0)) i b.first b.last ≡ move_is m
  pub moved : b' ≡ bounds_after m b

module _ (deck schema elements : List ℕ) (p : ℕ) {t : ℕ} (ht : t ≡ type_of (fixed_in deck schema elements) p) (new : ℕ) (mult : program_mult.Mult)
    (hm : mult_is mult ≡ (get_or (schema_of schema).sub_elements new no_sub_element).mult) {n : ℕ} {s : Option Against} (compares : Compares schema t new n s) (last : ℕ) where
  item-moves : (a : Item) → n ≡ name_or elements last a → (index : ℕ) (b : Bounds)
      → move_of a s mult index b ≡ move_at (fixed_in deck schema elements) p (get_or (schema_of schema).sub_elements new no_sub_element) a index b.first b.last
  unfolding move_at
  item-moves (child e) h index b = compares.is (fixed_in deck schema elements) p e _ index b refl ht h hm
  item-moves (text t) h index b = rw (move_at, add-one index)

  pub item-read : (l : List Item) (i : ℕ) → i < length l → (a : Item) → a ≡ get_or l i (child 0) → n ≡ name_or elements last a → {b b' : Bounds} {m : step.Move}
      → Moves a s mult i b b' m → ItemRead (fixed_in deck schema elements) p (get_or (schema_of schema).sub_elements new no_sub_element) l i b b' m
  item-read l i h a at k moves = record { within = h; is = rw (← at) (sym (moves.is ∙ item-moves a k i _)); moved = moves.moved }

module _ {x : Fixed} {p : ℕ} {new : SubElement} {l : List Item} {i : ℕ} {b b' : Bounds} {m : step.Move} (r : ItemRead x p new l i b b' m) where
  pub read-stop : m ≡ Stop → read_content x p new (drop i l) i b.first b.last ≡ places b'.first b'.last
  unfolding read_content
  read-stop e = rw (drop-next l i (child 0) r.within, read_content, r.is, r.moved, e)

  pub read-clash : m ≡ Clash → read_content x p new (drop i l) i b.first b.last ≡ conflicting
  unfolding read_content
  read-clash e = rw (drop-next l i (child 0) r.within, read_content, r.is, e)

  pub read_more : {c : Bounds} → m ≡ To c
      → read_content x p new (drop (i + 1) l) (i + 1) b'.first b'.last ≡ read_content x p new (drop i l) i b.first b.last
  unfolding read_content
  read_more e = rw (drop-next l i (child 0) r.within, read_content, r.is, r.moved, e, add-one i)

module _ (x : Fixed) (p : ℕ) (new : SubElement) (l : List Item) (i : ℕ) (b : Bounds) where
  pub read-end : length l ≤ i → read_content x p new (drop i l) i b.first b.last ≡ places b.first b.last
  unfolding read_content
  read-end h = rw (drop_of_length-le l {i = i} h)

-- ---- what the tables' good says of a parent and its items

module _ (elements model : List ℕ) (over : ModelOver elements model) (p i : ℕ) (h : i < length (list_of (model_of model) p)) where
  pub item-early : i < item_limit
  item-early = omega (arith, start-room model over.good p (listed_below model over.good p i h), over.good.sized.total)

  pub item_in : {a : Item} → a ≡ get_or (list_of (model_of model) p) i (child 0) → ItemBelow (length (elements_of elements).names) a
  item_in e = rw (e, ← over.same) (item-below model over.good p i h)

-- ---- the range, by the parent's mode

-- 2 and 3 are bag and mixed
pub any_place : (mode : Mode) → 2 ≤ mode_number mode → mode_number mode < 4 → AnyPlaceIn mode
unfolding mode_number
any_place sequence g h = absurd (omega arith)
any_place choice g h = absurd (omega arith)
any_place bag g h = tt
any_place mixed g h = tt
any_place characters g h = absurd (omega arith)

module _ (x : Fixed) (m : Model) (p n v : ℕ) (low : v < version_limit) {t : ℕ} (ht : t ≡ type_of x p) where
  pub calc-none : find_sub_element x.schema t n (1 * 2 ^ v % 2 ^ 64) ≡ none → no_row ≡ calc_element_insert_range x m p n v
  unfolding calc_element_insert_range
  calc-none h =
      let k : find_sub_element x.schema (type_of x p) n (version_mask v) ≡ none = rw (← ht, ← one_shifted v (omega arith)) h in
      rw (calc_element_insert_range, k)

  -- any place, in a bag or mixed
  pub calc-any : {new : SubElement} → find_sub_element x.schema t n (1 * 2 ^ v % 2 ^ 64) ≡ some new → AnyPlaceIn (type_row x.schema t).mode
      → places 0 (length (list_of m p)) ≡ calc_element_insert_range x m p n v
  unfolding calc_element_insert_range range_in
  calc-any {new} found any =
      let k : find_sub_element x.schema (type_of x p) n (version_mask v) ≡ some new = rw (← ht, ← one_shifted v (omega arith)) found in
      in-mode (type_row x.schema t).mode any ∙ rw (calc_element_insert_range, k, ht)
    where
      in-mode : (mode : Mode) → AnyPlaceIn mode → places 0 (length (list_of m p)) ≡ range_in x m p new mode
      in-mode sequence h = absurd h
      in-mode choice h = absurd h
      in-mode bag h = refl
      in-mode mixed h = refl
      in-mode characters h = absurd h

  module _ {new : SubElement} (found : find_sub_element x.schema t n (1 * 2 ^ v % 2 ^ 64) ≡ some new) {mode : ℕ}
      (hm : mode ≡ mode_number (type_row x.schema t).mode) where
    by_mode : range_in x m p new (mode_from mode) ≡ calc_element_insert_range x m p n v
    unfolding calc_element_insert_range
    by_mode =
        let k : find_sub_element x.schema (type_of x p) n (version_mask v) ≡ some new = rw (← ht, ← one_shifted v (omega arith)) found in
        rw (calc_element_insert_range, k, hm, mode-back (type_row x.schema t).mode, ht)

    pub calc-read : mode < 2 → (r : Result Bounds Unplaced) → range_is r ≡ read_content x p new (list_of m p) 0 0 0 → range_is r ≡ calc_element_insert_range x m p n v
    unfolding range_in
    calc-read h r e = e ∙ two mode h ∙ by_mode
      where
        two : (k : ℕ) → k < 2 → read_content x p new (list_of m p) 0 0 0 ≡ range_in x m p new (mode_from k)
        two zero h = refl
        two (suc zero) h = refl
        two (suc (suc k)) h = absurd (omega arith)

    pub calc-all : 2 ≤ mode → mode < 4 → {k : ℕ} → k ≡ length (list_of m p) → places 0 k ≡ calc_element_insert_range x m p n v
    calc-all g h e = rw e (calc-any found (any_place (type_row x.schema t).mode (rw (← hm) g) (rw (← hm) h)))

    pub calc-characters : 4 ≤ mode → no_row ≡ calc_element_insert_range x m p n v
    unfolding range_in
    calc-characters h = none_left mode h ∙ by_mode
      where
        none_left : (k : ℕ) → 4 ≤ k → no_row ≡ range_in x m p new (mode_from k)
        none_left zero h = absurd (omega arith)
        none_left (suc zero) h = absurd (omega arith)
        none_left (suc (suc zero)) h = absurd (omega arith)
        none_left (suc (suc (suc zero))) h = absurd (omega arith)
        none_left (suc (suc (suc (suc zero)))) h = refl
        none_left (suc (suc (suc (suc (suc k))))) h = refl

-- ---- the places are places of the list

places-in : (n : ℕ) (r : Result Bounds Unplaced) (o : Range) → range_is r ≡ o → RangeFits n o → PlacesIn n r
places-in n (Ok b) o e h = subst (RangeFits n) (sym e) h
places-in n (Err NoRow) o e h = tt
places-in n (Err Conflicting) o e h = tt

pub ranges : (schema elements model : List ℕ) (p n v : ℕ) (r : Result Bounds Unplaced)
    → ((deck : List ℕ) → range_is r ≡ calc_element_insert_range (fixed_in deck schema elements) (model_of model) p n v)
    → Ranges schema elements model p n v r
ranges schema elements model p n v r h =
    record {
      is = h;
      within =
          places-in (length (list_of (model_of model) p)) r (calc_element_insert_range (fixed_in [] schema elements) (model_of model) p n v) (h [])
          (range-fits (fixed_in [] schema elements) (model_of model) p n v);
    }
