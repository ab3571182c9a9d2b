-- The test of an index: its cells compared, its rows' buckets from their cells, and the index that passes. Assumes nothing.
use mathlib.Core.Bool.{Bool, true, ◌&&◌, and-true}
use mathlib.Core.List.{List, ◌++◌, append-nil}
use mathlib.Core.Path.{◌≡◌, sym, ap, ◌∙◌}
use Prim.Native.Nat.{ℕ, ◌+◌, ◌*◌, ◌≤◌, ◌<◌}
use native.Mathlib.Nat.{zero-add, add-zero}
use native.Mathlib.Numerals.{add-one}
use native.Mathlib.Omega.{arith}
use lib.Dec.{eqb}
use lib.ListN.{length, get_or, take, drop, drop_of_length-le, take-append-drop}
use lib.Seq.{drop-drop, get_or-take, get_or-drop}
use Rattle.tables.specs.Cells.{rows_of, row_at}
use Rattle.tables.specs.Index.{buckets, index_size, index_cells, linked_at, linked, empty_index}
use Rattle.tables.specs.Limits.{group_limit, row_limit}
use Rattle.tables.specs.Lists.{same_list}
use Rattle.tables.specs.Records.{Group, SubElement, Schema}
use Rattle.tables.specs.SchemaTable.{schema_size, types_at, groups_at, rows_at, files_at, types_area, groups_area, rows_area, group_index_at, name_index_at, path_index_at, index_at, cells_type, group_cells, cells_group, sub_element_cells, cells_sub_element, cells_file, no_group, no_sub_element, group_key, name_key, path_key, index_of, schema_of}
use Rattle.tables.specs.declared.index.Index.{Index}
use Rattle.tables.specs.declared.index.Index.TheVariants.{Groups, Names, Paths}
use Rattle.tables.proofs.Laws.Cells.{length-rows_of, get_d-rows_of}
use Rattle.tables.proofs.Laws.Lists.{same_lists}
use Rattle.tables.proofs.Laws.Scans.{drop-next, and-all}
use Rattle.tables.proofs.Laws.SchemaTable.{wide-group, wide_row, index_area}
use Rattle.table_test.specs.SchemaTest.{path_bucket_at, name_bucket_at, index_tests, index_passes, Counted}
use Rattle.table_test.specs.RowTests.{every}
use Rattle.table_test.proofs.Laws.RowsTest.{every-at}

-- ---- two lists of one length, b being the answer for the cells before j

module _ (b : Bool) (s w : List ℕ) (j : ℕ) (k : length s ≡ length w) where
  pub same_more : j < length s
      → (b && eqb (get_or s j 0) (get_or w j 0)) && same_list (drop (j + 1) s) (drop (j + 1) w) ≡ b && same_list (drop j s) (drop j w)
  unfolding same_list
  same_more h =
      rw (drop-next s j 0 h, drop-next w j 0 (omega arith), same_list)
      (and-all b (eqb (get_or s j 0) (get_or w j 0)) (same_list (drop (j + 1) s) (drop (j + 1) w)))

  pub same_end : length s ≤ j → b ≡ b && same_list (drop j s) (drop j w)
  unfolding same_list
  same_end h = rw (drop_of_length-le s {i = j} h, drop_of_length-le w {i = j} (omega arith)) (sym (and-true b))

-- ---- what the table says, each area from its place

pub schema-read : (xs : List ℕ) → schema_of xs
    ≡ record {
      types = rows_of 3 (get_or xs 0 0) cells_type (drop types_at xs);
      groups = rows_of 6 (get_or xs 1 0) cells_group (drop groups_at xs);
      sub_elements = rows_of 9 (get_or xs 2 0) cells_sub_element (drop rows_at xs);
      files = rows_of 2 (get_or xs 3 0) cells_file (drop files_at xs);
    }
unfolding schema_of
schema-read xs = rw (drop-drop types_area types_at xs, drop-drop groups_area groups_at xs, drop-drop rows_area rows_at xs)

groups-read : (xs : List ℕ) → (schema_of xs).groups ≡ rows_of 6 (get_or xs 1 0) cells_group (drop groups_at xs)
groups-read xs = ap (λ (sc : Schema). sc.groups) (schema-read xs)

rows-read : (xs : List ℕ) → (schema_of xs).sub_elements ≡ rows_of 9 (get_or xs 2 0) cells_sub_element (drop rows_at xs)
rows-read xs = ap (λ (sc : Schema). sc.sub_elements) (schema-read xs)

pub counted : (xs : List ℕ) → length xs ≡ schema_size → get_or xs 1 0 ≤ group_limit → get_or xs 2 0 ≤ row_limit → Counted xs
counted xs e g r =
    record {
      size = e;
      groups = sym (ap length (groups-read xs) ∙ length-rows_of 6 group_cells wide-group cells_group (get_or xs 1 0) (drop groups_at xs));
      rows = sym (ap length (rows-read xs) ∙ length-rows_of 9 sub_element_cells wide_row cells_sub_element (get_or xs 2 0) (drop rows_at xs));
      groups_few = g;
      rows_few = r;
    }

-- ---- buckets from cells

-- cell j of row i
cell_at : (w i j a : ℕ) (xs : List ℕ) → j < w → get_or (row_at w i (drop a xs)) j 0 ≡ get_or xs (a + i * w + j) 0
cell_at w i j a xs h =
    get_or-take w (drop (i * w) (drop a xs)) j 0 h ∙ ap (λ (l : List ℕ). get_or l j 0) (drop-drop (i * w) a xs) ∙ get_or-drop (a + i * w) xs j 0

first_cell : (w i a : ℕ) (xs : List ℕ) → 0 < w → get_or (row_at w i (drop a xs)) 0 0 ≡ get_or xs (a + i * w) 0
first_cell w i a xs h = cell_at w i 0 a xs h ∙ ap (λ (k : ℕ). get_or xs k 0) (add-zero (a + i * w))

module _ (xs : List ℕ) (c : Counted xs) (i : ℕ) where
  pub group-bucket : i < length (schema_of xs).groups → path_bucket_at xs (groups_at + i * 6) ≡ group_key (get_or (schema_of xs).groups i no_group)
  group-bucket h =
      let s : List ℕ = drop groups_at xs in
      let e : get_or (schema_of xs).groups i no_group ≡ cells_group (row_at 6 i s) =
      ap (λ (l : List Group). get_or l i no_group) (groups-read xs)
      ∙ get_d-rows_of 6 group_cells wide-group cells_group (get_or xs 1 0) i s no_group (omega (arith, c.groups))
      in
      rw (
        e,
        first_cell 6 i groups_at xs (omega arith),
        cell_at 6 i 1 groups_at xs (omega arith),
        cell_at 6 i 2 groups_at xs (omega arith),
        cell_at 6 i 3 groups_at xs (omega arith),
        cell_at 6 i 4 groups_at xs (omega arith),
      )

  row_from : i < length (schema_of xs).sub_elements → get_or (schema_of xs).sub_elements i no_sub_element ≡ cells_sub_element (row_at 9 i (drop rows_at xs))
  row_from h =
      ap (λ (l : List SubElement). get_or l i no_sub_element) (rows-read xs)
      ∙ get_d-rows_of 9 sub_element_cells wide_row cells_sub_element (get_or xs 2 0) i (drop rows_at xs) no_sub_element (omega (arith, c.rows))

  pub name-bucket : i < length (schema_of xs).sub_elements → name_bucket_at xs (rows_at + i * 9) ≡ name_key (get_or (schema_of xs).sub_elements i no_sub_element)
  name-bucket h = rw (row_from h, first_cell 9 i rows_at xs (omega arith), cell_at 9 i 5 rows_at xs (omega arith))

  pub path-bucket : i < length (schema_of xs).sub_elements → path_bucket_at xs (rows_at + i * 9) ≡ path_key (get_or (schema_of xs).sub_elements i no_sub_element)
  path-bucket h =
      rw (
        row_from h,
        first_cell 9 i rows_at xs (omega arith),
        cell_at 9 i 1 rows_at xs (omega arith),
        cell_at 9 i 2 rows_at xs (omega arith),
        cell_at 9 i 3 rows_at xs (omega arith),
        cell_at 9 i 4 rows_at xs (omega arith),
      )

-- ---- indexes that pass

module _ (xs : List ℕ) (e : length xs ≡ schema_size) (h : every (index_tests xs) ≡ true) where
  passed : (x : Index) → index_passes x xs ≡ true → take index_size (drop (index_at x) xs) ≡ index_of (schema_of xs) x
  unfolding index_passes
  passed Groups p = same_lists _ _ p
  passed Names p = same_lists _ _ p
  passed Paths p = same_lists _ _ p

  -- the index at a, and what stands behind it
  behind : (a : ℕ) {q r : List ℕ} → take index_size (drop a xs) ≡ q → drop (a + index_size) xs ≡ r → drop a xs ≡ q ++ r
  behind a f g = sym (take-append-drop index_size (drop a xs)) ∙ (λ i. f i ++ (drop-drop index_size a xs ∙ g) i)

  pub indexes : drop group_index_at xs ≡ index_area (schema_of xs)
  indexes =
      let test = every-at (index_tests xs) h in
      behind group_index_at (passed Groups (test 0))
      (behind name_index_at (passed Names (test 1))
      (behind path_index_at (passed Paths (test 2)) (drop_of_length-le xs {i = schema_size} (omega arith)) ∙ append-nil (index_of (schema_of xs) Paths)))

-- ---- an index built row by row

pub filled_none : (key : ℕ → ℕ) (xs : List ℕ) → xs ≡ empty_index → xs ≡ index_cells key 0
unfolding index_cells
filled_none key xs e = e

pub filled_more : (key : ℕ → ℕ) (n b : ℕ) (xs ys : List ℕ) → xs ≡ index_cells key n → b ≡ key n → ys ≡ linked_at 0 xs n b → ys ≡ index_cells key (n + 1)
unfolding index_cells
filled_more key n b xs ys e k y =
    y ∙ ap (λ (l : List ℕ). linked_at 0 l n b) e ∙ at_front (index_cells key n) ∙ rw k (ap (index_cells key) (sym (add-one n)))
  where
    at_front : (l : List ℕ) → linked_at 0 l n b ≡ linked l n b
    at_front l = rw (zero-add (buckets + n), zero-add b)
