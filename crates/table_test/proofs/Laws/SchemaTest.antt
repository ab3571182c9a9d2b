-- The test of a schema table: the loop over its files, and a table that passes is the encoding of what it says. Assumes nothing.
use mathlib.Core.Bool.{true, false, ◌&&◌, and-eq-true_iff}
use mathlib.Core.List.{List, [], ◌∷◌, ◌++◌}
use mathlib.Core.Path.{◌≡◌, refl, sym, ap, ◌∙◌, subst}
use Prim.Native.Nat.{ℕ, zero, suc, ◌+◌, ◌-◌, ◌*◌, ◌≤◌, ◌<◌}
use native.Mathlib.Nat.{add-zero}
use native.Mathlib.Numerals.{add-one}
use native.Mathlib.Omega.{arith}
use borrow.Author.Tests.{eqb-true, leb-true, ltb-true, le-ltb, lt-ltb}
use lib.Dec.{ltb}
use lib.ListN.{length, get_or, take, drop, length-drop}
use lib.Seq.{drop-cons, get_or-take, get_or-drop}
use Rattle.tables.specs.Cells.{Each, cells, rows_of, between}
use Rattle.tables.specs.Limits.{type_limit, group_limit, row_limit, file_limit, version_limit, path_limit, name_limit, mask_limit}
use Rattle.tables.specs.Lists.{all_of}
use Rattle.tables.specs.Paths.{front, path_cells}
use Rattle.tables.specs.Records.{Group, SubElement}
use Rattle.tables.specs.SchemaTable.{schema_size, types_at, groups_at, rows_at, files_at, group_index_at, bool_number, bool_from, mult_from, type_cells, cells_type, group_cells, cells_group, sub_element_cells, cells_sub_element, file_cells, cells_file, encode_schema, schema_of, GroupFits, RowFits, SizedSchema}
use Rattle.tables.proofs.Laws.Scans.{all_head, all_tail}
use Rattle.table_test.specs.RowTests.{path_tests, path_passes}
use Rattle.table_test.specs.AreaTest.{row_passes, rows_in}
use Rattle.table_test.specs.SchemaTest.{files_ascend, schema_tests, is_schema_table, TypeIn, GroupIn, RowIn, FilesIn, TestedSchema}
use Rattle.table_test.specs.declared.area_test.Area.TheVariants.{Types, Groups, SubElements, Files}
use Rattle.tables.proofs.Laws.Cells.{length-rows_of}
use Rattle.tables.proofs.Laws.SchemaTable.{length_front, with-indexes, schema-cells, wide_type, wide-group, wide_row, wide-file, group-cells, row-cells, type-cells, mult-again}
use Rattle.table_test.proofs.Laws.RowsTest.{every-at, cells-from, row_is}
use Rattle.table_test.proofs.Laws.AreaTest.{row-at, row_count_lem, row-tested, rows-between, area-parts, area-again, area-each}
use Rattle.table_test.proofs.Laws.IndexTest.{schema-read, indexes}

-- ---- the loop over the files

module _ (n : ℕ) (s : List ℕ) where
  file-at : (i : ℕ) → i < n → get_or (get_or (rows_in 2 n s) i []) 0 0 ≡ get_or s (i * 2) 0
  file-at i h =
      ap (λ (q : List ℕ). get_or q 0 0) (row-at 2 n i s h)
      ∙ get_or-take 2 (drop (i * 2) s) 0 0 (omega arith)
      ∙ get_or-drop (i * 2) s 0 0
      ∙ ap (λ (k : ℕ). get_or s k 0) (add-zero (i * 2))

  -- the file before that at i, and the files behind it
  ascend-front : (i : ℕ) → 0 < i → i < n
      → files_ascend (drop (i - 1) (rows_in 2 n s)) ≡ ltb (get_or s ((i - 1) * 2) 0) (get_or s (i * 2) 0) && files_ascend (drop i (rows_in 2 n s))
  unfolding files_ascend
  ascend-front i some h =
      let rows : List (List ℕ) = rows_in 2 n s in
      let c = row_count_lem 2 n s in
      let z : suc (i - 1) ≡ i = omega arith in
      let a : drop (i - 1) rows ≡ get_or rows (i - 1) [] ∷ drop i rows =
      drop-cons rows (i - 1) [] (omega arith) ∙ ap (λ (k : ℕ). get_or rows (i - 1) [] ∷ drop k rows) z
      in
      let b : drop i rows ≡ get_or rows i [] ∷ drop (suc i) rows = drop-cons rows i [] (omega arith) in
      rw (a, b, file-at (i - 1) (omega arith), file-at i h)

  pub ascend-stop : (i : ℕ) → 0 < i → i < n → get_or s (i * 2) 0 ≤ get_or s ((i - 1) * 2) 0
      → files_ascend (drop (i - 1) (rows_in 2 n s)) ≡ files_ascend (rows_in 2 n s) → false ≡ files_ascend (rows_in 2 n s)
  ascend-stop i some h e inv = (rw (ascend-front i some h, le-ltb (get_or s ((i - 1) * 2) 0) (get_or s (i * 2) 0) e) at inv)

  pub ascend-more : (i : ℕ) → 0 < i → i < n → get_or s ((i - 1) * 2) 0 < get_or s (i * 2) 0
      → files_ascend (drop (i - 1) (rows_in 2 n s)) ≡ files_ascend (rows_in 2 n s) → files_ascend (drop i (rows_in 2 n s)) ≡ files_ascend (rows_in 2 n s)
  ascend-more i some h e inv = (rw (ascend-front i some h, lt-ltb (get_or s ((i - 1) * 2) 0) (get_or s (i * 2) 0) e) at inv)

  pub ascend-end : (i : ℕ) → n ≤ i → files_ascend (drop (i - 1) (rows_in 2 n s)) ≡ files_ascend (rows_in 2 n s) → true ≡ files_ascend (rows_in 2 n s)
  unfolding files_ascend
  ascend-end i h inv = sym (few-ascend (drop (i - 1) (rows_in 2 n s)) (rw (length-drop (i - 1) (rows_in 2 n s), row_count_lem 2 n s) (omega arith))) ∙ inv
    where
      few-ascend : (l : List (List ℕ)) → length l ≤ 1 → files_ascend l ≡ true
      few-ascend [] k = refl
      few-ascend (r ∷ []) k = refl
      few-ascend (r ∷ q ∷ l) k = absurd (omega arith)

-- ---- paths that pass

path-again : (a b c d : ℕ) → path_passes a b c d ≡ true → a ∷ b ∷ c ∷ d ∷ [] ≡ path_cells path_limit (front (a ∷ b ∷ c ∷ d ∷ []))
unfolding path_passes front path_cells
path-again zero b c d h = let e = ltb-true 0 0 (every-at (path_tests zero b c d) h 0) in absurd (omega arith)
path-again (suc a) zero zero zero h = refl
path-again (suc a) zero zero (suc d) h = let e : suc d ≡ 0 = eqb-true (suc d) 0 (every-at (path_tests (suc a) zero zero (suc d)) h 6) in absurd (omega arith)
path-again (suc a) zero (suc c) d h = let e : suc c ≡ 0 = eqb-true (suc c) 0 (every-at (path_tests (suc a) zero (suc c) d) h 5) in absurd (omega arith)
path-again (suc a) (suc b) zero zero h = refl
path-again (suc a) (suc b) zero (suc d) h = let e : suc d ≡ 0 = eqb-true (suc d) 0 (every-at (path_tests (suc a) (suc b) zero (suc d)) h 6) in absurd (omega arith)
path-again (suc a) (suc b) (suc c) zero h = refl
path-again (suc a) (suc b) (suc c) (suc d) h = refl

path-some : (a b c d : ℕ) → path_passes a b c d ≡ true → 0 < length (front (a ∷ b ∷ c ∷ d ∷ []))
unfolding path_passes front
path-some zero b c d h = let e = ltb-true 0 0 (every-at (path_tests zero b c d) h 0) in absurd (omega arith)
path-some (suc a) b c d h = omega arith

front-short : (l : List ℕ) → length (front (l ++ (0 ∷ []))) ≤ length l
unfolding front
front-short [] = omega arith
front-short (zero ∷ l) = omega arith
front-short (suc a ∷ l) = omega (arith, front-short l)

-- ---- rows that pass

bool-again : (c : ℕ) → c ≤ 1 → c ≡ bool_number (bool_from c)
unfolding bool_number
bool-again zero h = refl
bool-again (suc zero) h = refl
bool-again (suc (suc c)) h = absurd (omega arith)

type-again : (r : List ℕ) → length r ≡ 3 → row_passes Types r ≡ true → type_cells (cells_type r) ≡ r
type-again r e p =
    let m = leb-true (get_or r 0 0) 4 (row-tested Types r p 0) in
    let b = leb-true (get_or r 1 0) 1 (row-tested Types r p 1) in
    type-cells (get_or r 0 0) (get_or r 1 0) (get_or r 2 0) (bool_from (get_or r 1 0)) (omega arith) (bool-again (get_or r 1 0) b) ∙ sym (row_is r 3 e)

group-again : (r : List ℕ) → length r ≡ 6 → row_passes Groups r ≡ true → group_cells (cells_group r) ≡ r
group-again r e p =
    let m = leb-true (get_or r 5 0) 3 (row-tested Groups r p 3) in
    group-cells (get_or r 0 0) (get_or r 1 0) (get_or r 2 0) (get_or r 3 0) (get_or r 4 0) (front (get_or r 1 0 ∷ get_or r 2 0 ∷ get_or r 3 0 ∷ get_or r 4 0 ∷ []))
    (path-again (get_or r 1 0) (get_or r 2 0) (get_or r 3 0) (get_or r 4 0) (row-tested Groups r p 1)) (get_or r 5 0) (omega arith)
    ∙ sym (row_is r 6 e)

row-again : (r : List ℕ) → length r ≡ 9 → row_passes SubElements r ≡ true → sub_element_cells (cells_sub_element r) ≡ r
row-again r e p =
    let m = leb-true (get_or r 7 0) 2 (row-tested SubElements r p 4) in
    row-cells (get_or r 0 0) (get_or r 1 0) (get_or r 2 0) (get_or r 3 0) (get_or r 4 0) (front (get_or r 1 0 ∷ get_or r 2 0 ∷ get_or r 3 0 ∷ get_or r 4 0 ∷ []))
    (path-again (get_or r 1 0) (get_or r 2 0) (get_or r 3 0) (get_or r 4 0) (row-tested SubElements r p 1)) (get_or r 5 0) (get_or r 6 0) (mult_from (get_or r 7 0)) (get_or r 8 0) (sym (mult-again (get_or r 7 0) (omega arith)))
    ∙ sym (row_is r 9 e)

group-in : (r : List ℕ) → length r ≡ 6 → row_passes Groups r ≡ true → GroupIn (cells_group r)
group-in r e p =
    let z : get_or r 4 0 ≡ 0 = eqb-true (get_or r 4 0) 0 (row-tested Groups r p 2) in
    let s : length (front (get_or r 1 0 ∷ get_or r 2 0 ∷ get_or r 3 0 ∷ get_or r 4 0 ∷ [])) ≤ 3 =
    subst (λ (d : ℕ). length (front (get_or r 1 0 ∷ get_or r 2 0 ∷ get_or r 3 0 ∷ d ∷ [])) ≤ 3) (sym z) (front-short (get_or r 1 0 ∷ get_or r 2 0 ∷ get_or r 3 0 ∷ []))
    in
    (ltb-true (get_or r 0 0) type_limit (row-tested Groups r p 0), path-some (get_or r 1 0) (get_or r 2 0) (get_or r 3 0) (get_or r 4 0) (row-tested Groups r p 1), s)

row_in : (r : List ℕ) → length r ≡ 9 → row_passes SubElements r ≡ true → RowIn (cells_sub_element r)
row_in r e p = (
  ltb-true (get_or r 0 0) type_limit (row-tested SubElements r p 0),
  path-some (get_or r 1 0) (get_or r 2 0) (get_or r 3 0) (get_or r 4 0) (row-tested SubElements r p 1),
  leb-true (get_or r 5 0) name_limit (row-tested SubElements r p 2),
  ltb-true (get_or r 6 0) type_limit (row-tested SubElements r p 3),
  ltb-true 0 (get_or r 8 0) (row-tested SubElements r p 5),
  ltb-true (get_or r 8 0) mask_limit (row-tested SubElements r p 6),
)

-- files that pass and ascend, the first not less than low
files-in : (n low : ℕ) (s : List ℕ) → all_of (row_passes Files) (rows_in 2 n s) ≡ true → files_ascend (rows_in 2 n s) ≡ true → low ≤ get_or (take 2 s) 0 0
    → FilesIn low (rows_of 2 n cells_file s)
unfolding files_ascend rows_of
files-in zero low s p a h = tt
files-in (suc zero) low s p a h =
    let t = row-tested Files (take 2 s) (all_head (row_passes Files) (take 2 s) [] p) in
    (h, ltb-true (get_or (take 2 s) 0 0) file_limit (t 0), ltb-true (get_or (take 2 s) 1 0) version_limit (t 1), tt)
files-in (suc (suc n)) low s p a h =
    let r = take 2 s in
    let q = take 2 (drop 2 s) in
    let rows = rows_in 2 (suc n) (drop 2 s) in
    let t = row-tested Files r (all_head (row_passes Files) r rows p) in
    let b = (and-eq-true_iff (ltb (get_or r 0 0) (get_or q 0 0)) (files_ascend rows)).0 a in
    let less : get_or r 0 0 + 1 ≤ get_or q 0 0 = rw add-one (ltb-true (get_or r 0 0) (get_or q 0 0) b.0) in (
      h,
      ltb-true (get_or r 0 0) file_limit (t 0),
      ltb-true (get_or r 1 0) version_limit (t 1),
      files-in (suc n) (get_or r 0 0 + 1) (drop 2 s) (all_tail (row_passes Files) r rows p) b.1 less,
    )

-- ---- a table that passes

module _ (xs : List ℕ) (h : is_schema_table xs ≡ true) where
  tested : (i : ℕ) → get_or (schema_tests xs) i true ≡ true
  unfolding is_schema_table
  tested = every-at (schema_tests xs) h

  pub schema-length : length xs ≡ schema_size
  schema-length = eqb-true (length xs) schema_size (tested 0)

  groups-each : (P : Group → Type 0) → ((r : List ℕ) → length r ≡ 6 → row_passes Groups r ≡ true → P (cells_group r)) → Each P (schema_of xs).groups
  groups-each P f = rw (schema-read xs) (area-each Groups groups_at (get_or xs 1 0) xs (omega (arith, schema-length)) (tested 2) cells_group P f)

  rows-each : (P : SubElement → Type 0) → ((r : List ℕ) → length r ≡ 9 → row_passes SubElements r ≡ true → P (cells_sub_element r)) → Each P (schema_of xs).sub_elements
  rows-each P f = rw (schema-read xs) (area-each SubElements rows_at (get_or xs 2 0) xs (omega (arith, schema-length)) (tested 3) cells_sub_element P f)

  types-each : Each TypeIn (schema_of xs).types
  types-each =
      rw (schema-read xs)
      (area-each Types types_at (get_or xs 0 0) xs (omega (arith, schema-length)) (tested 4) cells_type TypeIn (λ r e p. ltb-true (get_or r 2 0) mask_limit (row-tested Types r p 2)))

  files-each : FilesIn 0 (schema_of xs).files
  files-each =
      let n = get_or xs 3 0 in
      let area : List ℕ = between files_at group_index_at xs in
      let e : rows_of 2 n cells_file area ≡ rows_of 2 n cells_file (drop files_at xs) = rows-between Files files_at n xs (omega (arith, schema-length)) (tested 1) cells_file in
      rw (schema-read xs, ← e) (files-in n 0 area (area-parts Files n area (tested 1)).1 (tested 5) (omega arith))

  -- the areas, one behind the other, and the indexes
  areas : drop types_at xs
      ≡ cells 3 type_limit type_cells (rows_of 3 (get_or xs 0 0) cells_type (drop types_at xs))
      ++ (cells 6 group_limit group_cells (rows_of 6 (get_or xs 1 0) cells_group (drop groups_at xs))
      ++ (cells 9 row_limit sub_element_cells (rows_of 9 (get_or xs 2 0) cells_sub_element (drop rows_at xs))
      ++ (cells 2 file_limit file_cells (rows_of 2 (get_or xs 3 0) cells_file (drop files_at xs)) ++ drop group_index_at xs)))
  areas =
      area-again Types types_at (get_or xs 0 0) xs (omega (arith, schema-length)) (tested 4) cells_type type_cells wide_type type-again
      (area-again Groups groups_at (get_or xs 1 0) xs (omega (arith, schema-length)) (tested 2) cells_group group_cells wide-group group-again
      (area-again SubElements rows_at (get_or xs 2 0) xs (omega (arith, schema-length)) (tested 3) cells_sub_element sub_element_cells wide_row row-again
      (area-again Files files_at (get_or xs 3 0) xs (omega (arith, schema-length)) (tested 1) cells_file file_cells wide-file (λ r e p. sym (row_is r 2 e)) refl)))

  rows-raw : xs ≡ with-indexes (schema_of xs) (drop group_index_at xs)
  rows-raw =
      let a = length-rows_of 3 type_cells wide_type cells_type (get_or xs 0 0) (drop types_at xs) in
      let b = length-rows_of 6 group_cells wide-group cells_group (get_or xs 1 0) (drop groups_at xs) in
      let c = length-rows_of 9 sub_element_cells wide_row cells_sub_element (get_or xs 2 0) (drop rows_at xs) in
      let d = length-rows_of 2 file_cells wide-file cells_file (get_or xs 3 0) (drop files_at xs) in
      rw (schema-read xs, a, b, c, d, ← areas) (cells-from xs 0 4 (omega (arith, schema-length)))

  raw : xs ≡ encode_schema (schema_of xs)
  raw = rows-raw ∙ ap (with-indexes (schema_of xs)) (indexes xs schema-length (tested 6)) ∙ sym (schema-cells (schema_of xs))

  sized : SizedSchema (schema_of xs)
  sized =
      let few-types = (area-parts Types (get_or xs 0 0) (between types_at groups_at xs) (tested 4)).0 in
      let few-groups = (area-parts Groups (get_or xs 1 0) (between groups_at rows_at xs) (tested 2)).0 in
      let few-rows = (area-parts SubElements (get_or xs 2 0) (between rows_at files_at xs) (tested 3)).0 in
      let few-files = (area-parts Files (get_or xs 3 0) (between files_at group_index_at xs) (tested 1)).0 in
      record {
        type_count = rw (schema-read xs, length-rows_of 3 type_cells wide_type cells_type (get_or xs 0 0) (drop types_at xs)) few-types;
        group_count = rw (schema-read xs, length-rows_of 6 group_cells wide-group cells_group (get_or xs 1 0) (drop groups_at xs)) few-groups;
        row_count = rw (schema-read xs, length-rows_of 9 sub_element_cells wide_row cells_sub_element (get_or xs 2 0) (drop rows_at xs)) few-rows;
        file_count = rw (schema-read xs, length-rows_of 2 file_cells wide-file cells_file (get_or xs 3 0) (drop files_at xs)) few-files;
        group_paths = groups-each GroupFits (λ r e p. length_front (get_or r 1 0 ∷ get_or r 2 0 ∷ get_or r 3 0 ∷ get_or r 4 0 ∷ []));
        row_paths = rows-each RowFits (λ r e p. length_front (get_or r 1 0 ∷ get_or r 2 0 ∷ get_or r 3 0 ∷ get_or r 4 0 ∷ []));
      }

pub tested-schema : (xs : List ℕ) → is_schema_table xs ≡ true → TestedSchema xs
tested-schema xs h =
    record {
      good = record { size = schema-length xs h; raw = raw xs h; sized = sized xs h };
      types = types-each xs h;
      groups = groups-each xs h GroupIn group-in;
      rows = rows-each xs h RowIn row_in;
      files = files-each xs h;
    }
