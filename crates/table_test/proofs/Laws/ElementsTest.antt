-- The test of an elements table: a table that passes is the encoding of what it says. Assumes nothing.
use mathlib.Core.Bool.{true, not, ◌||◌}
use mathlib.Core.List.{List, [], ◌∷◌, ◌++◌, map}
use mathlib.Core.Path.{◌≡◌, refl, sym, ap, ◌∙◌}
use Prim.Native.Nat.{ℕ, zero, suc, ◌+◌, ◌/◌, ◌%◌, ◌≤◌, ◌<◌}
use native.Mathlib.Omega.{arith}
use borrow.Author.Tests.{eqb-true, leb-true, ltb-true, ne_eqb}
use lib.Dec.{eqb, leb}
use lib.ListN.{length, get_or, take, drop, length-map}
use lib.Seq.{drop-drop}
use Rattle.tables.specs.Cells.{Each, cells, rows_of, between}
use Rattle.tables.specs.Limits.{element_limit, item_limit, file_limit, depth_limit, name_limit, enum_limit, string_limit}
use Rattle.tables.specs.Records.{Text}
use Rattle.tables.specs.Texts.{text_from}
use Rattle.tables.specs.ElementsTable.{elements_size, elements_at, texts_at, trees_at, elements_area, texts_area, ElementRow, element_rows, element_cells, cells_element, text_cells, cells_text, tree_cells, cells_tree, encode_elements, elements_of, TextFits, SizedElements}
use Rattle.table_test.specs.AreaTest.{row_passes}
use Rattle.table_test.specs.ElementsTest.{elements_tests, is_elements_table, TextIn, TreeIn, TestedElements}
use Rattle.table_test.specs.declared.area_test.Area.TheVariants as area
use Rattle.tables.proofs.Laws.Cells.{length-rows_of}
use Rattle.tables.proofs.Laws.ElementsTable.{wide-element, wide-text, wide-tree, text-again, fits-from}
use Rattle.table_test.proofs.Laws.RowsTest.{every-at, cells-from, row_is}
use Rattle.table_test.proofs.Laws.AreaTest.{row-tested, area-parts, area-again, area-last, area-each}

-- ---- rows that pass

row-text : (size : ℕ) (r : List ℕ) → length r ≡ 2 → row_passes (area.Texts size) r ≡ true → text_cells (cells_text r) ≡ r
row-text size r e p =
    let a = leb-true (get_or r 0 0) 3 (row-tested (area.Texts size) r p 0) in
    text-again (get_or r 0 0) (get_or r 1 0) (omega arith) ∙ sym (row_is r 2 e)

-- by the tests of kinds 0 and 1
text_in_lem : (size k v : ℕ) → not (eqb k 0) || leb v enum_limit ≡ true → not (eqb k 1) || leb (v / string_limit + v % string_limit) size ≡ true → TextIn size (text_from k v)
unfolding text_from
text_in_lem size zero v h i = leb-true v enum_limit h
text_in_lem size (suc zero) v h i = leb-true (v / string_limit + v % string_limit) size i
text_in_lem size (suc (suc zero)) v h i = tt
text_in_lem size (suc (suc (suc k))) v h i =
    rw (ne_eqb (suc (suc (suc k))) 0 (λ e. omega arith), ne_eqb (suc (suc (suc k))) 1 (λ e. omega arith), ne_eqb (suc (suc (suc k))) 2 (λ e. omega arith)) tt

-- ---- the three lists of the elements' rows

abbrev name_of : ElementRow → ℕ
name_of r = r.name

abbrev type_of : ElementRow → ℕ
type_of r = r.type

abbrev depth_of : ElementRow → ℕ
depth_of r = r.depth

rows_join : (n : ℕ) (s : List ℕ)
    → element_rows (map name_of (rows_of 3 n cells_element s)) (map type_of (rows_of 3 n cells_element s)) (map depth_of (rows_of 3 n cells_element s)) ≡ rows_of 3 n cells_element s
unfolding element_rows rows_of
rows_join zero s = refl
rows_join (suc n) s = ap (λ (l : List ElementRow). cells_element (take 3 s) ∷ l) (rows_join n (drop 3 s))

each_map : {A B : Type 0} (P : B → Type 0) (f : A → B) (l : List A) → Each (λ (a : A). P (f a)) l → Each P (map f l)
each_map P f [] h = tt
each_map P f (a ∷ l) h = (h.0, each_map P f l h.1)

-- ---- a table that passes

-- what it says, each area from its place
elements-read : (xs : List ℕ) → elements_of xs
    ≡ (let rows = rows_of 3 (get_or xs 0 0) cells_element (drop elements_at xs) in
    record {
      names = map name_of rows;
      types = map type_of rows;
      depths = map depth_of rows;
      texts = rows_of 2 (get_or xs 1 0) cells_text (drop texts_at xs);
      trees = rows_of 2 (get_or xs 2 0) cells_tree (drop trees_at xs);
    })
unfolding elements_of
elements-read xs = rw (drop-drop elements_area elements_at xs, drop-drop texts_area texts_at xs)

module _ (types size : ℕ) (xs : List ℕ) (h : is_elements_table types size xs ≡ true) where
  tested : (i : ℕ) → get_or (elements_tests types size xs) i true ≡ true
  unfolding is_elements_table
  tested = every-at (elements_tests types size xs) h

  pub elements-length : length xs ≡ elements_size
  elements-length = eqb-true (length xs) elements_size (tested 0)

  pub few-elements : get_or xs 0 0 ≤ element_limit
  few-elements = (area-parts (area.Elements types) (get_or xs 0 0) (between elements_at texts_at xs) (tested 1)).0

  pub few-texts : get_or xs 1 0 ≤ item_limit
  few-texts = (area-parts (area.Texts size) (get_or xs 1 0) (between texts_at trees_at xs) (tested 2)).0

  few-trees : get_or xs 2 0 ≤ file_limit
  few-trees = (area-parts (area.Trees (get_or xs 0 0)) (get_or xs 2 0) (between trees_at elements_size xs) (tested 3)).0

  rows : List ElementRow
  rows = rows_of 3 (get_or xs 0 0) cells_element (drop elements_at xs)

  row_count_lem : length rows ≡ get_or xs 0 0
  unfolding rows
  row_count_lem = length-rows_of 3 element_cells wide-element cells_element (get_or xs 0 0) (drop elements_at xs)

  element-count : length (elements_of xs).names ≡ get_or xs 0 0
  unfolding rows
  element-count = rw (elements-read xs) (length-map rows name_of ∙ row_count_lem)

  text-count : length (elements_of xs).texts ≡ get_or xs 1 0
  text-count = rw (elements-read xs) (length-rows_of 2 text_cells wide-text cells_text (get_or xs 1 0) (drop texts_at xs))

  tree-count : length (elements_of xs).trees ≡ get_or xs 2 0
  tree-count = rw (elements-read xs) (length-rows_of 2 tree_cells wide-tree cells_tree (get_or xs 2 0) (drop trees_at xs))

  -- the areas, one behind the other
  areas : drop elements_at xs
      ≡ cells 3 element_limit element_cells rows
      ++ (cells 2 item_limit text_cells (rows_of 2 (get_or xs 1 0) cells_text (drop texts_at xs))
      ++ cells 2 file_limit tree_cells (rows_of 2 (get_or xs 2 0) cells_tree (drop trees_at xs)))
  unfolding rows
  areas =
      area-again (area.Elements types) elements_at (get_or xs 0 0) xs (omega (arith, elements-length)) (tested 1) cells_element element_cells wide-element (λ r e p. sym (row_is r 3 e))
      (area-again (area.Texts size) texts_at (get_or xs 1 0) xs (omega (arith, elements-length)) (tested 2) cells_text text_cells wide-text (row-text size)
      (area-last (area.Trees (get_or xs 0 0)) trees_at (get_or xs 2 0) xs (omega (arith, elements-length)) (tested 3) cells_tree tree_cells wide-tree (λ r e p. sym (row_is r 2 e)) elements-length))

  raw : xs ≡ encode_elements (elements_of xs)
  unfolding encode_elements rows
  raw =
      rw (element-count, text-count, tree-count, elements-read xs, rows_join (get_or xs 0 0) (drop elements_at xs), ← areas)
      (cells-from xs 0 3 (omega (arith, elements-length)))

  -- of each element's row
  elements-each : (P : ElementRow → Type 0) → ((r : List ℕ) → length r ≡ 3 → row_passes (area.Elements types) r ≡ true → P (cells_element r)) → Each P rows
  unfolding rows
  elements-each P f = area-each (area.Elements types) elements_at (get_or xs 0 0) xs (omega (arith, elements-length)) (tested 1) cells_element P f

  texts-each : (P : Text → Type 0) → ((r : List ℕ) → length r ≡ 2 → row_passes (area.Texts size) r ≡ true → P (cells_text r)) → Each P (elements_of xs).texts
  texts-each P f = rw (elements-read xs) (area-each (area.Texts size) texts_at (get_or xs 1 0) xs (omega (arith, elements-length)) (tested 2) cells_text P f)

  trees-each : Each (TreeIn (length (elements_of xs).names)) (elements_of xs).trees
  trees-each =
      let k = area.Trees (get_or xs 0 0) in
      rw (element-count, elements-read xs)
      (area-each k trees_at (get_or xs 2 0) xs (omega (arith, elements-length)) (tested 3) cells_tree (TreeIn (get_or xs 0 0))
      (λ r e p. (ltb-true (get_or r 0 0) file_limit (row-tested k r p 0), ltb-true (get_or r 1 0) (get_or xs 0 0) (row-tested k r p 1))))

  sized : SizedElements (elements_of xs)
  unfolding rows
  sized =
      record {
        same_types = rw (elements-read xs) (length-map rows type_of ∙ sym (length-map rows name_of));
        same_depths = rw (elements-read xs) (length-map rows depth_of ∙ sym (length-map rows name_of));
        count = rw element-count few-elements;
        text_count = rw text-count few-texts;
        tree_count = rw tree-count few-trees;
        strings = texts-each TextFits (λ r e p. fits-from (get_or r 0 0) (get_or r 1 0));
      }

  pub tested-elements : TestedElements types size xs
  unfolding rows
  tested-elements =
      let k = area.Elements types in
      record {
        good = record { size = elements-length; raw = raw; sized = sized };
        names = rw (elements-read xs) (each_map (λ (n : ℕ). n ≤ name_limit) name_of rows (elements-each (λ (r : ElementRow). r.name ≤ name_limit) (λ r e p. leb-true (get_or r 0 0) name_limit (row-tested k r p 0))));
        types_in = rw (elements-read xs) (each_map (λ (t : ℕ). t < types) type_of rows (elements-each (λ (r : ElementRow). r.type < types) (λ r e p. ltb-true (get_or r 1 0) types (row-tested k r p 1))));
        depths = rw (elements-read xs) (each_map (λ (d : ℕ). d ≤ depth_limit) depth_of rows (elements-each (λ (r : ElementRow). r.depth ≤ depth_limit) (λ r e p. leb-true (get_or r 2 0) depth_limit (row-tested k r p 2))));
        texts = texts-each (TextIn size) (λ r e p. text_in_lem size (get_or r 0 0) (get_or r 1 0) (row-tested (area.Texts size) r p 1) (row-tested (area.Texts size) r p 2));
        trees = trees-each;
      }
