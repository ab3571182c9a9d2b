-- The table of elements whose numbers are in their ranges passes. Assumes nothing.
use mathlib.Core.Bool.{true}
use mathlib.Core.List.{List, [], ◌∷◌, ◌++◌}
use mathlib.Core.Path.{◌≡◌, refl, sym}
use Prim.Native.Nat.{ℕ, ◌+◌, ◌*◌, ◌/◌, ◌%◌, ◌≤◌, ◌<◌}
use native.Mathlib.Omega.{arith}
use borrow.Author.Tests.{eq-eqb, le-leb, lt-ltb}
use lib.ListN.{length}
use Rattle.tables.specs.Cells.{Each}
use Rattle.tables.specs.Limits.{file_limit, depth_limit, name_limit, enum_limit, string_limit}
use Rattle.tables.specs.Records.{Text, enum_number, string, whole_number, float, Tree, Elements}
use Rattle.tables.specs.Texts.{text_kind, text_value}
use Rattle.tables.specs.ElementsTable.{elements_size, elements_at, texts_at, trees_at, ElementRow, element_rows, element_cells, text_cells, tree_cells, encode_elements, TextFits}
use Rattle.table_test.specs.AreaTest.{row_passes}
use Rattle.table_test.specs.ElementsTest.{is_elements_table, TextIn, TreeIn}
use Rattle.table_test.specs.declared.area_test.Area.TheVariants as area
use Rattle.table_test.specs.Passing.{ElementsIn}
use Rattle.tables.proofs.Laws.Cells.{each-imp, each_both}
use Rattle.tables.proofs.Laws.ElementsTable.{wide-element, wide-text, wide-tree, length-element_rows, elements-size, rows, rows_fit, text_area, tree_area, from-elements, from-texts, from-trees}
use Rattle.table_test.proofs.Laws.PassingRows.{area-passes}

-- ---- rows

element-passes : (types n t d : ℕ) → n ≤ name_limit → t < types → d ≤ depth_limit → row_passes (area.Elements types) (n ∷ t ∷ d ∷ []) ≡ true
unfolding row_passes
element-passes types n t d hn ht hd = rw (le-leb n name_limit hn, lt-ltb t types ht, le-leb d depth_limit hd)

rows_pass : (types : ℕ) (ns ts ds : List ℕ) → length ts ≡ length ns → length ds ≡ length ns
    → Each (λ (n : ℕ). n ≤ name_limit) ns → Each (λ (t : ℕ). t < types) ts → Each (λ (d : ℕ). d ≤ depth_limit) ds
    → Each (λ (r : ElementRow). row_passes (area.Elements types) (element_cells r) ≡ true) (element_rows ns ts ds)
unfolding element_rows
rows_pass types [] ts ds e f hn ht hd = tt
rows_pass types (n ∷ ns) [] ds e f hn ht hd = absurd (omega arith)
rows_pass types (n ∷ ns) (t ∷ ts) [] e f hn ht hd = absurd (omega arith)
rows_pass types (n ∷ ns) (t ∷ ts) (d ∷ ds) e f hn ht hd =
    (element-passes types n t d hn.0 ht.0 hd.0, rows_pass types ns ts ds (omega arith) (omega arith) hn.1 ht.1 hd.1)

text-passes : (size : ℕ) (t : Text) → TextFits t × TextIn size t → row_passes (area.Texts size) (text_cells t) ≡ true
unfolding row_passes text_kind text_value
text-passes size (enum_number v) h = rw (le-leb v enum_limit h.1)
text-passes size (string p) h =
    let v = p.start * string_limit + p.size in
    let fits : p.size < string_limit = h.0 in
    let e : v / string_limit ≡ p.start = omega arith in
    let f : v % string_limit ≡ p.size = omega arith in
    rw (le-leb (v / string_limit + v % string_limit) size (rw (e, f) h.1))
text-passes size (whole_number v) h = refl
text-passes size (float v) h = refl

tree-passes : (n : ℕ) (t : Tree) → TreeIn n t → row_passes (area.Trees n) (tree_cells t) ≡ true
unfolding row_passes
tree-passes n t h = rw (lt-ltb t.file file_limit h.0, lt-ltb t.root n h.1)

-- ---- the table

pub elements-passes : (types size : ℕ) (es : Elements) → ElementsIn types size es → is_elements_table types size (encode_elements es) ≡ true
unfolding is_elements_table encode_elements
elements-passes types size es h =
    let s = h.sized in
    let n = length es.names in
    let xs : List ℕ = encode_elements es in
    let texts = each_both TextFits (TextIn size) es.texts s.strings h.texts in
    rw (
      eq-eqb (length xs) elements_size (elements-size es s),
      area-passes (area.Elements types) element_cells wide-element (rows es) (rows_fit es s) xs (text_area es ++ tree_area es) elements_at (from-elements es s)
          n (sym (length-element_rows es.names es.types es.depths))
          (rows_pass types es.names es.types es.depths s.same_types s.same_depths h.names h.types_in h.depths),
      area-passes (area.Texts size) text_cells wide-text es.texts s.text_count xs (tree_area es) texts_at (from-texts es s) (length es.texts) refl
          (each-imp (λ (t : Text). TextFits t × TextIn size t) (λ (t : Text). row_passes (area.Texts size) (text_cells t) ≡ true) es.texts (text-passes size) texts),
      area-passes (area.Trees n) tree_cells wide-tree es.trees s.tree_count xs [] trees_at (from-trees es s) (length es.trees) refl
          (each-imp (TreeIn n) (λ (t : Tree). row_passes (area.Trees n) (tree_cells t) ≡ true) es.trees (tree-passes n) h.trees),
    )
