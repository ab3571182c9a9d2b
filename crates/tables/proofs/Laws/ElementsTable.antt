-- Laws of the elements' table: reading it back, its counts and rows, an element, a text, a tree added. Assumes nothing.
use mathlib.Core.Path.{◌≡◌, refl, sym, ap, ◌∙◌}
use mathlib.Core.List.{List, [], ◌∷◌, ◌++◌, map, append_assoc, append-nil}
use Prim.Native.Nat.{ℕ, zero, suc, ◌+◌, ◌*◌, ◌/◌, ◌%◌, ◌≤◌, ◌<◌}
use native.Mathlib.Nat.{div-add-mod', mod-lt}
use native.Mathlib.Omega.{arith}
use lib.ListN.{length, get_or, set, drop, length-append, get_or-map}
use lib.Seq.{drop_at}
use borrow.Author.Tests.{ne_eqb}
use Rattle.tables.specs.Cells.{cells, rows_of, puts}
use Rattle.tables.specs.Limits.{element_limit, item_limit, file_limit, string_limit}
use Rattle.tables.specs.Records.{Text, enum_number, string, whole_number, float, Tree, Elements, add_element, add_text, add_tree}
use Rattle.tables.specs.Texts.{text_kind, text_value, text_from}
use Rattle.tables.specs.ElementsTable.{elements_size, elements_at, texts_at, trees_at, elements_area, texts_area, trees_area, element_width, text_width, tree_width, ElementRow, element_rows, element_cells, cells_element, text_cells, cells_text, tree_cells, cells_tree, no_tree, encode_elements, elements_of, TextFits, SizedElements, GoodElements, HoldsElements}
use Rattle.tables.proofs.Laws.Cells.{length-cells, cells-back, last-back, each_all, each-imp, each_append, read-row, read-last, appended, appended-last}

-- ---- rows

abbrev pub wide-element : (r : ElementRow) → length (element_cells r) ≡ element_width
wide-element r = refl

abbrev pub wide-text : (t : Text) → length (text_cells t) ≡ text_width
wide-text t = refl

abbrev pub wide-tree : (t : Tree) → length (tree_cells t) ≡ tree_width
wide-tree t = refl

-- a text that fits is what its kind and value say
pub text-back : (t : Text) → TextFits t → text_from (text_kind t) (text_value t) ≡ t
unfolding text_from text_kind text_value
text-back (enum_number n) h = refl
text-back (string p) h =
    let e : (p.start * string_limit + p.size) / string_limit ≡ p.start = omega arith in
    let f : (p.start * string_limit + p.size) % string_limit ≡ p.size = omega arith in
    λ i. string (record { start = e i; size = f i })
text-back (whole_number n) h = refl
text-back (float b) h = refl

-- a kind and a value are those of the text that they say
pub text-again : (k v : ℕ) → k < 4 → text_cells (text_from k v) ≡ k ∷ v ∷ []
unfolding text_from text_kind text_value
text-again zero v h = refl
text-again (suc zero) v h = ap (λ (x : ℕ). 1 ∷ x ∷ []) (div-add-mod' v string_limit)
text-again (suc (suc zero)) v h = refl
text-again (suc (suc (suc zero))) v h = refl
text-again (suc (suc (suc (suc k)))) v h = absurd (omega arith)

pub fits-from : (k v : ℕ) → TextFits (text_from k v)
unfolding text_from
fits-from zero v = tt
fits-from (suc zero) v = mod-lt v (omega arith)
fits-from (suc (suc zero)) v = tt
fits-from (suc (suc (suc k))) v =
    rw (ne_eqb (suc (suc (suc k))) 0 (λ e. omega arith), ne_eqb (suc (suc (suc k))) 1 (λ e. omega arith), ne_eqb (suc (suc (suc k))) 2 (λ e. omega arith)) tt

-- ---- the rows of three lists

abbrev no_row : ElementRow
no_row = record { name = 0; type = 0; depth = 0 }

pub length-element_rows : (ns ts ds : List ℕ) → length (element_rows ns ts ds) ≡ length ns
unfolding element_rows
length-element_rows [] ts ds = refl
length-element_rows (n ∷ ns) ts ds = ap suc (length-element_rows ns (drop 1 ts) (drop 1 ds))

pub row-names : (ns ts ds : List ℕ) → map (λ (r : ElementRow). r.name) (element_rows ns ts ds) ≡ ns
unfolding element_rows
row-names [] ts ds = refl
row-names (n ∷ ns) ts ds = ap (λ (l : List ℕ). n ∷ l) (row-names ns (drop 1 ts) (drop 1 ds))

pub row-types : (ns ts ds : List ℕ) → length ts ≡ length ns → map (λ (r : ElementRow). r.type) (element_rows ns ts ds) ≡ ts
unfolding element_rows
row-types [] [] ds e = refl
row-types [] (t ∷ ts) ds e = absurd (omega arith)
row-types (n ∷ ns) [] ds e = absurd (omega arith)
row-types (n ∷ ns) (t ∷ ts) ds e = ap (λ (l : List ℕ). t ∷ l) (row-types ns ts (drop 1 ds) (omega arith))

pub row-depths : (ns ts ds : List ℕ) → length ds ≡ length ns → map (λ (r : ElementRow). r.depth) (element_rows ns ts ds) ≡ ds
unfolding element_rows
row-depths [] ts [] e = refl
row-depths [] ts (d ∷ ds) e = absurd (omega arith)
row-depths (n ∷ ns) ts [] e = absurd (omega arith)
row-depths (n ∷ ns) ts (d ∷ ds) e = ap (λ (l : List ℕ). d ∷ l) (row-depths ns (drop 1 ts) ds (omega arith))

pub rows_more : (ns ts ds : List ℕ) (n t d : ℕ) → length ts ≡ length ns → length ds ≡ length ns
    → element_rows (ns ++ (n ∷ [])) (ts ++ (t ∷ [])) (ds ++ (d ∷ [])) ≡ element_rows ns ts ds ++ (record { name = n; type = t; depth = d } ∷ [])
unfolding element_rows
rows_more [] [] [] n t d e f = refl
rows_more [] [] (y ∷ ds) n t d e f = absurd (omega arith)
rows_more [] (x ∷ ts) ds n t d e f = absurd (omega arith)
rows_more (m ∷ ns) [] ds n t d e f = absurd (omega arith)
rows_more (m ∷ ns) (x ∷ ts) [] n t d e f = absurd (omega arith)
rows_more (m ∷ ns) (x ∷ ts) (y ∷ ds) n t d e f =
    ap (λ (l : List ElementRow). record { name = m; type = x; depth = y } ∷ l) (rows_more ns ts ds n t d (omega arith) (omega arith))

-- the cells of row i
pub row-cells : (ns ts ds : List ℕ) (i : ℕ) → length ts ≡ length ns → length ds ≡ length ns
    → element_cells (get_or (element_rows ns ts ds) i no_row) ≡ get_or ns i 0 ∷ get_or ts i 0 ∷ get_or ds i 0 ∷ []
row-cells ns ts ds i e f =
    let rows : List ElementRow = element_rows ns ts ds in
    let p : (get_or rows i no_row).name ≡ get_or ns i 0 =
    sym (get_or-map (λ (r : ElementRow). r.name) rows i no_row) ∙ ap (λ (l : List ℕ). get_or l i 0) (row-names ns ts ds)
    in
    let q : (get_or rows i no_row).type ≡ get_or ts i 0 =
    sym (get_or-map (λ (r : ElementRow). r.type) rows i no_row) ∙ ap (λ (l : List ℕ). get_or l i 0) (row-types ns ts ds e)
    in
    let r : (get_or rows i no_row).depth ≡ get_or ds i 0 =
    sym (get_or-map (λ (r : ElementRow). r.depth) rows i no_row) ∙ ap (λ (l : List ℕ). get_or l i 0) (row-depths ns ts ds f)
    in
    λ k. p k ∷ q k ∷ r k ∷ []

-- ---- the areas

abbrev counts : Elements → List ℕ
counts es = length es.names ∷ length es.texts ∷ length es.trees ∷ []

abbrev pub rows : Elements → List ElementRow
rows es = element_rows es.names es.types es.depths

abbrev pub element_area : Elements → List ℕ
element_area es = cells element_width element_limit element_cells (rows es)

abbrev pub text_area : Elements → List ℕ
text_area es = cells text_width item_limit text_cells es.texts

abbrev pub tree_area : Elements → List ℕ
tree_area es = cells tree_width file_limit tree_cells es.trees

-- the table, cut before each area
cut-elements : (es : Elements) → encode_elements es ≡ counts es ++ (element_area es ++ (text_area es ++ tree_area es))
unfolding encode_elements
cut-elements es = refl

cut-texts : (es : Elements) → encode_elements es ≡ (counts es ++ element_area es) ++ (text_area es ++ tree_area es)
unfolding encode_elements
cut-texts es = refl

cut-trees : (es : Elements) → encode_elements es ≡ ((counts es ++ element_area es) ++ text_area es) ++ tree_area es
cut-trees es = cut-texts es ∙ sym (append_assoc (counts es ++ element_area es) (text_area es) (tree_area es))

module _ (es : Elements) (s : SizedElements es) where
  pub rows_fit : length (rows es) ≤ element_limit
  rows_fit = rw (length-element_rows es.names es.types es.depths) s.count

  length-element_area : length (element_area es) ≡ elements_area
  length-element_area = length-cells element_width element_cells wide-element element_limit (rows es) rows_fit

  length-text_area : length (text_area es) ≡ texts_area
  length-text_area = length-cells text_width text_cells wide-text item_limit es.texts s.text_count

  length-tree_area : length (tree_area es) ≡ trees_area
  length-tree_area = length-cells tree_width tree_cells wide-tree file_limit es.trees s.tree_count

  before-texts : length (counts es ++ element_area es) ≡ texts_at
  before-texts = ap (λ (n : ℕ). suc (suc (suc n))) length-element_area

  before-trees : length ((counts es ++ element_area es) ++ text_area es) ≡ trees_at
  before-trees = rw (length-append (counts es ++ element_area es) (text_area es), before-texts, length-text_area)

  -- the table from each area on
  pub from-elements : drop elements_at (encode_elements es) ≡ element_area es ++ (text_area es ++ tree_area es)
  unfolding encode_elements
  from-elements = refl

  pub from-texts : drop texts_at (encode_elements es) ≡ text_area es ++ tree_area es
  from-texts = ap (drop texts_at) (cut-texts es) ∙ drop_at (counts es ++ element_area es) (text_area es ++ tree_area es) texts_at before-texts

  pub from-trees : drop trees_at (encode_elements es) ≡ tree_area es ++ []
  from-trees =
      ap (drop trees_at) (cut-trees es) ∙ drop_at ((counts es ++ element_area es) ++ text_area es) (tree_area es) trees_at before-trees
      ∙ sym (append-nil (tree_area es))

  -- ---- the table

  pub elements-size : length (encode_elements es) ≡ elements_size
  elements-size = rw (cut-trees es, length-append ((counts es ++ element_area es) ++ text_area es) (tree_area es), before-trees, length-tree_area)

  pub elements-back : elements_of (encode_elements es) ≡ es
  unfolding encode_elements elements_of
  elements-back =
      let a : rows_of element_width (length es.names) cells_element (element_area es ++ (text_area es ++ tree_area es)) ≡ rows es =
      rw (← length-element_rows es.names es.types es.depths)
      (cells-back element_width element_cells wide-element cells_element element_limit (rows es) (text_area es ++ tree_area es)
      (each_all (λ (r : ElementRow). cells_element (element_cells r) ≡ r) (rows es) (λ r. refl)))
      in
      let b : rows_of text_width (length es.texts) cells_text (drop elements_area (element_area es ++ (text_area es ++ tree_area es))) ≡ es.texts =
      rw (drop_at (element_area es) (text_area es ++ tree_area es) elements_area length-element_area)
      (cells-back text_width text_cells wide-text cells_text item_limit es.texts (tree_area es)
      (each-imp TextFits (λ (t : Text). cells_text (text_cells t) ≡ t) es.texts text-back s.strings))
      in
      let c : rows_of tree_width (length es.trees) cells_tree (drop texts_area (drop elements_area (element_area es ++ (text_area es ++ tree_area es)))) ≡ es.trees =
      rw (
        drop_at (element_area es) (text_area es ++ tree_area es) elements_area length-element_area,
        drop_at (text_area es) (tree_area es) texts_area length-text_area,
      )
      (last-back tree_width tree_cells wide-tree cells_tree file_limit es.trees
      (each_all (λ (t : Tree). cells_tree (tree_cells t) ≡ t) es.trees (λ t. refl)))
      in
      let n : map (λ (r : ElementRow). r.name) (rows es) ≡ es.names = row-names es.names es.types es.depths in
      let t : map (λ (r : ElementRow). r.type) (rows es) ≡ es.types = row-types es.names es.types es.depths s.same_types in
      let d : map (λ (r : ElementRow). r.depth) (rows es) ≡ es.depths = row-depths es.names es.types es.depths s.same_depths in
      rw (a, b, c) (λ i. record { names = n i; types = t i; depths = d i; texts = es.texts; trees = es.trees })

-- a table that is the encoding of elements holds them
pub hold-elements : (es : Elements) (xs : List ℕ) → xs ≡ encode_elements es → SizedElements es → HoldsElements xs es
hold-elements es xs e s =
    let b : elements_of xs ≡ es = ap elements_of e ∙ elements-back es s in
    record {
      good = record { size = ap length e ∙ elements-size es s; raw = e ∙ ap encode_elements (sym b); sized = rw b s };
      is = b;
    }

-- ---- reads

module _ (xs : List ℕ) (g : GoodElements xs) where
  pub element-count : get_or xs 0 0 ≡ length (elements_of xs).names
  unfolding encode_elements
  element-count = ap (λ (l : List ℕ). get_or l 0 0) g.raw

  pub text-count : get_or xs 1 0 ≡ length (elements_of xs).texts
  unfolding encode_elements
  text-count = ap (λ (l : List ℕ). get_or l 1 0) g.raw

  pub tree-count : get_or xs 2 0 ≡ length (elements_of xs).trees
  unfolding encode_elements
  tree-count = ap (λ (l : List ℕ). get_or l 2 0) g.raw

  pub element-cell : (i j : ℕ) → i < length (elements_of xs).names → j < element_width → get_or xs (elements_at + (i * element_width + j)) 0
      ≡ get_or (get_or (elements_of xs).names i 0 ∷ get_or (elements_of xs).types i 0 ∷ get_or (elements_of xs).depths i 0 ∷ []) j 0
  unfolding encode_elements
  element-cell i j h k =
      let es : Elements = elements_of xs in
      let f : i < length (rows es) = rw (length-element_rows es.names es.types es.depths) h in
      ap (λ (l : List ℕ). get_or l (elements_at + (i * element_width + j)) 0) g.raw
      ∙ read-row element_width element_cells wide-element (counts es) (text_area es ++ tree_area es) elements_at element_limit (rows es) i j no_row refl (rows_fit es g.sized) f k
      ∙ ap (λ (l : List ℕ). get_or l j 0) (row-cells es.names es.types es.depths i g.sized.same_types g.sized.same_depths)

  pub text-cell : (i j : ℕ) → i < length (elements_of xs).texts → j < text_width
      → get_or xs (texts_at + (i * text_width + j)) 0 ≡ get_or (text_cells (get_or (elements_of xs).texts i (enum_number 0))) j 0
  unfolding encode_elements
  text-cell i j h k =
      let es : Elements = elements_of xs in
      ap (λ (l : List ℕ). get_or l (texts_at + (i * text_width + j)) 0) g.raw
      ∙ read-row text_width text_cells wide-text (counts es ++ element_area es) (tree_area es) texts_at item_limit es.texts i j (enum_number 0)
      (before-texts es g.sized) g.sized.text_count h k

  pub tree-cell : (i j : ℕ) → i < length (elements_of xs).trees → j < tree_width
      → get_or xs (trees_at + (i * tree_width + j)) 0 ≡ get_or (tree_cells (get_or (elements_of xs).trees i no_tree)) j 0
  tree-cell i j h k =
      let es : Elements = elements_of xs in
      ap (λ (l : List ℕ). get_or l (trees_at + (i * tree_width + j)) 0) (g.raw ∙ cut-trees es)
      ∙ read-last tree_width tree_cells wide-tree ((counts es ++ element_area es) ++ text_area es) trees_at file_limit es.trees i j no_tree
      (before-trees es g.sized) g.sized.tree_count h k

-- ---- stores: one row more, and the count

-- in each, m is the count, and ys the table with the row behind the last one
module _ (xs : List ℕ) (g : GoodElements xs) (m : ℕ) (ys : List ℕ) where
  pub added-element : (n t d : ℕ) → length (elements_of xs).names < element_limit → m ≡ length (elements_of xs).names
      → ys ≡ puts xs (elements_at + m * element_width) (n ∷ t ∷ d ∷ []) → HoldsElements (set ys 0 (m + 1)) (add_element (elements_of xs) n t d)
  unfolding add_element
  added-element n t d h e y =
      let es : Elements = elements_of xs in
      let row : ElementRow = record { name = n; type = t; depth = d } in
      let c : length (rows es) ≡ length es.names = length-element_rows es.names es.types es.depths in
      let z =
      appended element_width element_cells wide-element xs (counts es) (text_area es ++ tree_area es) ys (element_cells row) elements_at element_limit m (rows es) row
      (g.raw ∙ cut-elements es) refl (rw c h) (e ∙ sym c) refl y
      in
      let more = rows_more es.names es.types es.depths n t d g.sized.same_types g.sized.same_depths in
      hold-elements (add_element es n t d) (set ys 0 (m + 1))
      (ap (λ (l : List ℕ). set l 0 (m + 1)) z ∙ rw (e, ← length-append es.names (n ∷ []), ← more) (sym (cut-elements (add_element es n t d))))
      (record {
        same_types = simp length-append (omega (arith, g.sized.same_types));
        same_depths = simp length-append (omega (arith, g.sized.same_depths));
        count = simp length-append (omega arith);
        text_count = g.sized.text_count;
        tree_count = g.sized.tree_count;
        strings = g.sized.strings;
      })

  pub added-text : (t : Text) → TextFits t → length (elements_of xs).texts < item_limit → m ≡ length (elements_of xs).texts
      → ys ≡ puts xs (texts_at + m * text_width) (text_cells t) → HoldsElements (set ys 1 (m + 1)) (add_text (elements_of xs) t)
  unfolding add_text
  added-text t q h e y =
      let es : Elements = elements_of xs in
      let z =
      appended text_width text_cells wide-text xs (counts es ++ element_area es) (tree_area es) ys (text_cells t) texts_at item_limit m es.texts t
      (g.raw ∙ cut-texts es) (before-texts es g.sized) h e refl y
      in
      hold-elements (add_text es t) (set ys 1 (m + 1))
      (ap (λ (l : List ℕ). set l 1 (m + 1)) z ∙ rw (e, ← length-append es.texts (t ∷ [])) (sym (cut-texts (add_text es t))))
      (record {
        same_types = g.sized.same_types;
        same_depths = g.sized.same_depths;
        count = g.sized.count;
        text_count = simp length-append (omega arith);
        tree_count = g.sized.tree_count;
        strings = each_append TextFits es.texts (t ∷ []) g.sized.strings (q, tt);
      })

  pub added-tree : (t : Tree) → length (elements_of xs).trees < file_limit → m ≡ length (elements_of xs).trees
      → ys ≡ puts xs (trees_at + m * tree_width) (tree_cells t) → HoldsElements (set ys 2 (m + 1)) (add_tree (elements_of xs) t)
  unfolding add_tree
  added-tree t h e y =
      let es : Elements = elements_of xs in
      let z =
      appended-last tree_width tree_cells wide-tree xs ((counts es ++ element_area es) ++ text_area es) ys (tree_cells t) trees_at file_limit m es.trees t
      (g.raw ∙ cut-trees es) (before-trees es g.sized) h e refl y
      in
      hold-elements (add_tree es t) (set ys 2 (m + 1))
      (ap (λ (l : List ℕ). set l 2 (m + 1)) z ∙ rw (e, ← length-append es.trees (t ∷ [])) (sym (cut-trees (add_tree es t))))
      (record {
        same_types = g.sized.same_types;
        same_depths = g.sized.same_depths;
        count = g.sized.count;
        text_count = g.sized.text_count;
        tree_count = simp length-append (omega arith);
        strings = g.sized.strings;
      })
