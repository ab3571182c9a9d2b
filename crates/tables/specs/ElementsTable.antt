-- The elements' table: the counts of elements, texts and trees; each element's name, type and depth; each text's kind and value; each tree's
-- file and root. Unused cells are zero. Assumes nothing.
use Rattle.std.specs.Prelude.{◌≡◌, List, [], ◌∷◌, ◌++◌, map, ℕ, ◌+◌, ◌*◌, ◌≤◌, ◌<◌, length, get_or, drop}
use Rattle.tables.specs.Cells.{cells, rows_of, Each}
use Rattle.tables.specs.Limits.{element_limit, item_limit, file_limit, string_limit}
use Rattle.tables.specs.Records.{Name, TypeNumber, Text, enum_number, string, whole_number, float, Tree, Elements}
use Rattle.tables.specs.Texts.{text_kind, text_value, text_from}

-- ---- sizes, and where the areas begin

-- cells of one row of each area
abbrev pub element_width : ℕ
element_width = 3

abbrev pub text_width : ℕ
text_width = 2

abbrev pub tree_width : ℕ
tree_width = 2

-- cells of the areas
abbrev pub elements_area : ℕ
elements_area = element_limit * element_width

abbrev pub texts_area : ℕ
texts_area = item_limit * text_width

abbrev pub trees_area : ℕ
trees_area = file_limit * tree_width

abbrev pub elements_at : ℕ
elements_at = 3

abbrev pub texts_at : ℕ
texts_at = elements_at + elements_area

abbrev pub trees_at : ℕ
trees_at = texts_at + texts_area

abbrev pub elements_size : ℕ
elements_size = trees_at + trees_area

-- ---- rows

-- one element's part of the three lists
pub record ElementRow : Type 0 where
  pub name : Name
  pub type : TypeNumber
  pub depth : ℕ

-- a row for each name
unfoldable pub element_rows : List Name → List TypeNumber → List ℕ → List ElementRow
element_rows [] ts ds = []
element_rows (n ∷ ns) ts ds = record { name = n; type = get_or ts 0 0; depth = get_or ds 0 0 } ∷ element_rows ns (drop 1 ts) (drop 1 ds)

abbrev pub element_cells : ElementRow → List ℕ
element_cells r = r.name ∷ r.type ∷ r.depth ∷ []

abbrev pub cells_element : List ℕ → ElementRow
cells_element xs = record { name = get_or xs 0 0; type = get_or xs 1 0; depth = get_or xs 2 0 }

abbrev pub text_cells : Text → List ℕ
text_cells t = text_kind t ∷ text_value t ∷ []

abbrev pub cells_text : List ℕ → Text
cells_text xs = text_from (get_or xs 0 0) (get_or xs 1 0)

abbrev pub tree_cells : Tree → List ℕ
tree_cells t = t.file ∷ t.root ∷ []

abbrev pub cells_tree : List ℕ → Tree
cells_tree xs = record { file = get_or xs 0 0; root = get_or xs 1 0 }

abbrev pub no_tree : Tree
no_tree = record { file = 0; root = 0 }

-- ---- the table

unfoldable pub encode_elements : Elements → List ℕ
encode_elements es =
    length es.names ∷ length es.texts ∷ length es.trees
    ∷ (cells element_width element_limit element_cells (element_rows es.names es.types es.depths)
    ++ (cells text_width item_limit text_cells es.texts ++ cells tree_width file_limit tree_cells es.trees))

unfoldable pub elements_of : List ℕ → Elements
elements_of xs =
    let area = drop elements_at xs in
    let rows = rows_of element_width (get_or xs 0 0) cells_element area in
    record {
      names = map (λ (r : ElementRow). r.name) rows;
      types = map (λ (r : ElementRow). r.type) rows;
      depths = map (λ (r : ElementRow). r.depth) rows;
      texts = rows_of text_width (get_or xs 1 0) cells_text (drop elements_area area);
      trees = rows_of tree_width (get_or xs 2 0) cells_tree (drop texts_area (drop elements_area area));
    }

-- a string's length leaves room for its place
abbrev pub TextFits : Text → Type 0
TextFits (enum_number n) = Unit {0}
TextFits (string p) = p.size < string_limit
TextFits (whole_number n) = Unit {0}
TextFits (float b) = Unit {0}

-- what a table can hold
pub record SizedElements (es : Elements) : Type 0 where
  pub same_types : length es.types ≡ length es.names
  pub same_depths : length es.depths ≡ length es.names
  pub count : length es.names ≤ element_limit
  pub text_count : length es.texts ≤ item_limit
  pub tree_count : length es.trees ≤ file_limit
  pub strings : Each TextFits es.texts

-- the table is the encoding of what it says
pub record GoodElements (xs : List ℕ) : Type 0 where
  pub size : length xs ≡ elements_size
  pub raw : xs ≡ encode_elements (elements_of xs)
  pub sized : SizedElements (elements_of xs)

pub record HoldsElements (xs : List ℕ) (es : Elements) : Type 0 where
  pub good : GoodElements xs
  pub is : elements_of xs ≡ es
