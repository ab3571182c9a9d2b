-- Laws of the schema's table: reading it back, its counts and rows, a type, a group, a row, a file added. Assumes nothing.
use mathlib.Core.Bool.{Bool, true, false}
use mathlib.Core.Path.{◌≡◌, refl, sym, ap, ◌∙◌}
use mathlib.Core.List.{List, [], ◌∷◌, ◌++◌, append_assoc, append-nil}
use Prim.Native.Nat.{ℕ, zero, suc, ◌+◌, ◌*◌, ◌-◌, ◌≤◌, ◌<◌}
use native.Mathlib.Omega.{arith}
use lib.ListN.{length, get_or, set, take, drop, length-append}
use lib.Seq.{drop_at, take_at, take_all, get_or-take, get_or-drop}
use Rattle.tables.specs.Cells.{cells, rows_of, puts}
use Rattle.tables.specs.Limits.{type_limit, group_limit, row_limit, file_limit, path_limit}
use Rattle.tables.specs.Paths.{front, path_cells}
use denote.Enum.Declared.{tag_of}
use mir.Val.{bool_byte}
use Rattle.tables.specs.contracts.schema.Mult as program_mult_row
use Rattle.tables.specs.declared.schema.Mult as program_mult
use Rattle.tables.specs.declared.schema.Mult.TheVariants.{AtMostOne, One, Any}
use Rattle.tables.specs.Records.{SchemaPath, Mode, sequence, choice, bag, mixed, characters, modes, Mult, at_most_one, one, any, mults, TypeRow, Group, SubElement, File, Schema, no_type, type_row, add_type, add_group, add_sub_element, add_file}
use Rattle.tables.specs.SchemaTable.{schema_size, types_at, groups_at, rows_at, files_at, types_area, groups_area, rows_area, files_area, type_width, group_width, row_width, file_width, mode_number, mode_from, mult_is, mult_number, mult_from, bool_number, bool_from, part_cell, type_cells, cells_type, group_cells, cells_group, sub_element_cells, cells_sub_element, file_cells, cells_file, no_group, no_sub_element, no_file, group_index_at, name_index_at, path_index_at, index_at, places_in, group_key, name_key, path_key, key_in, index_of, encode_schema, schema_of, GroupFits, RowFits, SizedSchema, GoodSchema, HoldsSchema}
use Rattle.tables.specs.Index.{buckets, index_size, latest, linked_at}
use Rattle.tables.specs.declared.index.Index.{Index}
use Rattle.tables.specs.declared.index.Index.TheVariants.{Groups, Names, Paths}
use Rattle.tables.proofs.Laws.Cells.{length-cells, cells-back, each_all, each-imp, each_append, each-get_d, read-row, appended}
use Rattle.tables.proofs.Laws.Index.{length-index, index-added, linked-inside, head-is, link-is, bucket-below, path-bucket-below}
use Rattle.tables.proofs.Laws.Paths.{front-cells, length-path_cells}

-- ---- numbers and back

pub mode-back : (m : Mode) → mode_from (mode_number m) ≡ m
unfolding mode_number
mode-back sequence = refl
mode-back choice = refl
mode-back bag = refl
mode-back mixed = refl
mode-back characters = refl

pub mode-again : (n : ℕ) → n < length modes → mode_number (mode_from n) ≡ n
unfolding mode_number
mode-again zero h = refl
mode-again (suc zero) h = refl
mode-again (suc (suc zero)) h = refl
mode-again (suc (suc (suc zero))) h = refl
mode-again (suc (suc (suc (suc zero)))) h = refl
mode-again (suc (suc (suc (suc (suc n))))) h = absurd (omega arith)

pub mult-back : (m : Mult) → mult_from (mult_number m) ≡ m
unfolding mult_number
mult-back at_most_one = refl
mult-back one = refl
mult-back any = refl

pub mult-again : (n : ℕ) → n < length mults → mult_number (mult_from n) ≡ n
unfolding mult_number
mult-again zero h = refl
mult-again (suc zero) h = refl
mult-again (suc (suc zero)) h = refl
mult-again (suc (suc (suc n))) h = absurd (omega arith)

-- a truth as the number of its cell
pub bool_cell : (b : Bool) → bool_byte b ≡ bool_number b
unfolding bool_number
bool_cell false = refl
bool_cell true = refl

-- the program's mults stand in the order of their numbers
pub mult_tag : (m : program_mult.Mult) → tag_of program_mult_row.the_type m ≡ mult_number (mult_is m)
unfolding mult_number
mult_tag AtMostOne = refl
mult_tag One = refl
mult_tag Any = refl

pub bool-back : (b : Bool) → bool_from (bool_number b) ≡ b
unfolding bool_number
bool-back true = refl
bool-back false = refl

-- ---- paths

four-cells : (xs : List ℕ) → length xs ≡ 4 → get_or xs 0 0 ∷ get_or xs 1 0 ∷ get_or xs 2 0 ∷ get_or xs 3 0 ∷ [] ≡ xs
four-cells [] e = absurd (omega arith)
four-cells (a ∷ []) e = absurd (omega arith)
four-cells (a ∷ b ∷ []) e = absurd (omega arith)
four-cells (a ∷ b ∷ c ∷ []) e = absurd (omega arith)
four-cells (a ∷ b ∷ c ∷ d ∷ []) e = refl
four-cells (a ∷ b ∷ c ∷ d ∷ x ∷ xs) e = absurd (omega arith)

pub part-cells : (p : SchemaPath) → part_cell p 0 ∷ part_cell p 1 ∷ part_cell p 2 ∷ part_cell p 3 ∷ [] ≡ path_cells path_limit p
part-cells p = four-cells (path_cells path_limit p) (length-path_cells path_limit p)

pub path-back : (p : SchemaPath) → length p ≤ path_limit → front (part_cell p 0 ∷ part_cell p 1 ∷ part_cell p 2 ∷ part_cell p 3 ∷ []) ≡ p
path-back p h = ap front (part-cells p) ∙ front-cells path_limit p h

pub path-parts : (p : SchemaPath) (a b c d : ℕ) → length p ≤ path_limit → a ≡ part_cell p 0 → b ≡ part_cell p 1 → c ≡ part_cell p 2 → d ≡ part_cell p 3
    → front (a ∷ b ∷ c ∷ d ∷ []) ≡ p
path-parts p a b c d h ea eb ec ed = rw (ea, eb, ec, ed) (path-back p h)

pub length_front : (xs : List ℕ) → length (front xs) ≤ length xs
unfolding front
length_front [] = omega arith
length_front (zero ∷ xs) = omega arith
length_front (suc a ∷ xs) = omega (arith, length_front xs)

last-part : (d : ℕ) → d ∷ [] ≡ path_cells 1 (front (d ∷ []))
unfolding front path_cells
last-part zero = refl
last-part (suc d) = refl

-- zeros behind the first zero
module _ (a b c d : ℕ) where
  pub path-none : a ≡ 0 → 0 ∷ 0 ∷ 0 ∷ 0 ∷ [] ≡ path_cells path_limit (front (a ∷ b ∷ c ∷ d ∷ []))
  unfolding front path_cells
  path-none e = rw e

  pub path-one : (a ≡ 0 → ⊥) → b ≡ 0 → a ∷ 0 ∷ 0 ∷ 0 ∷ [] ≡ path_cells path_limit (front (a ∷ b ∷ c ∷ d ∷ []))
  unfolding front path_cells
  path-one e f = let x : a ≡ suc (a - 1) = omega arith in rw (x, f)

  pub path-two : (a ≡ 0 → ⊥) → (b ≡ 0 → ⊥) → c ≡ 0 → a ∷ b ∷ 0 ∷ 0 ∷ [] ≡ path_cells path_limit (front (a ∷ b ∷ c ∷ d ∷ []))
  unfolding front path_cells
  path-two e f g =
      let x : a ≡ suc (a - 1) = omega arith in
      let y : b ≡ suc (b - 1) = omega arith in
      rw (x, y, g)

  pub path-more : (a ≡ 0 → ⊥) → (b ≡ 0 → ⊥) → (c ≡ 0 → ⊥) → a ∷ b ∷ c ∷ d ∷ [] ≡ path_cells path_limit (front (a ∷ b ∷ c ∷ d ∷ []))
  unfolding front path_cells
  path-more e f g =
      let x : a ≡ suc (a - 1) = omega arith in
      let y : b ≡ suc (b - 1) = omega arith in
      let z : c ≡ suc (c - 1) = omega arith in
      rw (x, y, z) (ap (λ (l : List ℕ). suc (a - 1) ∷ suc (b - 1) ∷ suc (c - 1) ∷ l) (last-part d))

-- ---- rows

abbrev pub wide_type : (r : TypeRow) → length (type_cells r) ≡ type_width
wide_type r = refl

abbrev pub wide-group : (g : Group) → length (group_cells g) ≡ group_width
wide-group g = refl

abbrev pub wide_row : (r : SubElement) → length (sub_element_cells r) ≡ row_width
wide_row r = refl

abbrev pub wide-file : (f : File) → length (file_cells f) ≡ file_width
wide-file f = refl

pub type-back : (r : TypeRow) → cells_type (type_cells r) ≡ r
type-back r = λ i. record { mode = mode-back r.mode i; named = bool-back r.named i; split = r.split }

pub group-back : (g : Group) → GroupFits g → cells_group (group_cells g) ≡ g
group-back g h = λ i. record { type = g.type; path = path-back g.path h i; mode = mode-back g.mode i }

pub row_back : (r : SubElement) → RowFits r → cells_sub_element (sub_element_cells r) ≡ r
row_back r h =
    λ i.
    record {
      type = r.type;
      path = path-back r.path h i;
      name = r.name;
      child_type = r.child_type;
      mult = mult-back r.mult i;
      mask = r.mask;
    }

-- the cells of a row, where a b c d are those of its path
module _ (t a b c d : ℕ) (p : SchemaPath) (e : a ∷ b ∷ c ∷ d ∷ [] ≡ path_cells path_limit p) where
  pub group-cells : (m : ℕ) → m < length modes → group_cells (record { type = t; path = p; mode = mode_from m }) ≡ t ∷ a ∷ b ∷ c ∷ d ∷ m ∷ []
  group-cells m h = rw (← e, mode-again m h)

  pub row-cells : (n u : ℕ) (m : Mult) (k : ℕ) {r : ℕ} → r ≡ mult_number m
      → sub_element_cells (record { type = t; path = p; name = n; child_type = u; mult = m; mask = k }) ≡ t ∷ a ∷ b ∷ c ∷ d ∷ n ∷ u ∷ r ∷ k ∷ []
  row-cells n u m k h = rw (← e, h)

pub type-cells : (m c k : ℕ) (b : Bool) → m < length modes → c ≡ bool_number b → type_cells (record { mode = mode_from m; named = b; split = k }) ≡ m ∷ c ∷ k ∷ []
type-cells m c k b h e = rw (e, mode-again m h)

-- ---- the areas

abbrev pub counts : Schema → List ℕ
counts sc = length sc.types ∷ length sc.groups ∷ length sc.sub_elements ∷ length sc.files ∷ []

abbrev pub type_area : Schema → List ℕ
type_area sc = cells type_width type_limit type_cells sc.types

abbrev pub group_area : Schema → List ℕ
group_area sc = cells group_width group_limit group_cells sc.groups

abbrev pub row_area : Schema → List ℕ
row_area sc = cells row_width row_limit sub_element_cells sc.sub_elements

abbrev pub file_area : Schema → List ℕ
file_area sc = cells file_width file_limit file_cells sc.files

abbrev pub index_area : Schema → List ℕ
index_area sc = index_of sc Groups ++ (index_of sc Names ++ index_of sc Paths)

-- the table, with these cells behind the files
abbrev pub with-indexes : Schema → List ℕ → List ℕ
with-indexes sc w = counts sc ++ (type_area sc ++ (group_area sc ++ (row_area sc ++ (file_area sc ++ w))))

pub schema-cells : (sc : Schema) → encode_schema sc ≡ with-indexes sc (index_area sc)
unfolding encode_schema
schema-cells sc = refl

-- the cells before rows, files and indexes
abbrev front-rows : Schema → List ℕ
front-rows sc = (counts sc ++ type_area sc) ++ group_area sc

abbrev front-files : Schema → List ℕ
front-files sc = front-rows sc ++ row_area sc

abbrev front-indexes : Schema → List ℕ
front-indexes sc = front-files sc ++ file_area sc

-- cut there
cut-rows : (sc : Schema) (w : List ℕ) → with-indexes sc w ≡ front-rows sc ++ (row_area sc ++ (file_area sc ++ w))
cut-rows sc w = sym (append_assoc (counts sc ++ type_area sc) (group_area sc) (row_area sc ++ (file_area sc ++ w)))

cut-files : (sc : Schema) (w : List ℕ) → with-indexes sc w ≡ front-files sc ++ (file_area sc ++ w)
cut-files sc w = cut-rows sc w ∙ sym (append_assoc (front-rows sc) (row_area sc) (file_area sc ++ w))

cut-indexes : (sc : Schema) (w : List ℕ) → with-indexes sc w ≡ front-indexes sc ++ w
cut-indexes sc w = cut-files sc w ∙ sym (append_assoc (front-files sc) (file_area sc) w)

key_below : (sc : Schema) (x : Index) (i : ℕ) → key_in sc x i < buckets
key_below sc Groups i = let g = get_or sc.groups i no_group in path-bucket-below g.type g.path
key_below sc Names i = let r = get_or sc.sub_elements i no_sub_element in bucket-below r.type r.name
key_below sc Paths i = let r = get_or sc.sub_elements i no_sub_element in path-bucket-below r.type r.path

length-index_area : (sc : Schema) → length (index_area sc) ≡ index_size + (index_size + index_size)
length-index_area sc =
    rw (
      length-append (index_of sc Groups) (index_of sc Names ++ index_of sc Paths),
      length-append (index_of sc Names) (index_of sc Paths),
      length-index (key_in sc Groups) (places_in sc Groups),
      length-index (key_in sc Names) (places_in sc Names),
      length-index (key_in sc Paths) (places_in sc Paths),
    )

module _ (sc : Schema) (s : SizedSchema sc) where
  length-type_area : length (type_area sc) ≡ types_area
  length-type_area = length-cells type_width type_cells wide_type type_limit sc.types s.type_count

  length-group_area : length (group_area sc) ≡ groups_area
  length-group_area = length-cells group_width group_cells wide-group group_limit sc.groups s.group_count

  length-row_area : length (row_area sc) ≡ rows_area
  length-row_area = length-cells row_width sub_element_cells wide_row row_limit sc.sub_elements s.row_count

  length-file_area : length (file_area sc) ≡ files_area
  length-file_area = length-cells file_width file_cells wide-file file_limit sc.files s.file_count

  before-groups : length (counts sc ++ type_area sc) ≡ groups_at
  before-groups = ap (λ (n : ℕ). suc (suc (suc (suc n)))) length-type_area

  before-rows : length (front-rows sc) ≡ rows_at
  before-rows = rw (length-append (counts sc ++ type_area sc) (group_area sc), before-groups, length-group_area)

  before-files : length (front-files sc) ≡ files_at
  before-files = rw (length-append (front-rows sc) (row_area sc), before-rows, length-row_area)

  before-indexes : length (front-indexes sc) ≡ group_index_at
  before-indexes = rw (length-append (front-files sc) (file_area sc), before-files, length-file_area)

  before-names : length (front-indexes sc ++ index_of sc Groups) ≡ name_index_at
  before-names = rw (length-append (front-indexes sc) (index_of sc Groups), before-indexes, length-index (key_in sc Groups) (places_in sc Groups))

  before-paths : length ((front-indexes sc ++ index_of sc Groups) ++ index_of sc Names) ≡ path_index_at
  before-paths =
      rw (length-append (front-indexes sc ++ index_of sc Groups) (index_of sc Names), before-names, length-index (key_in sc Names) (places_in sc Names))

  -- an index holds at most as many as it has links
  pub places-few : (x : Index) → places_in sc x ≤ 512
  places-few Groups = omega (arith, s.group_count)
  places-few Names = omega (arith, s.row_count)
  places-few Paths = omega (arith, s.row_count)

  pub index-part : (x : Index) → take index_size (drop (index_at x) (encode_schema sc)) ≡ index_of sc x
  index-part Groups =
      let f = front-indexes sc in
      ap (λ (l : List ℕ). take index_size (drop group_index_at l)) (schema-cells sc ∙ cut-indexes sc (index_area sc))
      ∙ ap (take index_size) (drop_at f (index_area sc) group_index_at before-indexes)
      ∙ take_at (index_of sc Groups) (index_of sc Names ++ index_of sc Paths) index_size (length-index (key_in sc Groups) (places_in sc Groups))
  index-part Names =
      let f = front-indexes sc in
      ap (λ (l : List ℕ). take index_size (drop name_index_at l))
      (schema-cells sc ∙ cut-indexes sc (index_area sc) ∙ sym (append_assoc f (index_of sc Groups) (index_of sc Names ++ index_of sc Paths)))
      ∙ ap (take index_size) (drop_at (f ++ index_of sc Groups) (index_of sc Names ++ index_of sc Paths) name_index_at before-names)
      ∙ take_at (index_of sc Names) (index_of sc Paths) index_size (length-index (key_in sc Names) (places_in sc Names))
  index-part Paths =
      let f = front-indexes sc in
      ap (λ (l : List ℕ). take index_size (drop path_index_at l))
      (schema-cells sc ∙ cut-indexes sc (index_area sc) ∙ sym (append_assoc f (index_of sc Groups) (index_of sc Names ++ index_of sc Paths))
      ∙ sym (append_assoc (f ++ index_of sc Groups) (index_of sc Names) (index_of sc Paths)))
      ∙ ap (take index_size) (drop_at ((f ++ index_of sc Groups) ++ index_of sc Names) (index_of sc Paths) path_index_at before-paths)
      ∙ take_all index_size (index_of sc Paths) (rw (length-index (key_in sc Paths) (places_in sc Paths)) (omega arith))

  index-cell : (x : Index) (j : ℕ) → j < index_size → get_or (encode_schema sc) (index_at x + j) 0 ≡ get_or (index_of sc x) j 0
  index-cell x j h =
      sym (get_or-take index_size (drop (index_at x) (encode_schema sc)) j 0 h ∙ get_or-drop (index_at x) (encode_schema sc) j 0)
      ∙ ap (λ (l : List ℕ). get_or l j 0) (index-part x)

  -- the table from each area on
  pub from-types : drop types_at (encode_schema sc) ≡ type_area sc ++ (group_area sc ++ (row_area sc ++ (file_area sc ++ index_area sc)))
  unfolding encode_schema
  from-types = refl

  pub from-groups : drop groups_at (encode_schema sc) ≡ group_area sc ++ (row_area sc ++ (file_area sc ++ index_area sc))
  from-groups = ap (drop groups_at) (schema-cells sc) ∙ drop_at (counts sc ++ type_area sc) _ groups_at before-groups

  pub from-rows : drop rows_at (encode_schema sc) ≡ row_area sc ++ (file_area sc ++ index_area sc)
  from-rows = ap (drop rows_at) (schema-cells sc ∙ cut-rows sc (index_area sc)) ∙ drop_at (front-rows sc) _ rows_at before-rows

  pub from-files : drop files_at (encode_schema sc) ≡ file_area sc ++ index_area sc
  from-files = ap (drop files_at) (schema-cells sc ∙ cut-files sc (index_area sc)) ∙ drop_at (front-files sc) _ files_at before-files

  pub from-indexes : drop group_index_at (encode_schema sc) ≡ index_area sc
  from-indexes = ap (drop group_index_at) (schema-cells sc ∙ cut-indexes sc (index_area sc)) ∙ drop_at (front-indexes sc) _ group_index_at before-indexes

  -- ---- the table

  pub schema-size : length (encode_schema sc) ≡ schema_size
  schema-size =
      ap length (schema-cells sc ∙ cut-indexes sc (index_area sc)) ∙ rw (length-append (front-indexes sc) (index_area sc), before-indexes, length-index_area sc)

  pub schema-back : schema_of (encode_schema sc) ≡ sc
  unfolding encode_schema schema_of
  schema-back =
      let rest : List ℕ = group_area sc ++ (row_area sc ++ (file_area sc ++ index_area sc)) in
      let t : rows_of type_width (length sc.types) cells_type (type_area sc ++ rest) ≡ sc.types =
      cells-back type_width type_cells wide_type cells_type type_limit sc.types rest
      (each_all (λ (r : TypeRow). cells_type (type_cells r) ≡ r) sc.types type-back)
      in
      let d : drop types_area (type_area sc ++ rest) ≡ rest = drop_at (type_area sc) rest types_area length-type_area in
      let d2 : drop groups_area rest ≡ row_area sc ++ (file_area sc ++ index_area sc) = drop_at (group_area sc) (row_area sc ++ (file_area sc ++ index_area sc)) groups_area length-group_area in
      let d3 : drop rows_area (row_area sc ++ (file_area sc ++ index_area sc)) ≡ file_area sc ++ index_area sc =
      drop_at (row_area sc) (file_area sc ++ index_area sc) rows_area length-row_area
      in
      let g : rows_of group_width (length sc.groups) cells_group rest ≡ sc.groups =
      cells-back group_width group_cells wide-group cells_group group_limit sc.groups (row_area sc ++ (file_area sc ++ index_area sc))
      (each-imp GroupFits (λ (g : Group). cells_group (group_cells g) ≡ g) sc.groups group-back s.group_paths)
      in
      let r : rows_of row_width (length sc.sub_elements) cells_sub_element (row_area sc ++ (file_area sc ++ index_area sc)) ≡ sc.sub_elements =
      cells-back row_width sub_element_cells wide_row cells_sub_element row_limit sc.sub_elements (file_area sc ++ index_area sc)
      (each-imp RowFits (λ (r : SubElement). cells_sub_element (sub_element_cells r) ≡ r) sc.sub_elements row_back s.row_paths)
      in
      let f : rows_of file_width (length sc.files) cells_file (file_area sc ++ index_area sc) ≡ sc.files =
      cells-back file_width file_cells wide-file cells_file file_limit sc.files (index_area sc)
      (each_all (λ (f : File). cells_file (file_cells f) ≡ f) sc.files (λ f. refl))
      in
      rw (d, d2, d3) (λ i. record { types = t i; groups = g i; sub_elements = r i; files = f i })

-- a table that is a schema's encoding holds that schema
pub hold-schema : (sc : Schema) (xs : List ℕ) → xs ≡ encode_schema sc → SizedSchema sc → HoldsSchema xs sc
hold-schema sc xs e s =
    let b : schema_of xs ≡ sc = ap schema_of e ∙ schema-back sc s in
    record {
      good = record { size = ap length e ∙ schema-size sc s; raw = e ∙ ap encode_schema (sym b); sized = rw b s };
      is = b;
    }

-- ---- reads

module _ (xs : List ℕ) (g : GoodSchema xs) where
  pub type-count : get_or xs 0 0 ≡ length (schema_of xs).types
  unfolding encode_schema
  type-count = ap (λ (l : List ℕ). get_or l 0 0) g.raw

  pub group-count : get_or xs 1 0 ≡ length (schema_of xs).groups
  unfolding encode_schema
  group-count = ap (λ (l : List ℕ). get_or l 1 0) g.raw

  pub row_count_lem : get_or xs 2 0 ≡ length (schema_of xs).sub_elements
  unfolding encode_schema
  row_count_lem = ap (λ (l : List ℕ). get_or l 2 0) g.raw

  pub file-count : get_or xs 3 0 ≡ length (schema_of xs).files
  unfolding encode_schema
  file-count = ap (λ (l : List ℕ). get_or l 3 0) g.raw

  pub type-cell : (i j : ℕ) → i < length (schema_of xs).types → j < type_width
      → get_or xs (types_at + (i * type_width + j)) 0 ≡ get_or (type_cells (type_row (schema_of xs) i)) j 0
  type-cell i j h k =
      let sc : Schema = schema_of xs in
      ap (λ (l : List ℕ). get_or l (types_at + (i * type_width + j)) 0) (g.raw ∙ schema-cells sc)
      ∙ read-row type_width type_cells wide_type (counts sc) (group_area sc ++ (row_area sc ++ (file_area sc ++ index_area sc))) types_at type_limit sc.types i j no_type
      refl g.sized.type_count h k

  pub group-cell : (i j : ℕ) → i < length (schema_of xs).groups → j < group_width
      → get_or xs (groups_at + (i * group_width + j)) 0 ≡ get_or (group_cells (get_or (schema_of xs).groups i no_group)) j 0
  group-cell i j h k =
      let sc : Schema = schema_of xs in
      ap (λ (l : List ℕ). get_or l (groups_at + (i * group_width + j)) 0) (g.raw ∙ schema-cells sc)
      ∙ read-row group_width group_cells wide-group (counts sc ++ type_area sc) (row_area sc ++ (file_area sc ++ index_area sc)) groups_at group_limit sc.groups i j no_group
      (before-groups sc g.sized) g.sized.group_count h k

  pub row-cell : (i j : ℕ) → i < length (schema_of xs).sub_elements → j < row_width
      → get_or xs (rows_at + (i * row_width + j)) 0 ≡ get_or (sub_element_cells (get_or (schema_of xs).sub_elements i no_sub_element)) j 0
  row-cell i j h k =
      let sc : Schema = schema_of xs in
      ap (λ (l : List ℕ). get_or l (rows_at + (i * row_width + j)) 0) (g.raw ∙ schema-cells sc ∙ cut-rows sc (index_area sc))
      ∙ read-row row_width sub_element_cells wide_row (front-rows sc) (file_area sc ++ index_area sc) rows_at row_limit sc.sub_elements i j no_sub_element
      (before-rows sc g.sized) g.sized.row_count h k

  pub file-cell : (i j : ℕ) → i < length (schema_of xs).files → j < file_width
      → get_or xs (files_at + (i * file_width + j)) 0 ≡ get_or (file_cells (get_or (schema_of xs).files i no_file)) j 0
  file-cell i j h k =
      let sc : Schema = schema_of xs in
      ap (λ (l : List ℕ). get_or l (files_at + (i * file_width + j)) 0) (g.raw ∙ schema-cells sc ∙ cut-files sc (index_area sc))
      ∙ read-row file_width file_cells wide-file (front-files sc) (index_area sc) files_at file_limit sc.files i j no_file
      (before-files sc g.sized) g.sized.file_count h k

  pub index-head : (x : Index) (b : ℕ) → b < buckets
      → get_or xs (index_at x + b) 0 ≡ latest (key_in (schema_of xs) x) b (places_in (schema_of xs) x)
  index-head x b h =
      let sc : Schema = schema_of xs in
      ap (λ (l : List ℕ). get_or l (index_at x + b) 0) g.raw ∙ index-cell sc g.sized x b (omega arith)
      ∙ head-is (key_in sc x) (key_below sc x) b (places_in sc x) h

  pub index-link : (x : Index) (i : ℕ) → i < places_in (schema_of xs) x
      → get_or xs (index_at x + (buckets + i)) 0 ≡ latest (key_in (schema_of xs) x) (key_in (schema_of xs) x i) i
  index-link x i h =
      let sc : Schema = schema_of xs in
      let few = places-few sc g.sized x in
      ap (λ (l : List ℕ). get_or l (index_at x + (buckets + i)) 0) g.raw ∙ index-cell sc g.sized x (buckets + i) (omega arith)
      ∙ link-is (key_in sc x) (key_below sc x) i (places_in sc x) h few

  pub named-is : (t c : ℕ) → c ≡ bool_number (type_row (schema_of xs) t).named → bool_from c ≡ (type_row (schema_of xs) t).named
  named-is t c e = rw e (bool-back (type_row (schema_of xs) t).named)

  -- a path from its four cells
  pub group-path : (i a b c d : ℕ) → i < length (schema_of xs).groups
      → let p = (get_or (schema_of xs).groups i no_group).path in
      a ≡ part_cell p 0 → b ≡ part_cell p 1 → c ≡ part_cell p 2 → d ≡ part_cell p 3 → front (a ∷ b ∷ c ∷ d ∷ []) ≡ p
  group-path i a b c d h = path-parts _ a b c d (each-get_d GroupFits (schema_of xs).groups i no_group g.sized.group_paths h)

  pub row-path : (i a b c d : ℕ) → i < length (schema_of xs).sub_elements
      → let p = (get_or (schema_of xs).sub_elements i no_sub_element).path in
      a ≡ part_cell p 0 → b ≡ part_cell p 1 → c ≡ part_cell p 2 → d ≡ part_cell p 3 → front (a ∷ b ∷ c ∷ d ∷ []) ≡ p
  row-path i a b c d h = path-parts _ a b c d (each-get_d RowFits (schema_of xs).sub_elements i no_sub_element g.sized.row_paths h)

-- ---- stores: one row more, and the count

-- in each, m is the count, vs the row's cells, and ys the table with them behind the last row
module _ (xs : List ℕ) (g : GoodSchema xs) (m : ℕ) (vs ys : List ℕ) where
  pub added-type : (r : TypeRow) → length (schema_of xs).types < type_limit → m ≡ length (schema_of xs).types → type_cells r ≡ vs
      → ys ≡ puts xs (types_at + m * type_width) vs → HoldsSchema (set ys 0 (m + 1)) (add_type (schema_of xs) r)
  unfolding add_type
  added-type r h e v y =
      let sc : Schema = schema_of xs in
      let t =
      appended type_width type_cells wide_type xs (counts sc) (group_area sc ++ (row_area sc ++ (file_area sc ++ index_area sc))) ys vs types_at type_limit m sc.types r
      (g.raw ∙ schema-cells sc) refl h e v y
      in
      hold-schema (add_type sc r) (set ys 0 (m + 1))
      (ap (λ (l : List ℕ). set l 0 (m + 1)) t ∙ rw (e, ← length-append sc.types (r ∷ [])) (sym (schema-cells (add_type sc r))))
      (record {
        type_count = simp length-append (omega arith);
        group_count = g.sized.group_count;
        row_count = g.sized.row_count;
        file_count = g.sized.file_count;
        group_paths = g.sized.group_paths;
        row_paths = g.sized.row_paths;
      })

  -- b is the row's bucket
  pub added-group : (r : Group) (b : ℕ) → GroupFits r → length (schema_of xs).groups < group_limit → m ≡ length (schema_of xs).groups
      → group_cells r ≡ vs → ys ≡ puts xs (groups_at + m * group_width) vs → b ≡ group_key r
      → HoldsSchema (linked_at group_index_at (set ys 1 (m + 1)) m b) (add_group (schema_of xs) r)
  unfolding add_group
  added-group r b p h e v y k =
      let sc : Schema = schema_of xs in
      let sd : Schema = add_group sc r in
      let t =
      appended group_width group_cells wide-group xs (counts sc ++ type_area sc) (row_area sc ++ (file_area sc ++ index_area sc)) ys vs groups_at group_limit m sc.groups r
      (g.raw ∙ schema-cells sc) (before-groups sc g.sized) h e v y
      in
      let s : SizedSchema sd =
      record {
        type_count = g.sized.type_count;
        group_count = simp length-append (omega arith);
        row_count = g.sized.row_count;
        file_count = g.sized.file_count;
        group_paths = each_append GroupFits sc.groups (r ∷ []) g.sized.group_paths (p, tt);
        row_paths = g.sized.row_paths;
      }
      in
      let f : List ℕ = front-indexes sd in
      let rest : List ℕ = index_of sd Names ++ index_of sd Paths in
      let w : set ys 1 (m + 1) ≡ f ++ (index_of sc Groups ++ rest) =
      ap (λ (l : List ℕ). set l 1 (m + 1)) t ∙ rw (e, ← length-append sc.groups (r ∷ [])) (cut-indexes sd (index_area sc))
      in
      hold-schema sd _
      (ap (λ (l : List ℕ). linked_at group_index_at l m b) w
      ∙ linked-inside f (index_of sc Groups) rest group_index_at m b (before-indexes sd s) (length-index (key_in sc Groups) (places_in sc Groups)) (omega arith)
      (rw k (path-bucket-below r.type r.path))
      ∙ ap (λ (l : List ℕ). f ++ (l ++ rest)) (index-added group_key sc.groups r no_group m b e k)
      ∙ sym (schema-cells sd ∙ cut-indexes sd (index_area sd)))
      s

  -- b and c are the row's buckets, by its name and by its path
  pub added-row : (r : SubElement) (b c : ℕ) → RowFits r → length (schema_of xs).sub_elements < row_limit → m ≡ length (schema_of xs).sub_elements
      → sub_element_cells r ≡ vs → ys ≡ puts xs (rows_at + m * row_width) vs → b ≡ name_key r → c ≡ path_key r
      → HoldsSchema (linked_at path_index_at (linked_at name_index_at (set ys 2 (m + 1)) m b) m c) (add_sub_element (schema_of xs) r)
  unfolding add_sub_element
  added-row r b c p h e v y k l =
      let sc : Schema = schema_of xs in
      let sd : Schema = add_sub_element sc r in
      let t =
      appended row_width sub_element_cells wide_row xs (front-rows sc) (file_area sc ++ index_area sc) ys vs rows_at row_limit m sc.sub_elements r
      (g.raw ∙ schema-cells sc ∙ cut-rows sc (index_area sc)) (before-rows sc g.sized) h e v y
      in
      let s : SizedSchema sd =
      record {
        type_count = g.sized.type_count;
        group_count = g.sized.group_count;
        row_count = simp length-append (omega arith);
        file_count = g.sized.file_count;
        group_paths = g.sized.group_paths;
        row_paths = each_append RowFits sc.sub_elements (r ∷ []) g.sized.row_paths (p, tt);
      }
      in
      let f : List ℕ = front-indexes sd ++ index_of sd Groups in
      let names : List ℕ = index_of sd Names in
      let paths : List ℕ = index_of sc Paths in
      let w : set ys 2 (m + 1) ≡ f ++ (index_of sc Names ++ paths) =
      ap (λ (z : List ℕ). set z 2 (m + 1)) t
      ∙ rw (e, ← length-append sc.sub_elements (r ∷ [])) (sym (cut-rows sd (index_area sc)) ∙ cut-indexes sd (index_area sc))
      ∙ sym (append_assoc (front-indexes sd) (index_of sd Groups) (index_of sc Names ++ paths))
      in
      let named : linked_at name_index_at (set ys 2 (m + 1)) m b ≡ (f ++ names) ++ (paths ++ []) =
      ap (λ (z : List ℕ). linked_at name_index_at z m b) w
      ∙ linked-inside f (index_of sc Names) paths name_index_at m b (before-names sd s) (length-index (key_in sc Names) (places_in sc Names)) (omega arith)
      (rw k (bucket-below r.type r.name))
      ∙ ap (λ (z : List ℕ). f ++ (z ++ paths)) (index-added name_key sc.sub_elements r no_sub_element m b e k)
      ∙ rw (append-nil paths) (sym (append_assoc f names paths))
      in
      hold-schema sd _
      (ap (λ (z : List ℕ). linked_at path_index_at z m c) named
      ∙ linked-inside (f ++ names) paths [] path_index_at m c (before-paths sd s) (length-index (key_in sc Paths) (places_in sc Paths)) (omega arith)
      (rw l (path-bucket-below r.type r.path))
      ∙ ap (λ (z : List ℕ). (f ++ names) ++ (z ++ [])) (index-added path_key sc.sub_elements r no_sub_element m c e l)
      ∙ rw (append-nil (index_of sd Paths))
      (append_assoc f names (index_of sd Paths) ∙ append_assoc (front-indexes sd) (index_of sd Groups) (names ++ index_of sd Paths)
      ∙ sym (schema-cells sd ∙ cut-indexes sd (index_area sd))))
      s

  pub added-file : (r : File) → length (schema_of xs).files < file_limit → m ≡ length (schema_of xs).files → file_cells r ≡ vs
      → ys ≡ puts xs (files_at + m * file_width) vs → HoldsSchema (set ys 3 (m + 1)) (add_file (schema_of xs) r)
  unfolding add_file
  added-file r h e v y =
      let sc : Schema = schema_of xs in
      let t =
      appended file_width file_cells wide-file xs (front-files sc) (index_area sc) ys vs files_at file_limit m sc.files r
      (g.raw ∙ schema-cells sc ∙ cut-files sc (index_area sc)) (before-files sc g.sized) h e v y
      in
      hold-schema (add_file sc r) (set ys 3 (m + 1))
      (ap (λ (l : List ℕ). set l 3 (m + 1)) t ∙ rw (e, ← length-append sc.files (r ∷ [])) (sym (schema-cells (add_file sc r) ∙ cut-files (add_file sc r) (index_area sc))))
      (record {
        type_count = g.sized.type_count;
        group_count = g.sized.group_count;
        row_count = g.sized.row_count;
        file_count = simp length-append (omega arith);
        group_paths = g.sized.group_paths;
        row_paths = g.sized.row_paths;
      })
