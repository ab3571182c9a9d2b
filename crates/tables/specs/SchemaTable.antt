-- The schema's table: the counts of types, groups, rows and files; each type's mode, named and split; each group's type, path and mode; each
-- row's type, path, name, child type, mult and mask; each file's number and version; the indexes of groups by path, rows by name, rows by
-- path. Unused cells are zero. Assumes nothing.
use Rattle.std.specs.Prelude.{Bool, true, false, not, ◌≡◌, List, [], ◌∷◌, ◌++◌, ℕ, ◌+◌, ◌*◌, ◌≤◌, eqb, length, get_or, drop}
use Rattle.tables.specs.Cells.{cells, rows_of, Each}
use Rattle.tables.specs.Index.{bucket, path_bucket, index_size, index_cells}
use Rattle.tables.specs.Limits.{type_limit, group_limit, row_limit, file_limit, path_limit}
use Rattle.tables.specs.Paths.{front, path_cells}
use Rattle.tables.specs.declared.schema.Mult as program_mult
use Rattle.tables.specs.declared.schema.Mult.TheVariants.{AtMostOne, One, Any}
use Rattle.tables.specs.Records.{SchemaPath, Mode, sequence, choice, bag, mixed, characters, modes, Mult, at_most_one, one, any, mults, TypeRow, Group, SubElement, File, Schema}
use Rattle.tables.specs.declared.index.Index.{Index}
use Rattle.tables.specs.declared.index.Index.TheVariants.{Groups, Names, Paths}

-- ---- sizes, and where the areas begin

-- cells of one row of each area
abbrev pub type_width : ℕ
type_width = 3

abbrev pub group_width : ℕ
group_width = 6

abbrev pub row_width : ℕ
row_width = 9

abbrev pub file_width : ℕ
file_width = 2

-- cells of the areas
abbrev pub types_area : ℕ
types_area = type_limit * type_width

abbrev pub groups_area : ℕ
groups_area = group_limit * group_width

abbrev pub rows_area : ℕ
rows_area = row_limit * row_width

abbrev pub files_area : ℕ
files_area = file_limit * file_width

abbrev pub types_at : ℕ
types_at = 4

abbrev pub groups_at : ℕ
groups_at = types_at + types_area

abbrev pub rows_at : ℕ
rows_at = groups_at + groups_area

abbrev pub files_at : ℕ
files_at = rows_at + rows_area

abbrev pub group_index_at : ℕ
group_index_at = files_at + files_area

abbrev pub name_index_at : ℕ
name_index_at = group_index_at + index_size

abbrev pub path_index_at : ℕ
path_index_at = name_index_at + index_size

abbrev pub schema_size : ℕ
schema_size = path_index_at + index_size

-- ---- numbers of modes and mults

unfoldable pub mode_number : Mode → ℕ
mode_number sequence = 0
mode_number choice = 1
mode_number bag = 2
mode_number mixed = 3
mode_number characters = 4

abbrev pub mode_from : ℕ → Mode
mode_from n = get_or modes n characters

unfoldable pub mult_number : Mult → ℕ
mult_number at_most_one = 0
mult_number one = 1
mult_number any = 2

-- the program's mults as the records have them
abbrev pub mult_is : program_mult.Mult → Mult
mult_is AtMostOne = at_most_one
mult_is One = one
mult_is Any = any

abbrev pub mult_from : ℕ → Mult
mult_from n = get_or mults n any

unfoldable pub bool_number : Bool → ℕ
bool_number false = 0
bool_number true = 1

abbrev pub bool_from : ℕ → Bool
bool_from n = not (eqb n 0)

-- ---- rows

-- one of the four cells of a path
abbrev pub part_cell : SchemaPath → ℕ → ℕ
part_cell p i = get_or (path_cells path_limit p) i 0

abbrev pub type_cells : TypeRow → List ℕ
type_cells r = mode_number r.mode ∷ bool_number r.named ∷ r.split ∷ []

abbrev pub cells_type : List ℕ → TypeRow
cells_type xs = record { mode = mode_from (get_or xs 0 0); named = bool_from (get_or xs 1 0); split = get_or xs 2 0 }

abbrev pub group_cells : Group → List ℕ
group_cells g =
    g.type ∷ part_cell g.path 0 ∷ part_cell g.path 1 ∷ part_cell g.path 2 ∷ part_cell g.path 3 ∷ mode_number g.mode ∷ []

abbrev pub cells_group : List ℕ → Group
cells_group xs =
    record {
      type = get_or xs 0 0;
      path = front (get_or xs 1 0 ∷ get_or xs 2 0 ∷ get_or xs 3 0 ∷ get_or xs 4 0 ∷ []);
      mode = mode_from (get_or xs 5 0);
    }

abbrev pub sub_element_cells : SubElement → List ℕ
sub_element_cells r =
    r.type ∷ part_cell r.path 0 ∷ part_cell r.path 1 ∷ part_cell r.path 2 ∷ part_cell r.path 3 ∷ r.name ∷ r.child_type
    ∷ mult_number r.mult ∷ r.mask ∷ []

abbrev pub cells_sub_element : List ℕ → SubElement
cells_sub_element xs =
    record {
      type = get_or xs 0 0;
      path = front (get_or xs 1 0 ∷ get_or xs 2 0 ∷ get_or xs 3 0 ∷ get_or xs 4 0 ∷ []);
      name = get_or xs 5 0;
      child_type = get_or xs 6 0;
      mult = mult_from (get_or xs 7 0);
      mask = get_or xs 8 0;
    }

abbrev pub file_cells : File → List ℕ
file_cells f = f.file ∷ f.version ∷ []

abbrev pub cells_file : List ℕ → File
cells_file xs = record { file = get_or xs 0 0; version = get_or xs 1 0 }

abbrev pub no_group : Group
no_group = record { type = 0; path = []; mode = characters }

abbrev pub no_sub_element : SubElement
no_sub_element = record { type = 0; path = []; name = 0; child_type = 0; mult = any; mask = 0 }

abbrev pub no_file : File
no_file = record { file = 0; version = 0 }

-- ---- indexes

abbrev pub index_at : Index → ℕ
index_at Groups = group_index_at
index_at Names = name_index_at
index_at Paths = path_index_at

-- how many groups or rows are in an index
abbrev pub places_in : Schema → Index → ℕ
places_in sc Groups = length sc.groups
places_in sc Names = length sc.sub_elements
places_in sc Paths = length sc.sub_elements

abbrev pub group_key : Group → ℕ
group_key g = path_bucket g.type g.path

abbrev pub name_key : SubElement → ℕ
name_key r = bucket r.type r.name

abbrev pub path_key : SubElement → ℕ
path_key r = path_bucket r.type r.path

-- the bucket of the group or row at a place
abbrev pub key_in : Schema → Index → ℕ → ℕ
key_in sc Groups i = group_key (get_or sc.groups i no_group)
key_in sc Names i = name_key (get_or sc.sub_elements i no_sub_element)
key_in sc Paths i = path_key (get_or sc.sub_elements i no_sub_element)

abbrev pub index_of : Schema → Index → List ℕ
index_of sc x = index_cells (key_in sc x) (places_in sc x)

-- ---- the table

unfoldable pub encode_schema : Schema → List ℕ
encode_schema sc =
    length sc.types ∷ length sc.groups ∷ length sc.sub_elements ∷ length sc.files
    ∷ (cells type_width type_limit type_cells sc.types
    ++ (cells group_width group_limit group_cells sc.groups
    ++ (cells row_width row_limit sub_element_cells sc.sub_elements
    ++ (cells file_width file_limit file_cells sc.files ++ (index_of sc Groups ++ (index_of sc Names ++ index_of sc Paths))))))

unfoldable pub schema_of : List ℕ → Schema
schema_of xs =
    let area = drop types_at xs in
    let group_area = drop types_area area in
    let row_area = drop groups_area group_area in
    record {
      types = rows_of type_width (get_or xs 0 0) cells_type area;
      groups = rows_of group_width (get_or xs 1 0) cells_group group_area;
      sub_elements = rows_of row_width (get_or xs 2 0) cells_sub_element row_area;
      files = rows_of file_width (get_or xs 3 0) cells_file (drop rows_area row_area);
    }

abbrev pub GroupFits : Group → Type 0
GroupFits g = length g.path ≤ path_limit

abbrev pub RowFits : SubElement → Type 0
RowFits r = length r.path ≤ path_limit

-- what a table can hold
pub record SizedSchema (sc : Schema) : Type 0 where
  pub type_count : length sc.types ≤ type_limit
  pub group_count : length sc.groups ≤ group_limit
  pub row_count : length sc.sub_elements ≤ row_limit
  pub file_count : length sc.files ≤ file_limit
  pub group_paths : Each GroupFits sc.groups
  pub row_paths : Each RowFits sc.sub_elements

-- the table is the encoding of what it says
pub record GoodSchema (xs : List ℕ) : Type 0 where
  pub size : length xs ≡ schema_size
  pub raw : xs ≡ encode_schema (schema_of xs)
  pub sized : SizedSchema (schema_of xs)

pub record HoldsSchema (xs : List ℕ) (sc : Schema) : Type 0 where
  pub good : GoodSchema xs
  pub is : schema_of xs ≡ sc
