-- The test of a schema table, the part of refusal 0 that needs this table alone. Assumes nothing.
use Rattle.std.specs.Prelude.{Bool, true, ◌&&◌, List, [], ◌∷◌, ◌≡◌, ℕ, ◌+◌, ◌≤◌, ◌<◌, eqb, ltb, length, get_or}
use Rattle.tables.specs.Cells.{between, Each}
use Rattle.tables.specs.Index.{bucket, path_bucket, index_size}
use Rattle.tables.specs.Limits.{type_limit, group_limit, row_limit, file_limit, version_limit, name_limit, mask_limit}
use Rattle.tables.specs.Lists.{same_list}
use Rattle.tables.specs.Paths.{front}
use Rattle.tables.specs.Records.{TypeRow, Group, SubElement, File}
use Rattle.tables.specs.SchemaTable.{schema_size, types_at, groups_at, rows_at, files_at, group_index_at, index_at, index_of, schema_of, GoodSchema}
use Rattle.tables.specs.declared.index.Index.{Index}
use Rattle.tables.specs.declared.index.Index.TheVariants as index
use Rattle.table_test.specs.RowTests.{every}
use Rattle.table_test.specs.AreaTest.{area_width, rows_in, area_passes}
use Rattle.table_test.specs.declared.area_test.Area.TheVariants.{Types, Groups, SubElements, Files}

-- each file's number is more than the one before
unfoldable pub files_ascend : List (List ℕ) → Bool
files_ascend [] = true
files_ascend (r ∷ []) = true
files_ascend (r ∷ q ∷ rows) = ltb (get_or r 0 0) (get_or q 0 0) && files_ascend (q ∷ rows)

-- the index is that of its rows
unfoldable pub index_passes : Index → List ℕ → Bool
index_passes x xs = same_list (between (index_at x) (index_at x + index_size) xs) (index_of (schema_of xs) x)

abbrev pub index_tests : List ℕ → List Bool
index_tests xs = index_passes index.Groups xs ∷ index_passes index.Names xs ∷ index_passes index.Paths xs ∷ []

-- the size, and the areas of files, groups, rows and types, each with its count; the files ascend; the indexes
abbrev pub schema_tests : List ℕ → List Bool
schema_tests xs =
    eqb (length xs) schema_size
    ∷ area_passes Files (get_or xs 3 0) (between files_at group_index_at xs)
    ∷ area_passes Groups (get_or xs 1 0) (between groups_at rows_at xs)
    ∷ area_passes SubElements (get_or xs 2 0) (between rows_at files_at xs)
    ∷ area_passes Types (get_or xs 0 0) (between types_at groups_at xs)
    ∷ files_ascend (rows_in (area_width Files) (get_or xs 3 0) (between files_at group_index_at xs))
    ∷ every (index_tests xs)
    ∷ []

unfoldable pub is_schema_table : List ℕ → Bool
is_schema_table xs = every (schema_tests xs)

-- the buckets of a row whose cells begin at a place: type, path, and an S row's name
abbrev pub path_bucket_at : List ℕ → ℕ → ℕ
path_bucket_at xs at =
    path_bucket (get_or xs at 0) (front (get_or xs (at + 1) 0 ∷ get_or xs (at + 2) 0 ∷ get_or xs (at + 3) 0 ∷ get_or xs (at + 4) 0 ∷ []))

abbrev pub name_bucket_at : List ℕ → ℕ → ℕ
name_bucket_at xs at = bucket (get_or xs at 0) (get_or xs (at + 5) 0)

-- what the counts must keep to before an index is built
pub record Counted (xs : List ℕ) : Type 0 where
  pub size : length xs ≡ schema_size
  pub groups : get_or xs 1 0 ≡ length (schema_of xs).groups
  pub rows : get_or xs 2 0 ≡ length (schema_of xs).sub_elements
  pub groups_few : get_or xs 1 0 ≤ group_limit
  pub rows_few : get_or xs 2 0 ≤ row_limit

abbrev pub TypeIn : TypeRow → Type 0
TypeIn r = r.split < mask_limit

abbrev pub GroupIn : Group → Type 0
GroupIn g = (g.type < type_limit) × (0 < length g.path) × (length g.path ≤ 3)

abbrev pub RowIn : SubElement → Type 0
RowIn r = (r.type < type_limit) × (0 < length r.path) × (r.name ≤ name_limit) × (r.child_type < type_limit) × (0 < r.mask) × (r.mask < mask_limit)

-- files and versions in their range, the files ascending, the first not less than low
abbrev pub FilesIn : ℕ → List File → Type 0
FilesIn low [] = Unit {0}
FilesIn low (f ∷ fs) = (low ≤ f.file) × (f.file < file_limit) × (f.version < version_limit) × FilesIn (f.file + 1) fs

-- what a table that passes is
pub record TestedSchema (xs : List ℕ) : Type 0 where
  pub good : GoodSchema xs
  pub types : Each TypeIn (schema_of xs).types
  pub groups : Each GroupIn (schema_of xs).groups
  pub rows : Each RowIn (schema_of xs).sub_elements
  pub files : FilesIn 0 (schema_of xs).files
