-- What the answers of the schema calls stand for. Assumes nothing.
use Rattle.std.specs.Prelude.{Bool, true, false, ◌&&◌, ◌||◌, List, ◌≡◌, ℕ, ◌<◌, min, eqb, length, get_or, take}
use Rattle.std.proofs.Math.Option.{Option, none, some}
use Rattle.tables.specs.Cells.{Each}
use Rattle.tables.specs.FileSets.{holds}
use Rattle.tables.specs.Lists.{any_of, all_of}
use Rattle.tables.specs.Paths.{same_path}
use Rattle.tables.specs.Records.{Name, TypeNumber, FileNumber, FileSet, Version, Mask, SchemaPath, Group, SubElement, File, Schema, Tree}
use Rattle.deck.specs.Schema.{proper_beginnings, has_group, meets}
use Rattle.std.specs.Prelude as program_option
use Rattle.std.specs.Prelude.{Some, None}

-- the entry found
unfoldable pub found_in : {A : Type 0} → A → List A → program_option.Option ℕ → Option A
found_in default l (Some i) = some (get_or l i default)
found_in default l None = none

abbrev pub FoundWithin : ℕ → program_option.Option ℕ → Type 0
FoundWithin n (Some i) = i < n
FoundWithin n None = Unit {0}

pub record Finds {A : Type 0} (default : A) (l : List A) (r : program_option.Option ℕ) (o : Option A) : Type 0 where
  pub is : found_in default l r ≡ o
  pub within : FoundWithin (length l) r

-- ---- the test of one entry in each search

abbrev pub row_matches : TypeNumber → Name → Mask → SubElement → Bool
row_matches t n m r = eqb r.type t && eqb r.name n && meets r.mask m

abbrev pub name_matches : TypeNumber → Name → SubElement → Bool
name_matches t n r = eqb r.type t && eqb r.name n

abbrev pub path_matches : TypeNumber → SchemaPath → SubElement → Bool
path_matches t p r = eqb r.type t && same_path r.path p

abbrev pub group_matches : TypeNumber → SchemaPath → Group → Bool
group_matches t p g = eqb g.type t && same_path g.path p

abbrev pub file_matches : FileNumber → File → Bool
file_matches f d = eqb d.file f

abbrev pub tree_matches : FileNumber → Tree → Bool
tree_matches f t = eqb t.file f

-- the smaller of a version and that of the file, if the set has the file
abbrev pub least_with : FileSet → FileNumber → Version → Version → Version
least_with s f v w = elim (holds s f) [ true ↦ min v w | false ↦ v ]

-- ---- what stands above a row

-- the schema with the first i of its groups alone
unfoldable pub groups_above : Schema → ℕ → Schema
groups_above sc i = record { types = sc.types; groups = take i sc.groups; sub_elements = sc.sub_elements; files = sc.files }

-- the schema with the first i of its S rows alone
unfoldable pub rows_above : Schema → ℕ → Schema
rows_above sc i = record { types = sc.types; groups = sc.groups; sub_elements = take i sc.sub_elements; files = sc.files }

-- an S row of the schema has the row's type, and its name or its path
abbrev pub has_equal_row : Schema → SubElement → Bool
has_equal_row sc r = any_of (name_matches r.type r.name) sc.sub_elements || any_of (path_matches r.type r.path) sc.sub_elements

-- ---- what the rules give of the rows above

-- every proper beginning of the group's path has a group
abbrev pub GroupClosed : Schema → Group → Type 0
GroupClosed sc g = all_of (has_group sc g.type) (proper_beginnings g.path) ≡ true

-- so has the row's, which is not empty and no group's itself
abbrev pub RowClosed : Schema → SubElement → Type 0
RowClosed sc r =
    (0 < length r.path) × (all_of (has_group sc r.type) (proper_beginnings r.path) ≡ true) × (has_group sc r.type r.path ≡ false)

-- no path begins that of a row, but for its groups
pub record PathsClosed (sc : Schema) : Type 0 where
  pub groups_closed : Each (GroupClosed sc) sc.groups
  pub rows_closed : Each (RowClosed sc) sc.sub_elements
