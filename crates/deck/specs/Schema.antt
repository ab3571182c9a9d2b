-- Document 01, "Deck and schema": schema rules and schema calls. Assumes nothing.
use Rattle.std.specs.Prelude.{Bool, true, false, not, ◌&&◌, ◌-◌, ◌/◌, ◌%◌, ◌^◌, min, eqb, ltb, length}
use mathlib.Core.List.{List, [], ◌∷◌, map, drop_last}
use Rattle.std.proofs.Math.Option.{Option, none, some}
use Rattle.std.specs.Int.Bits.{bit_and}
use Rattle.tables.specs.FileSets.{no_set, holds, with_file}
use Rattle.tables.specs.Limits.{version_limit}
use Rattle.tables.specs.Lists.{any_of, all_of, first_of}
use Rattle.tables.specs.Paths.{begins, same_path, shared_beginning}
use Rattle.tables.specs.Records.{Name, TypeNumber, FileNumber, Version, Mask, FileSet, SchemaPath, Mode, sequence, choice, bag, mixed, characters, Group, SubElement, File, Schema, type_row}

-- ---- paths

-- every proper non-empty beginning
unfoldable pub proper_beginnings : SchemaPath → List SchemaPath
proper_beginnings [] = []
proper_beginnings (a ∷ []) = []
proper_beginnings (a ∷ b ∷ p) = (a ∷ []) ∷ map (λ (q : SchemaPath). a ∷ q) (proper_beginnings (b ∷ p))

-- ---- schema rules, of a row and the rows above it

unfoldable pub is_characters : Mode → Bool
is_characters sequence = false
is_characters choice = false
is_characters bag = false
is_characters mixed = false
is_characters characters = true

unfoldable pub declared_type : Schema → TypeNumber → Bool
declared_type sc t = ltb t (length sc.types)

unfoldable pub group_at : Schema → TypeNumber → SchemaPath → Option Group
group_at sc t p = first_of (λ (g : Group). eqb g.type t && same_path g.path p) sc.groups

unfoldable pub has_group : Schema → TypeNumber → SchemaPath → Bool
has_group sc t p = elim (group_at sc t p) [ none ↦ false | some g ↦ true ]

-- types used are declared; mode 4 types have no rows; every proper non-empty beginning of a path has a G row above it
unfoldable pub path_valid : Schema → TypeNumber → SchemaPath → Bool
path_valid sc t p =
    declared_type sc t && not (is_characters (type_row sc t).mode) && all_of (has_group sc t) (proper_beginnings p)

-- no G path stands twice
unfoldable pub group_rule : Schema → Group → Bool
group_rule sc g = path_valid sc g.type g.path && not (has_group sc g.type g.path)

-- a name stands once in a type; no S path equals or begins another S
unfoldable pub rows_meet : SubElement → SubElement → Bool
rows_meet r above =
    elim (eqb above.type r.type) [
      | true ↦
          elim (eqb above.name r.name) [
            | true ↦ true
            | false ↦ elim (begins r.path above.path) [ true ↦ true | false ↦ begins above.path r.path ]
          ]
      | false ↦ false
    ]

-- or G path of its type
unfoldable pub begins_group : SubElement → Group → Bool
begins_group r g = eqb g.type r.type && begins r.path g.path

unfoldable pub sub_element_rule : Schema → SubElement → Bool
sub_element_rule sc r =
    path_valid sc r.type r.path && declared_type sc r.child_type && not (any_of (rows_meet r) sc.sub_elements)
    && not (any_of (begins_group r) sc.groups)

-- ---- files and versions

unfoldable pub declares_file : Schema → FileNumber → Bool
declares_file sc f = any_of (λ (d : File). eqb d.file f) sc.files

-- the set of the files in a list
unfoldable pub files_of : List File → FileSet
files_of [] = no_set
files_of (d ∷ ds) = with_file (files_of ds) d.file

unfoldable pub declared_files : Schema → FileSet
declared_files sc = files_of sc.files

unfoldable pub version_of : Schema → FileNumber → Version
version_of sc f = elim (first_of (λ (d : File). eqb d.file f) sc.files) [ none ↦ 0 | some d ↦ d.version ]

-- Versions order by number: the smaller of a version and the least over the files of a set
unfoldable pub least_from : FileSet → Version → List File → Version
least_from s v [] = v
least_from s v (d ∷ ds) = least_from s (elim (holds s d.file) [ true ↦ min v d.version | false ↦ v ]) ds

unfoldable pub least_version : Schema → FileSet → Version → Version
least_version sc s v = least_from s v sc.files

-- ---- schema calls

-- for version v, bit v alone
abbrev pub version_mask : Version → Mask
version_mask v = 2 ^ v

abbrev pub all_versions : Mask
all_versions = 2 ^ version_limit - 1

unfoldable pub meets : Mask → Mask → Bool
meets m n = not (eqb (bit_and m n) 0)

-- `find_sub_element(name, m)` is the row if its mask meets m
unfoldable pub find_sub_element : Schema → TypeNumber → Name → Mask → Option SubElement
find_sub_element sc t n m =
    first_of (λ (r : SubElement). eqb r.type t && eqb r.name n && meets r.mask m) sc.sub_elements

-- the row of a name in a type, whatever its mask
unfoldable pub row_of_name : Schema → TypeNumber → Name → Option SubElement
row_of_name sc t n = find_sub_element sc t n all_versions

-- The empty path is the type itself.
unfoldable pub group_mode : Schema → TypeNumber → SchemaPath → Mode
group_mode sc t [] = (type_row sc t).mode
group_mode sc t (a ∷ p) = elim (group_at sc t (a ∷ p)) [ none ↦ (type_row sc t).mode | some g ↦ g.mode ]

-- `find_common_group` is the group at the longest beginning that both paths share, last parts not counted
unfoldable pub find_common_group : Schema → TypeNumber → SchemaPath → SchemaPath → Mode
find_common_group sc t p q = group_mode sc t (shared_beginning (drop_last p) (drop_last q))

-- `splittable_in(v)` is bit v of split
unfoldable pub splittable_in : Schema → TypeNumber → Version → Bool
splittable_in sc t v = eqb ((type_row sc t).split / 2 ^ v % 2) 1

-- Name 1 is SHORT-NAME, 2 DEFINITION-REF.
abbrev pub short_name : Name
short_name = 1

abbrev pub definition_ref : Name
definition_ref = 2
