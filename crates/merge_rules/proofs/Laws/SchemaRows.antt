-- Each G and S row of the schema meets its rule by the rows above it, and does so with one row more. Assumes nothing.
use mathlib.Core.Bool.{true}
use mathlib.Core.List.{List, [], ◌∷◌, ◌++◌}
use mathlib.Core.Path.{◌≡◌, refl}
use Prim.Native.Nat.{ℕ, ◌≤◌, ◌<◌}
use native.Mathlib.Omega.{arith}
use Rattle.tables.specs.Records.{TypeRow, Group, SubElement, File, Schema, add_type, add_group, add_sub_element, add_file}
use Rattle.deck.specs.Load.{nothing, kind_t, kind_g, kind_s, kind_f}
use Rattle.deck.specs.Schema.{declared_type, group_at, has_group, path_valid, group_rule, sub_element_rule}
use Rattle.state_test.specs.StateTest.{groups_valid, rows_valid, types_alone, without_rows, schema_valid}
use Rattle.state_test.proofs.Laws.Schemas.{group_rules, sub_element_rules, groups-valid-none, rows-valid-none, valid-snoc, valid-other}

-- the schema with other files
abbrev with_files : List File → Schema → Schema
with_files fs sc = record { types = sc.types; groups = sc.groups; sub_elements = sc.sub_elements; files = fs }

-- ---- the schema behind lines up to a kind

-- each G and S row meets its rule; up to T lines there are no G rows, and up to G lines no S rows
pub record SchemaValidUpTo (latest : ℕ) (sc : Schema) : Type 0 where
  pub groups : groups_valid (types_alone sc) sc.groups ≡ true
  pub rows : rows_valid (without_rows sc) sc.sub_elements ≡ true
  pub no_groups : latest ≤ kind_t → sc.groups ≡ []
  pub no_rows : latest ≤ kind_g → sc.sub_elements ≡ []

-- no row
pub valid-nothing : SchemaValidUpTo kind_t nothing.schema
valid-nothing = record { groups = groups-valid-none _; rows = rows-valid-none _; no_groups = λ _. refl; no_rows = λ _. refl }

module _ {k : ℕ} {sc : Schema} (s : SchemaValidUpTo k sc) where
  -- a later kind
  pub valid-later : (n : ℕ) → kind_g < n → SchemaValidUpTo n sc
  valid-later n h =
      record { groups = s.groups; rows = s.rows; no_groups = λ l. absurd (omega arith); no_rows = λ l. absurd (omega arith) }

  -- a type more
  pub valid-type : (r : TypeRow) → k ≤ kind_t → SchemaValidUpTo kind_t (add_type sc r)
  unfolding add_type
  valid-type r h =
      record {
        groups = rw (s.no_groups h) (groups-valid-none _);
        rows = rw (s.no_rows (omega arith)) (rows-valid-none _);
        no_groups = λ _. s.no_groups h;
        no_rows = λ _. s.no_rows (omega arith);
      }

  -- a group more
  pub valid-group : (g : Group) → k ≤ kind_g → group_rule sc g ≡ true → SchemaValidUpTo kind_g (add_group sc g)
  unfolding add_group group_rule path_valid declared_type has_group group_at
  valid-group g h rule =
      record {
        groups =
            valid-snoc group_rules sc [] sc.groups g s.groups rule;
        rows = rw (s.no_rows h) (rows-valid-none _);
        no_groups = λ l. absurd (omega arith);
        no_rows = λ _. s.no_rows h;
      }

  -- a row more
  pub valid-row : (r : SubElement) → sub_element_rule sc r ≡ true → SchemaValidUpTo kind_s (add_sub_element sc r)
  unfolding add_sub_element
  valid-row r rule =
      record {
        groups = s.groups;
        rows =
            valid-snoc sub_element_rules sc [] sc.sub_elements r s.rows rule;
        no_groups = λ l. absurd (omega arith);
        no_rows = λ l. absurd (omega arith);
      }

  -- a file more
  pub valid-file : (d : File) → SchemaValidUpTo kind_f (add_file sc d)
  unfolding add_file add_group add_sub_element group_rule sub_element_rule path_valid declared_type has_group group_at
  valid-file d =
      let fs = sc.files ++ (d ∷ []) in
      record {
        groups =
            valid-other group_rules (with_files fs) (λ x g. refl) (λ x g. refl) (types_alone sc) sc.groups s.groups;
        rows =
            valid-other sub_element_rules (with_files fs) (λ x r. refl) (λ x r. refl) (without_rows sc) sc.sub_elements s.rows;
        no_groups = λ l. absurd (omega arith);
        no_rows = λ l. absurd (omega arith);
      }

  -- the schema is valid
  pub valid-all : schema_valid sc ≡ true
  unfolding schema_valid
  valid-all = rw (s.groups, s.rows)
