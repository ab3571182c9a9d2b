-- The table of a schema whose rows are in their ranges passes. Assumes nothing.
use mathlib.Core.Bool.{Bool, true, false, not, ◌||◌}
use mathlib.Core.List.{List, [], ◌∷◌, ◌++◌, map}
use mathlib.Core.Path.{◌≡◌, refl, ap, ◌∙◌}
use Prim.Native.Nat.{ℕ, zero, suc, ◌+◌, ◌≤◌, ◌<◌}
use native.Mathlib.Numerals.{add-one}
use native.Mathlib.Omega.{arith}
use borrow.Author.Tests.{eq-eqb, ne_eqb, le-leb, lt-ltb}
use lib.Dec.{eqb}
use lib.ListN.{length}
use Rattle.tables.specs.Cells.{Each, between}
use Rattle.tables.specs.declared.index.Index.{Index}
use Rattle.tables.specs.declared.index.Index.TheVariants as index
use Rattle.tables.specs.Limits.{type_limit, file_limit, version_limit, path_limit, name_limit, part_limit, mask_limit}
use Rattle.tables.specs.Paths.{path_cells}
use Rattle.tables.specs.Records.{SchemaPath, Mode, sequence, choice, bag, mixed, characters, Mult, at_most_one, one, any, TypeRow, Group, SubElement, File, Schema}
use Rattle.tables.specs.SchemaTable.{schema_size, types_at, groups_at, rows_at, files_at, group_index_at, index_of, mode_number, mult_number, bool_number, part_cell, type_cells, group_cells, sub_element_cells, file_cells, encode_schema, RowFits, SizedSchema, file_width}
use Rattle.table_test.specs.RowTests.{path_passes}
use Rattle.table_test.specs.AreaTest.{row_passes, rows_in}
use Rattle.table_test.specs.SchemaTest.{files_ascend, index_passes, is_schema_table, TypeIn, FilesIn}
use Rattle.table_test.specs.Passing.{PartsIn, GroupPassing, RowPassing, SchemaIn}
use Rattle.table_test.specs.declared.area_test.Area.TheVariants.{Types, Groups, SubElements, Files}
use Rattle.tables.proofs.Laws.Lists.{same-itself}
use Rattle.tables.proofs.Laws.Cells.{each-imp, each_both}
use Rattle.tables.proofs.Laws.SchemaTable.{wide_type, wide-group, wide_row, wide-file, schema-size, schema-back, index-part, group_area, row_area, file_area, index_area, from-types, from-groups, from-rows, from-files}
use Rattle.table_test.proofs.Laws.PassingRows.{rows_are, cells-between, area-passes}

-- ---- numbers

mode-most : (m : Mode) → mode_number m ≤ 4
unfolding mode_number
mode-most sequence = omega arith
mode-most choice = omega arith
mode-most bag = omega arith
mode-most mixed = omega arith
mode-most characters = omega arith

group-mode : (m : Mode) → (m ≡ characters → ⊥) → mode_number m ≤ 3
unfolding mode_number
group-mode sequence h = omega arith
group-mode choice h = omega arith
group-mode bag h = omega arith
group-mode mixed h = omega arith
group-mode characters h = absurd (h refl)

mult-most : (m : Mult) → mult_number m ≤ 2
unfolding mult_number
mult-most at_most_one = omega arith
mult-most one = omega arith
mult-most any = omega arith

bool-most : (b : Bool) → bool_number b ≤ 1
unfolding bool_number
bool-most true = omega arith
bool-most false = omega arith

-- ---- paths

-- none behind a 0
none-behind : (a b : ℕ) → (a ≡ 0 → b ≡ 0) → not (eqb a 0) || eqb b 0 ≡ true
none-behind zero b h = eq-eqb b 0 (h refl)
none-behind (suc a) b h = rw (ne_eqb (suc a) 0 (λ e. omega arith))

four-pass : (a b c d : ℕ) → 0 < a → a ≤ suc part_limit → b ≤ suc part_limit → c ≤ suc part_limit → d ≤ suc part_limit → (b ≡ 0 → c ≡ 0) → (c ≡ 0 → d ≡ 0)
    → path_passes a b c d ≡ true
unfolding path_passes
four-pass a b c d some ha hb hc hd f g =
    rw (
      lt-ltb 0 a some,
      le-leb a (suc part_limit) ha,
      le-leb b (suc part_limit) hb,
      le-leb c (suc part_limit) hc,
      le-leb d (suc part_limit) hd,
      none-behind b c f,
      none-behind c d g,
    )

path-passes : (p : SchemaPath) → 0 < length p → length p ≤ path_limit → PartsIn p
    → path_passes (part_cell p 0) (part_cell p 1) (part_cell p 2) (part_cell p 3) ≡ true
unfolding path_cells
path-passes [] s l h = absurd (omega arith)
path-passes (a ∷ []) s l h =
    four-pass (suc a) 0 0 0 (omega arith) (omega (arith, h.0)) (omega arith) (omega arith) (omega arith) (λ e. refl) (λ e. refl)
path-passes (a ∷ b ∷ []) s l h =
    four-pass (suc a) (suc b) 0 0 (omega arith) (omega (arith, h.0)) (omega (arith, h.1.0)) (omega arith) (omega arith) (λ e. refl) (λ e. refl)
path-passes (a ∷ b ∷ c ∷ []) s l h =
    four-pass (suc a) (suc b) (suc c) 0 (omega arith) (omega (arith, h.0)) (omega (arith, h.1.0)) (omega (arith, h.1.1.0)) (omega arith) (λ e. absurd (omega arith)) (λ e. refl)
path-passes (a ∷ b ∷ c ∷ d ∷ []) s l h =
    four-pass (suc a) (suc b) (suc c) (suc d) (omega arith) (omega (arith, h.0)) (omega (arith, h.1.0)) (omega (arith, h.1.1.0)) (omega (arith, h.1.1.1.0)) (λ e. absurd (omega arith))
    (λ e. absurd (omega arith))
path-passes (a ∷ b ∷ c ∷ d ∷ x ∷ p) s l h = absurd (omega arith)

no-fourth : (p : SchemaPath) → length p ≤ 3 → part_cell p 3 ≡ 0
unfolding path_cells
no-fourth [] h = refl
no-fourth (a ∷ []) h = refl
no-fourth (a ∷ b ∷ []) h = refl
no-fourth (a ∷ b ∷ c ∷ []) h = refl
no-fourth (a ∷ b ∷ c ∷ d ∷ p) h = absurd (omega arith)

-- ---- rows

type-passes : (r : TypeRow) → TypeIn r → row_passes Types (type_cells r) ≡ true
unfolding row_passes
type-passes r h =
    rw (le-leb (mode_number r.mode) 4 (mode-most r.mode), le-leb (bool_number r.named) 1 (bool-most r.named), lt-ltb r.split mask_limit h)

group-passes : (g : Group) → GroupPassing g → row_passes Groups (group_cells g) ≡ true
unfolding row_passes
group-passes g h =
    let p = g.path in
    let few : length p ≤ 3 = h.0.2 in
    rw (
      lt-ltb g.type type_limit h.0.0,
      path-passes p h.0.1 (omega arith) h.1,
      eq-eqb (part_cell p 3) 0 (no-fourth p few),
      le-leb (mode_number g.mode) 3 (group-mode g.mode h.2),
    )

row-passes : (r : SubElement) → RowFits r × RowPassing r → row_passes SubElements (sub_element_cells r) ≡ true
unfolding row_passes
row-passes r h =
    let p = r.path in
    let i = h.1.0 in
    rw (
      lt-ltb r.type type_limit i.0,
      path-passes p i.1 h.0 h.1.1,
      le-leb r.name name_limit i.2,
      lt-ltb r.child_type type_limit i.3,
      le-leb (mult_number r.mult) 2 (mult-most r.mult),
      lt-ltb 0 r.mask i.4,
      lt-ltb r.mask mask_limit i.5,
    )

files-pass : (low : ℕ) (fs : List File) → FilesIn low fs → Each (λ (f : File). row_passes Files (file_cells f) ≡ true) fs
unfolding row_passes
files-pass low [] h = tt
files-pass low (f ∷ fs) h = (rw (lt-ltb f.file file_limit h.1, lt-ltb f.version version_limit h.2), files-pass (f.file + 1) fs h.3)

files-ascend : (low : ℕ) (fs : List File) → FilesIn low fs → files_ascend (map file_cells fs) ≡ true
unfolding files_ascend
files-ascend low [] h = refl
files-ascend low (f ∷ []) h = refl
files-ascend low (f ∷ g ∷ fs) h = rw (lt-ltb f.file g.file (rw add-one at h.3.0)) (files-ascend (f.file + 1) (g ∷ fs) h.3)

-- ---- indexes

index-passes : (sc : Schema) → SizedSchema sc → (x : Index) → index_passes x (encode_schema sc) ≡ true
unfolding index_passes
index-passes sc s index.Groups = rw (schema-back sc s, index-part sc s index.Groups) (same-itself (index_of sc index.Groups))
index-passes sc s index.Names = rw (schema-back sc s, index-part sc s index.Names) (same-itself (index_of sc index.Names))
index-passes sc s index.Paths = rw (schema-back sc s, index-part sc s index.Paths) (same-itself (index_of sc index.Paths))

-- ---- the table

pub schema-passes : (sc : Schema) → SchemaIn sc → is_schema_table (encode_schema sc) ≡ true
unfolding is_schema_table encode_schema
schema-passes sc h =
    let s = h.sized in
    let xs : List ℕ = encode_schema sc in
    let rows = each_both RowFits RowPassing sc.sub_elements s.row_paths h.rows in
    let files : files_ascend (rows_in file_width (length sc.files) (between files_at group_index_at xs)) ≡ true =
    ap (λ (l : List ℕ). files_ascend (rows_in file_width (length sc.files) l)) (cells-between Files file_cells wide-file sc.files s.file_count xs (index_area sc) files_at (from-files sc s))
    ∙ ap files_ascend (rows_are file_width file_cells wide-file file_limit sc.files)
    ∙ files-ascend 0 sc.files h.files
    in
    rw (
      eq-eqb (length xs) schema_size (schema-size sc s),
      area-passes Files file_cells wide-file sc.files s.file_count xs (index_area sc) files_at (from-files sc s) (length sc.files) refl (files-pass 0 sc.files h.files),
      area-passes Groups group_cells wide-group sc.groups s.group_count xs (row_area sc ++ (file_area sc ++ index_area sc)) groups_at (from-groups sc s)
          (length sc.groups) refl
          (each-imp GroupPassing (λ (g : Group). row_passes Groups (group_cells g) ≡ true) sc.groups group-passes h.groups),
      area-passes SubElements sub_element_cells wide_row sc.sub_elements s.row_count xs (file_area sc ++ index_area sc) rows_at (from-rows sc s)
          (length sc.sub_elements) refl
          (each-imp (λ (r : SubElement). RowFits r × RowPassing r) (λ (r : SubElement). row_passes SubElements (sub_element_cells r) ≡ true) sc.sub_elements row-passes rows),
      area-passes Types type_cells wide_type sc.types s.type_count xs (group_area sc ++ (row_area sc ++ (file_area sc ++ index_area sc))) types_at (from-types sc s)
          (length sc.types) refl
          (each-imp TypeIn (λ (r : TypeRow). row_passes Types (type_cells r) ≡ true) sc.types type-passes h.types),
      files,
      index-passes sc s index.Groups,
      index-passes sc s index.Names,
      index-passes sc s index.Paths,
    )
