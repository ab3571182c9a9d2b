-- Laws of refusal 0 as a whole: what tables that pass their own test give, and the first test that fails. Assumes nothing.
use mathlib.Core.Bool.{Bool, true, false, and-eq-true_iff}
use mathlib.Core.List.{List, [], ◌∷◌}
use mathlib.Core.Option.{Option, none, some}
use mathlib.Core.Path.{◌≡◌, ◌∙◌}
use Prim.Native.Nat.{ℕ, ◌+◌, min, ◌≤◌, ◌<◌}
use native.Mathlib.Omega.{arith}
use lib.Dec.{eqb}
use lib.ListN.{length}
use Rattle.tables.specs.Cells.{Each}
use Rattle.tables.specs.FileSets.{holds}
use Rattle.tables.specs.Limits.{file_limit, version_limit}
use Rattle.tables.specs.Lists.{first_of}
use Rattle.tables.specs.Records.{FileNumber, FileSet, Version, File, Tree, Schema}
use Rattle.tables.specs.SchemaTable.{schema_of}
use Rattle.tables.proofs.Laws.Cases.{bool_case}
use Rattle.tables.proofs.Laws.Cells.{each-imp}
use Rattle.deck.specs.Schema.{version_of, least_from, least_version}
use Rattle.table_test.specs.ElementsTest.{TreeIn}
use Rattle.table_test.specs.SchemaTest.{RowIn, FilesIn, TestedSchema}
use Rattle.table_test.specs.TablesTest.{tables_pass, TestedTables}
use Rattle.table_test.proofs.Laws.TablesTest.{tested-tables}
use Rattle.state_test.specs.StateTest.{PathFilled, state_valid, lent_tables_pass, fixed_in, state_in}

module _ (deck schema elements model log : List ℕ) where
  -- tables that pass are what their own test finds
  pub passed-tables : lent_tables_pass deck schema elements model log ≡ true → TestedTables (length deck) schema elements model log
  unfolding lent_tables_pass
  passed-tables p =
      tested-tables (length deck) schema elements model log
      ((and-eq-true_iff (tables_pass (length deck) schema elements model log) (state_valid (fixed_in deck schema elements) (state_in model log))).0 p).0

  pub lent-stop : tables_pass (length deck) schema elements model log ≡ false → false ≡ lent_tables_pass deck schema elements model log
  unfolding lent_tables_pass
  lent-stop e = rw (lent_tables_pass, e)

  pub lent-last : tables_pass (length deck) schema elements model log ≡ true → {r : Bool}
      → r ≡ state_valid (fixed_in deck schema elements) (state_in model log) → r ≡ lent_tables_pass deck schema elements model log
  unfolding lent_tables_pass
  lent-last e g = g ∙ rw (lent_tables_pass, e)

-- the paths of the rows of a schema that passes
pub paths-filled : (xs : List ℕ) → TestedSchema xs → Each PathFilled (schema_of xs).sub_elements
paths-filled xs t = each-imp RowIn PathFilled (schema_of xs).sub_elements (λ r k. k.1) t.rows

-- its files
pub files-low : (low : ℕ) (fs : List File) → FilesIn low fs → Each (λ (d : File). d.file < file_limit) fs
files-low low [] h = tt
files-low low (f ∷ fs) h = (h.1, files-low (f.file + 1) fs h.3)

-- their versions,
module _ (f : FileNumber) where
  version-in : (low : ℕ) (fs : List File) → FilesIn low fs
      → elim (first_of (λ (d : File). eqb d.file f) fs) [ none ↦ 0 | some d ↦ d.version ] < version_limit
  unfolding first_of
  version-in low [] h = omega arith
  version-in low (d ∷ fs) h =
      bool_case (λ (o : Option File). elim o [ none ↦ 0 | some d ↦ d.version ] < version_limit) (eqb d.file f) (λ _. h.2)
      (λ _. version-in (d.file + 1) fs h.3)

  pub version_low : (xs : List ℕ) → TestedSchema xs → version_of (schema_of xs) f < version_limit
  unfolding version_of
  version_low xs t = version-in 0 (schema_of xs).files t.files

least-from : (s : FileSet) (v : Version) (fs : List File) → least_from s v fs ≤ v
unfolding least_from
least-from s v [] = omega arith
least-from s v (d ∷ fs) =
    bool_case (λ (w : Version). least_from s w fs ≤ v) (holds s d.file) (λ _. omega (arith, least-from s (min v d.version) fs))
    (λ _. least-from s v fs)

pub least-low : (sc : Schema) (s : FileSet) (v : Version) → least_version sc s v ≤ v
unfolding least_version
least-low sc s v = least-from s v sc.files

-- and of the trees
pub trees-low : (n : ℕ) (ts : List Tree) → Each (TreeIn n) ts → Each (λ (t : Tree). t.file < file_limit) ts
trees-low n ts h = each-imp (TreeIn n) (λ (t : Tree). t.file < file_limit) ts (λ t k. k.0) h
