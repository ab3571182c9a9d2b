-- The test of an elements table, the part of refusal 0 that needs this table, the number of types and the deck's length alone.
-- Assumes nothing.
use Rattle.std.specs.Prelude.{Bool, List, [], ◌∷◌, ℕ, ◌+◌, ◌≤◌, ◌<◌, eqb, length, get_or}
use Rattle.tables.specs.Cells.{between, Each}
use Rattle.tables.specs.Limits.{file_limit, depth_limit, name_limit, enum_limit}
use Rattle.tables.specs.Records.{Text, enum_number, string, whole_number, float, Tree}
use Rattle.tables.specs.ElementsTable.{elements_size, elements_at, texts_at, trees_at, elements_of, GoodElements}
use Rattle.table_test.specs.RowTests.{every}
use Rattle.table_test.specs.AreaTest.{area_passes}
use Rattle.table_test.specs.declared.area_test.Area.TheVariants as area

-- the size, and the areas of elements, texts and trees, each with its count
abbrev pub elements_tests : ℕ → ℕ → List ℕ → List Bool
elements_tests types size xs =
    eqb (length xs) elements_size
    ∷ area_passes (area.Elements types) (get_or xs 0 0) (between elements_at texts_at xs)
    ∷ area_passes (area.Texts size) (get_or xs 1 0) (between texts_at trees_at xs)
    ∷ area_passes (area.Trees (get_or xs 0 0)) (get_or xs 2 0) (between trees_at elements_size xs)
    ∷ []

unfoldable pub is_elements_table : ℕ → ℕ → List ℕ → Bool
is_elements_table types size xs = every (elements_tests types size xs)

-- an enum number in its range, a string that stands in the deck
abbrev pub TextIn : ℕ → Text → Type 0
TextIn size (enum_number v) = v ≤ enum_limit
TextIn size (string p) = p.start + p.size ≤ size
TextIn size (whole_number v) = Unit {0}
TextIn size (float v) = Unit {0}

abbrev pub TreeIn : ℕ → Tree → Type 0
TreeIn n t = (t.file < file_limit) × (t.root < n)

-- what a table that passes is
pub record TestedElements (types size : ℕ) (xs : List ℕ) : Type 0 where
  pub good : GoodElements xs
  pub names : Each (λ (n : ℕ). n ≤ name_limit) (elements_of xs).names
  pub types_in : Each (λ (t : ℕ). t < types) (elements_of xs).types
  pub depths : Each (λ (d : ℕ). d ≤ depth_limit) (elements_of xs).depths
  pub texts : Each (TextIn size) (elements_of xs).texts
  pub trees : Each (TreeIn (length (elements_of xs).names)) (elements_of xs).trees
