-- The test of an area of a table: at most so many rows of one width, each of which passes, and zeros behind them. Assumes nothing.
use Rattle.std.specs.Prelude.{Bool, ◌&&◌, List, ℕ, ◌*◌, leb, drop}
use Rattle.tables.specs.Cells.{rows_of}
use Rattle.tables.specs.Limits.{type_limit, group_limit, row_limit, file_limit, element_limit, item_limit, log_limit}
use Rattle.tables.specs.Lists.{all_of}
use Rattle.tables.specs.ElementsTable.{element_width, text_width, tree_width}
use Rattle.tables.specs.LogTable.{entry_width}
use Rattle.tables.specs.SchemaTable.{type_width, group_width, row_width, file_width}
use Rattle.table_test.specs.ModelTest.{is_zero}
use Rattle.table_test.specs.RowTests.{every, type_tests, group_tests, sub_element_tests, file_tests, element_tests, text_tests, tree_tests, entry_tests}
use Rattle.table_test.specs.declared.area_test.Area.{Area}
use Rattle.table_test.specs.declared.area_test.Area.TheVariants.{Types, Groups, SubElements, Files, Elements, Texts, Trees, Entries}

-- ---- what each area holds

-- cells of a row
abbrev pub area_width : Area → ℕ
area_width Types = type_width
area_width Groups = group_width
area_width SubElements = row_width
area_width Files = file_width
area_width (Elements types) = element_width
area_width (Texts size) = text_width
area_width (Trees n) = tree_width
area_width (Entries n) = entry_width

-- the most rows
abbrev pub area_limit : Area → ℕ
area_limit Types = type_limit
area_limit Groups = group_limit
area_limit SubElements = row_limit
area_limit Files = file_limit
area_limit (Elements types) = element_limit
area_limit (Texts size) = item_limit
area_limit (Trees n) = file_limit
area_limit (Entries n) = log_limit

abbrev pub row_tests : Area → List ℕ → List Bool
row_tests Types row = type_tests row
row_tests Groups row = group_tests row
row_tests SubElements row = sub_element_tests row
row_tests Files row = file_tests row
row_tests (Elements types) row = element_tests types row
row_tests (Texts size) row = text_tests size row
row_tests (Trees n) row = tree_tests n row
row_tests (Entries n) row = entry_tests n row

-- ---- the test

unfoldable pub row_passes : Area → List ℕ → Bool
row_passes k row = every (row_tests k row)

-- the first n rows of width w, each as its cells
abbrev pub rows_in : ℕ → ℕ → List ℕ → List (List ℕ)
rows_in w n area = rows_of w n (λ (r : List ℕ). r) area

-- there is room for n rows, the first n pass, and the cells behind them are zero
unfoldable pub area_passes : Area → ℕ → List ℕ → Bool
area_passes k n area = leb n (area_limit k) && (all_of (row_passes k) (rows_in (area_width k) n area) && all_of is_zero (drop (n * area_width k) area))
