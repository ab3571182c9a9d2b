-- The test of a log table, the part of refusal 0 that needs this table and the number n of elements alone. Assumes nothing.
use Rattle.std.specs.Prelude.{Bool, List, [], ◌∷◌, ℕ, ◌<◌, eqb, length, get_or}
use Rattle.tables.specs.Cells.{between, Each}
use Rattle.tables.specs.Limits.{file_limit}
use Rattle.tables.specs.Records.{Entry, import, restriction, extension}
use Rattle.tables.specs.ModelTable.{ParentBelow}
use Rattle.tables.specs.LogTable.{entries_at, log_size, log_of, GoodLog}
use Rattle.table_test.specs.RowTests.{every}
use Rattle.table_test.specs.AreaTest.{area_passes}
use Rattle.table_test.specs.declared.area_test.Area.TheVariants.{Entries}

-- the size, and the area of entries with its count
abbrev pub log_tests : ℕ → List ℕ → List Bool
log_tests n xs = eqb (length xs) log_size ∷ area_passes (Entries n) (get_or xs 0 0) (between entries_at log_size xs) ∷ []

unfoldable pub is_log_table : ℕ → List ℕ → Bool
is_log_table n xs = every (log_tests n xs)

-- the numbers of an entry are those of the n elements and of files
abbrev pub EntryIn : ℕ → Entry → Type 0
EntryIn n (import e p old_parent old_set) = (e < n) × (p < n) × ParentBelow n old_parent
EntryIn n (restriction e old_set) = e < n
EntryIn n (extension e f) = (e < n) × (f < file_limit)

-- what a table that passes is
pub record TestedLog (n : ℕ) (xs : List ℕ) : Type 0 where
  pub good : GoodLog xs
  pub entries : Each (EntryIn n) (log_of xs)
