-- The log's table: the count, then the entries, oldest first, then zeros. Assumes nothing.
use Rattle.std.specs.Prelude.{◌≡◌, List, ◌∷◌, reverse, ℕ, zero, suc, ◌+◌, ◌*◌, ◌-◌, ◌≤◌, ◌<◌, length, get_or, drop}
use Rattle.tables.specs.Cells.{cells, rows_of, Each}
use Rattle.tables.specs.FileSets.{no_set}
use Rattle.tables.specs.Limits.{element_limit, file_limit, log_limit}
use Rattle.tables.specs.ModelTable.{parent_is, parent_cell, cell_parent, ParentBelow}
use Rattle.tables.specs.Records.{FileSet, Entry, import, restriction, extension, Log}
use Rattle.tables.specs.SetCells.{set_is, set_width, set_cells, cells_set}
use Rattle.tables.specs.declared.log.Entry as program
use Rattle.tables.specs.declared.log.Entry.TheVariants.{Import, Restriction, Extension}

-- where the old set begins in an entry
abbrev pub old_set_at : ℕ
old_set_at = 4

-- cells of an entry
abbrev pub entry_width : ℕ
entry_width = old_set_at + set_width

-- where the entries begin
abbrev pub entries_at : ℕ
entries_at = 1

-- cells of the table
abbrev pub log_size : ℕ
log_size = entries_at + log_limit * entry_width

-- ---- the program's enum as the records have it

abbrev pub entry_is : program.Entry → Entry
entry_is (Import e p old_parent old_set) = import e.0 p.0 (parent_is old_parent) (set_is old_set)
entry_is (Restriction e old_set) = restriction e.0 (set_is old_set)
entry_is (Extension e f) = extension e.0 f.0

-- ---- an entry's cells

-- kind (0 import, 1 restriction, 2 extension), element, new parent or file, old parent, old set
unfoldable pub entry_cells : Entry → List ℕ
entry_cells (import e p old_parent old_set) = 0 ∷ e ∷ p ∷ parent_cell old_parent ∷ set_cells old_set
entry_cells (restriction e old_set) = 1 ∷ e ∷ 0 ∷ 0 ∷ set_cells old_set
entry_cells (extension e f) = 2 ∷ e ∷ f ∷ 0 ∷ set_cells no_set

-- the entry of a kind, with these parts
unfoldable pub entry_from : ℕ → ℕ → ℕ → ℕ → FileSet → Entry
entry_from zero e p o s = import e p (cell_parent o) s
entry_from (suc zero) e p o s = restriction e s
entry_from (suc (suc k)) e p o s = extension e p

unfoldable pub entry_of : List ℕ → Entry
entry_of xs = entry_from (get_or xs 0 0) (get_or xs 1 0) (get_or xs 2 0) (get_or xs 3 0) (cells_set (drop old_set_at xs))

-- ---- the table

unfoldable pub encode_log : Log → List ℕ
encode_log l = length l ∷ cells entry_width log_limit entry_cells (reverse l)

unfoldable pub log_of : List ℕ → Log
log_of xs = reverse (rows_of entry_width (get_or xs 0 0) entry_of (drop entries_at xs))

-- the numbers of an entry are those of elements and files that a table has room for
abbrev pub EntryFits : Entry → Type 0
EntryFits (import e p old_parent old_set) = (e < element_limit) × (p < element_limit) × ParentBelow element_limit old_parent
EntryFits (restriction e old_set) = e < element_limit
EntryFits (extension e f) = (e < element_limit) × (f < file_limit)

-- what a table can hold
pub record SizedLog (l : Log) : Type 0 where
  pub fits : length l ≤ log_limit
  pub parts : Each EntryFits l

-- the table is the encoding of what it says
pub record GoodLog (xs : List ℕ) : Type 0 where
  pub size : length xs ≡ log_size
  pub raw : xs ≡ encode_log (log_of xs)
  pub sized : SizedLog (log_of xs)

pub record HoldsLog (xs : List ℕ) (l : Log) : Type 0 where
  pub good : GoodLog xs
  pub is : log_of xs ≡ l

abbrev pub no_entry : Entry
no_entry = extension 0 0

-- entry i of the table: the oldest is 0, and the newest stands first in the log
abbrev pub entry_at : Log → ℕ → Entry
entry_at l i = get_or l (length l - suc i) no_entry
