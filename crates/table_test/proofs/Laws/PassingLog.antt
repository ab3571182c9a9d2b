-- The table of a log whose entries are in their ranges passes. Assumes nothing.
use mathlib.Core.Bool.{true}
use mathlib.Core.List.{List, [], ◌++◌, reverse, append-nil}
use mathlib.Core.Option.{Option, none, some}
use mathlib.Core.Path.{◌≡◌, sym, ap, ◌∙◌}
use Prim.Native.Nat.{ℕ, ◌≤◌}
use native.Mathlib.Omega.{arith}
use borrow.Author.Tests.{eq-eqb, le-leb, lt-ltb}
use lib.ListN.{length, drop, length-reverse}
use Rattle.tables.specs.Cells.{cells}
use Rattle.tables.specs.Limits.{file_limit, log_limit}
use Rattle.tables.specs.Lists.{all_of}
use Rattle.tables.specs.Records.{Entry, import, restriction, extension, Log}
use Rattle.tables.specs.ModelTable.{parent_cell, ParentBelow}
use Rattle.tables.specs.LogTable.{entries_at, log_size, entry_width, entry_cells, encode_log}
use Rattle.table_test.specs.ModelTest.{is_zero}
use Rattle.table_test.specs.AreaTest.{row_passes}
use Rattle.table_test.specs.declared.area_test.Area.TheVariants.{Entries}
use Rattle.table_test.specs.LogTest.{is_log_table, EntryIn}
use Rattle.table_test.specs.Passing.{LogIn}
use Rattle.tables.specs.FileSets.{no_set}
use Rattle.tables.specs.SetCells.{set_width, set_cells}
use Rattle.tables.proofs.Laws.Cells.{each-imp, each-reverse}
use Rattle.tables.proofs.Laws.SetCells.{no-set-cells}
use Rattle.tables.proofs.Laws.LogTable.{wide-entry, log-size}
use Rattle.table_test.proofs.Laws.ModelTest.{all-zeros}
use Rattle.table_test.proofs.Laws.PassingRows.{area-passes}

parent-most : (n : ℕ) (o : Option ℕ) → ParentBelow n o → parent_cell o ≤ n
unfolding parent_cell
parent-most n none h = omega arith
parent-most n (some p) h = h

no-set-zero : all_of is_zero (set_cells no_set) ≡ true
no-set-zero = ap (all_of is_zero) no-set-cells ∙ all-zeros set_width

entry-passes : (n : ℕ) (x : Entry) → EntryIn n x → row_passes (Entries n) (entry_cells x) ≡ true
unfolding row_passes entry_cells
entry-passes n (import e p o s) h = rw (lt-ltb e n h.0, lt-ltb p n h.1, le-leb (parent_cell o) n (parent-most n o h.2))
entry-passes n (restriction e s) h = rw (lt-ltb e n h)
entry-passes n (extension e f) h = rw (lt-ltb e n h.0, lt-ltb f file_limit h.1, no-set-zero)

from_entries : (l : Log) → drop entries_at (encode_log l) ≡ cells entry_width log_limit entry_cells (reverse l) ++ []
unfolding encode_log
from_entries l = sym (append-nil (cells entry_width log_limit entry_cells (reverse l)))

pub log-passes : (n : ℕ) (l : Log) → LogIn n l → is_log_table n (encode_log l) ≡ true
unfolding is_log_table encode_log
log-passes n l h =
    let s = h.sized in
    let xs : List ℕ = encode_log l in
    let few : length (reverse l) ≤ log_limit = simp length-reverse s.fits in
    rw (
      eq-eqb (length xs) log_size (log-size l s),
      area-passes (Entries n) entry_cells wide-entry (reverse l) few xs [] entries_at (from_entries l) (length l) (sym (length-reverse l))
          (each-reverse (λ (x : Entry). row_passes (Entries n) (entry_cells x) ≡ true) l
          (each-imp (EntryIn n) (λ (x : Entry). row_passes (Entries n) (entry_cells x) ≡ true) l (entry-passes n) h.entries)),
    )
