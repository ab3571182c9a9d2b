-- The test of a log table: a table that passes is the encoding of what it says. Assumes nothing.
use mathlib.Core.Bool.{true}
use mathlib.Core.List.{List, ◌∷◌, reverse-reverse}
use mathlib.Core.Path.{◌≡◌, sym, ap, ◌∙◌}
use Prim.Native.Nat.{ℕ, zero, suc, ◌≤◌}
use native.Mathlib.Omega.{arith}
use borrow.Author.Tests.{eqb-true, leb-true, ltb-true}
use lib.ListN.{length, get_or, drop, replicate, length-drop, length-reverse}
use lib.Seq.{drop-cons}
use Rattle.tables.specs.Cells.{Each, cells, rows_of, between}
use Rattle.tables.specs.Limits.{element_limit, file_limit, log_limit}
use Rattle.tables.specs.Records.{Entry, import, restriction, extension}
use Rattle.tables.specs.ModelTable.{cell_parent, ParentBelow}
use Rattle.tables.specs.LogTable.{entries_at, log_size, old_set_at, entry_width, entry_cells, entry_from, entry_of, encode_log, log_of, EntryFits}
use Rattle.table_test.specs.RowTests.{every, entry_tests}
use Rattle.table_test.specs.AreaTest.{row_passes}
use Rattle.table_test.specs.LogTest.{log_tests, is_log_table, EntryIn, TestedLog}
use Rattle.table_test.specs.declared.area_test.Area.TheVariants.{Entries}
use Rattle.tables.specs.FileSets.{no_set}
use Rattle.tables.specs.SetCells.{set_width, set_cells, cells_set}
use Rattle.tables.proofs.Laws.Cells.{each-imp, each-reverse, length-rows_of}
use Rattle.tables.proofs.Laws.ModelTable.{parent-weaker}
use Rattle.tables.proofs.Laws.LogTable.{wide-entry}
use Rattle.tables.proofs.Laws.SetCells.{set-again, no-set-cells}
use Rattle.table_test.proofs.Laws.ModelTest.{zeros-are, parent_cell-back}
use Rattle.table_test.proofs.Laws.RowsTest.{every-at, cells-from}
use Rattle.table_test.proofs.Laws.AreaTest.{area-parts, area-last, area-each}

-- ---- an entry that passes

parent_in : (n c : ℕ) → c ≤ n → ParentBelow n (cell_parent c)
unfolding cell_parent
parent_in n zero h = tt
parent_in n (suc p) h = h

-- four cells, then those of the old set
abbrev entry_row : ℕ → ℕ → ℕ → ℕ → List ℕ → List ℕ
entry_row k e p o set = k ∷ e ∷ p ∷ o ∷ set

entry-again : (n k e p o : ℕ) (set : List ℕ) → length set ≡ set_width → every (entry_tests n (entry_row k e p o set)) ≡ true
    → entry_cells (entry_from k e p o (cells_set set)) ≡ entry_row k e p o set
unfolding entry_cells entry_from
entry-again n zero e p o set w h = rw (parent_cell-back o, set-again set w)
entry-again n (suc zero) e p o set w h =
    let t = every-at (entry_tests n (entry_row 1 e p o set)) h in
    let a : p ≡ 0 = eqb-true p 0 (t 3) in
    let b : o ≡ 0 = eqb-true o 0 (t 6) in
    rw (a, b, set-again set w)
entry-again n (suc (suc zero)) e p o set w h =
    let t = every-at (entry_tests n (entry_row 2 e p o set)) h in
    let b : o ≡ 0 = eqb-true o 0 (t 6) in
    let z : set ≡ set_cells no_set = zeros-are set (t 7) ∙ ap (λ (k : ℕ). replicate k 0) w ∙ sym no-set-cells in
    rw (b, z)
entry-again n (suc (suc (suc k))) e p o set w h =
    let a = leb-true (suc (suc (suc k))) 2 (every-at (entry_tests n (entry_row (suc (suc (suc k))) e p o set)) h 0) in
    absurd (omega arith)

entry_in : (n k e p o : ℕ) (set : List ℕ) → every (entry_tests n (entry_row k e p o set)) ≡ true → EntryIn n (entry_from k e p o (cells_set set))
unfolding entry_from
entry_in n zero e p o set h =
    let t = every-at (entry_tests n (entry_row 0 e p o set)) h in
    (ltb-true e n (t 1), ltb-true p n (t 2), parent_in n o (leb-true o n (t 5)))
entry_in n (suc zero) e p o set h = ltb-true e n (every-at (entry_tests n (entry_row 1 e p o set)) h 1)
entry_in n (suc (suc zero)) e p o set h =
    let t = every-at (entry_tests n (entry_row 2 e p o set)) h in
    (ltb-true e n (t 1), ltb-true p file_limit (t 4))
entry_in n (suc (suc (suc k))) e p o set h =
    let a = leb-true (suc (suc (suc k))) 2 (every-at (entry_tests n (entry_row (suc (suc (suc k))) e p o set)) h 0) in
    absurd (omega arith)

-- numbers below a count within the limit
pub entry-weaker : (n : ℕ) (x : Entry) → n ≤ element_limit → EntryIn n x → EntryFits x
entry-weaker n (import e p o s) k h = (omega (arith, h.0), omega (arith, h.1), parent-weaker n element_limit o k h.2)
entry-weaker n (restriction e s) k h = omega arith
entry-weaker n (extension e f) k h = (omega (arith, h.0), h.1)

row-entry : (n : ℕ) (r : List ℕ) → length r ≡ entry_width → row_passes (Entries n) r ≡ true → entry_cells (entry_of r) ≡ r
unfolding row_passes entry_of
row-entry n r e h =
    let d = length-drop old_set_at r in
    entry-again n (get_or r 0 0) (get_or r 1 0) (get_or r 2 0) (get_or r 3 0) (drop old_set_at r) (omega arith) h ∙ sym (cells-from r 0 old_set_at (omega arith))

row_in : (n : ℕ) (r : List ℕ) → length r ≡ entry_width → row_passes (Entries n) r ≡ true → EntryIn n (entry_of r)
unfolding row_passes entry_of
row_in n r e h = entry_in n (get_or r 0 0) (get_or r 1 0) (get_or r 2 0) (get_or r 3 0) (drop old_set_at r) h

-- ---- a table that passes

module _ (n : ℕ) (xs : List ℕ) (h : is_log_table n xs ≡ true) where
  tested : (i : ℕ) → get_or (log_tests n xs) i true ≡ true
  unfolding is_log_table
  tested = every-at (log_tests n xs) h

  size : length xs ≡ log_size
  size = eqb-true (length xs) log_size (tested 0)

  area-cells : drop entries_at xs ≡ cells entry_width log_limit entry_cells (rows_of entry_width (get_or xs 0 0) entry_of (drop entries_at xs))
  area-cells = area-last (Entries n) entries_at (get_or xs 0 0) xs (omega (arith, size)) (tested 1) entry_of entry_cells wide-entry (row-entry n) size

  log-length : length (log_of xs) ≡ get_or xs 0 0
  unfolding log_of
  log-length =
      length-reverse (rows_of entry_width (get_or xs 0 0) entry_of (drop entries_at xs)) ∙ length-rows_of entry_width entry_cells wide-entry entry_of (get_or xs 0 0) (drop entries_at xs)

  raw : xs ≡ encode_log (log_of xs)
  unfolding encode_log log_of
  raw =
      let rows = rows_of entry_width (get_or xs 0 0) entry_of (drop entries_at xs) in
      rw (log-length, reverse-reverse rows, ← area-cells) (drop-cons xs 0 0 (omega (arith, size)))

  entries-in : Each (EntryIn n) (log_of xs)
  unfolding log_of
  entries-in =
      each-reverse (EntryIn n) (rows_of entry_width (get_or xs 0 0) entry_of (drop entries_at xs))
      (area-each (Entries n) entries_at (get_or xs 0 0) xs (omega (arith, size)) (tested 1) entry_of (EntryIn n) (row_in n))

pub tested-log : (n : ℕ) (xs : List ℕ) → n ≤ element_limit → is_log_table n xs ≡ true → TestedLog n xs
tested-log n xs few h =
    let e = entries-in n xs h in
    record {
      good = record {
        size = size n xs h;
        raw = raw n xs h;
        sized = record {
          fits = rw (log-length n xs h) (area-parts (Entries n) (get_or xs 0 0) (between entries_at log_size xs) (tested n xs h 1)).0;
          parts = each-imp (EntryIn n) EntryFits (log_of xs) (λ x k. entry-weaker n x few k) e;
        };
      };
      entries = e;
    }
