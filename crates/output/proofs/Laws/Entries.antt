-- Laws of the log's lines: the entries written in turn, the oldest first. Assumes nothing.
use mathlib.Core.List.{List, [], ◌++◌}
use mathlib.Core.Option.{some}
use mathlib.Core.Path.{◌≡◌, ap}
use Prim.Native.Nat.{ℕ, suc, ◌+◌, ◌-◌, ◌≤◌, ◌<◌}
use native.Mathlib.Omega.{arith}
use lib.ListN.{length, drop, drop_of_length-le}
use lib.Seq.{drop-cons}
use Rattle.std.specs.Prelude as program
use Rattle.std.specs.Prelude.{Some, None, IsSomeAnd}
use Rattle.std.specs.Option.{MatchOption}
use Rattle.tables.specs.Bytes.{bytes}
use Rattle.tables.specs.declared.numbers.Element as numbers
use Rattle.tables.specs.ModelTable.{parent_is}
use Rattle.merge_log.specs.Refusals.{optional_is}
use Rattle.tables.specs.LogTable.{no_entry, entry_at}
use Rattle.tables.specs.Records.{Entry, Log}
use Rattle.merge_rules.specs.CallLists.{entry_line, entry_lines, log_lines}
use Rattle.merge_rules.specs.Program.{decimal_of, line_of}

-- the number of the old parent, if there is one
pub number-of : {P : numbers.Element → ℕ → Type 0} (p : program.Option numbers.Element) (r : program.Option ℕ) → MatchOption p (r ≡ None) (λ x. IsSomeAnd r (P x))
    → ((x : numbers.Element) (n : ℕ) → P x n → n ≡ x.0) → optional_is r ≡ parent_is p
number-of None r h k = ap optional_is h
number-of (Some x) (Some n) h k = ap some (k x n h)
number-of (Some x) None h k = absurd h

-- the lines of the oldest i entries
unfoldable pub lines_to : Log → ℕ → List ℕ
lines_to l i = entry_lines (drop (length l - i) l)

module _ (l : Log) where
  pub no_lines : lines_to l 0 ≡ []
  unfolding lines_to entry_lines
  no_lines = ap entry_lines (drop_of_length-le l {i = length l - 0} (omega arith))

  pub line-more : (i : ℕ) {a : Entry} → i < length l → a ≡ entry_at l i → lines_to l i ++ entry_line a ≡ lines_to l (i + 1)
  unfolding lines_to entry_lines
  line-more i h g =
      let j = length l - suc i in
      let z : length l - i ≡ suc j = omega arith in
      let k : length l - (i + 1) ≡ j = omega arith in
      rw (g, z, k, drop-cons l j no_entry (omega arith))

  pub log-parts : {n i : ℕ} → n ≡ length l → n ≤ i → bytes "log," ++ (decimal_of n ++ bytes "\n") ++ lines_to l i ≡ log_lines l
  unfolding lines_to log_lines line_of bytes
  log-parts {n} {i} e h = let z : length l - i ≡ 0 = omega arith in rw (z, e)
