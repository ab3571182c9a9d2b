-- The answers of the calls as numbers, for callers in C and Rust: a code, and four numbers in a lent answer, 0 where there is nothing to say.
-- Assumes nothing.
use Rattle.std.specs.Prelude.{Result, Ok, Err, true, false, List, [], ◌∷◌, ℕ, eqb, length}
use Rattle.std.proofs.Math.Option.{Option, none, some}
use Rattle.tables.specs.LogTable.{log_of}
use Rattle.load.specs.Lines.{refusal_number}
use Rattle.load.specs.LoadCall.{Answer, Loaded, Refused}
use Rattle.load.specs.declared.refusals.LoadError.{LoadError}
use Rattle.state_test.specs.StateTest.{lent_tables_pass}
use Rattle.merge_rules.specs.Calls.{MergeAnswer, merged, merge_refused, RangeAnswer, range_is, range_refused, RollbackAnswer, taken_off, rollback_refused}
use Rattle.merge_rules.specs.Refusals.{Refusal, refusal_fields}
use Rattle.merge_rules.specs.TableCalls.{CallAnswer, bad_tables, answered}
use Rattle.merge_log.specs.Answers.{refusal_is}
use Rattle.merge.specs.declared.calls.CallError.{CallError}
use Rattle.merge.specs.declared.calls.CallError.TheVariants.{BadTables, Refused as CallRefused}
use Rattle.answer_numbers.specs.declared.numbers.LoadRefused.{LoadRefused}
use Rattle.answer_numbers.specs.declared.numbers.Numbers as program

abbrev pub answer_size : ℕ
answer_size = 4

-- the code is the call's result
pub record Numbered : Type 0 where
  pub code : ℕ
  pub numbers : List ℕ

abbrev pub numbered : ℕ → List ℕ → Numbered
numbered code numbers = record { code = code; numbers = numbers }

-- a number that no refusal has
abbrev pub accepted_code : ℕ
accepted_code = 255

abbrev pub accept : ℕ → ℕ → ℕ → ℕ → Numbered
accept a b c d = numbered accepted_code (a ∷ b ∷ c ∷ d ∷ [])

-- the code is the refusal's number, with which the answer begins
abbrev pub refuse : ℕ → ℕ → ℕ → Numbered
refuse number a b = numbered number (number ∷ a ∷ b ∷ 0 ∷ [])

abbrev pub numbers_is : program.Numbers → Numbered
numbers_is n = numbered n.code (n.first ∷ n.second ∷ n.third ∷ n.fourth ∷ [])

-- ---- the lent answer

-- Every call first: 0, a lent table of a wrong size. What is left where the answer has its size, and where it has not
abbrev pub by_answer : {A : Type 0} → List ℕ → A → A → A
by_answer answer left left_by0 = elim (eqb (length answer) answer_size) [ true ↦ left | false ↦ left_by0 ]

-- Only load then writes.
abbrev pub refused_by0 : List ℕ → Numbered
refused_by0 answer = numbered 0 answer

-- ---- the answers

unfoldable pub or_zero : Option ℕ → ℕ
or_zero none = 0
or_zero (some n) = n

-- number, element, name
unfoldable pub refusal_numbers : Refusal → Numbered
refusal_numbers r = let f = refusal_fields r in refuse f.number (or_zero f.element) (or_zero f.name)

-- why a call is not done; refusal 0 has neither element nor name
abbrev pub error_numbers : CallError → Numbered
error_numbers BadTables = refuse 0 0 0
error_numbers (CallRefused r) = refusal_numbers (refusal_is r)

-- number, line
unfoldable pub load_numbers : Answer → Numbered
load_numbers Loaded = accept 0 0 0 0
load_numbers (Refused number line) = refuse number line 0

-- what a load answers, its refusal by number
unfoldable pub refused_answer : Result (Unit {0}) LoadRefused → Answer
refused_answer (Ok u) = Loaded
refused_answer (Err r) = Refused r.number r.line

abbrev pub load_refused : LoadError → LoadRefused
load_refused e = record { number = refusal_number e.refusal; line = e.line }

-- imports, restrictions, extensions
unfoldable pub merge_numbers : CallAnswer MergeAnswer → Numbered
merge_numbers bad_tables = refuse 0 0 0
merge_numbers (answered (merged c)) = accept c.imports c.restrictions c.extensions 0
merge_numbers (answered (merge_refused r)) = refusal_numbers r

-- first and last place
unfoldable pub range_numbers : CallAnswer RangeAnswer → Numbered
range_numbers bad_tables = refuse 0 0 0
range_numbers (answered (range_is first last)) = accept first last 0 0
range_numbers (answered (range_refused r)) = refusal_numbers r

-- entries taken off
unfoldable pub rollback_numbers : CallAnswer RollbackAnswer → Numbered
rollback_numbers bad_tables = refuse 0 0 0
rollback_numbers (answered (taken_off n)) = accept n 0 0 0
rollback_numbers (answered (rollback_refused r)) = refusal_numbers r

-- the mark of now is the log's length
unfoldable pub mark_numbers : List ℕ → List ℕ → List ℕ → List ℕ → List ℕ → Numbered
mark_numbers deck schema elements model log =
    elim (lent_tables_pass deck schema elements model log) [ true ↦ accept (length (log_of log)) 0 0 0 | false ↦ refuse 0 0 0 ]
