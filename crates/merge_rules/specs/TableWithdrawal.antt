-- Demand 3 of the calls on lent tables: one claim about a whole list of calls after a load. Assumes nothing.
use Rattle.std.specs.Prelude.{Bool, true, false, List, [], ◌∷◌, ◌++◌, ◌≡◌, ℕ, length}
use Rattle.tables.specs.Lists.{any_of, sum}
use Rattle.tables.specs.LogTable.{log_of}
use Rattle.load.specs.LoadCall.{Tables, tables_of, load_call, Loaded}
use Rattle.merge_rules.specs.Book.{Call, call_merge, call_rollback, call_range, Answer, of_merge, of_rollback, of_range}
use Rattle.merge_rules.specs.Calls.{taken_off}
use Rattle.merge_rules.specs.TableCalls.{CallAnswer, bad_tables, answered, CallResult, merge_call, rollback_call, range_call}
use Rattle.merge_rules.specs.Withdrawal.{Answered, book_after, goes_below}

-- ---- one call

-- its answer, and all lent tables as it leaves them
pub record TablesCalled : Type 0 where
  pub answer : CallAnswer Answer
  pub tables : Tables

module _ {A : Type 0} where
  unfoldable pub answer_as : (A → Answer) → CallAnswer A → CallAnswer Answer
  answer_as kind bad_tables = bad_tables
  answer_as kind (answered a) = answered (kind a)

  -- merge and rollback write model and log; no call writes schema or elements
  abbrev pub written_into : Tables → (A → Answer) → CallResult A → TablesCalled
  written_into t kind r = record { answer = answer_as kind r.answer; tables = tables_of t.schema t.elements r.model r.log }

unfoldable pub call_on : List ℕ → Call → Tables → TablesCalled
call_on deck (call_merge f) t = written_into t of_merge (merge_call deck t.schema t.elements t.model t.log f)
call_on deck (call_rollback mark) t = written_into t of_rollback (rollback_call deck t.schema t.elements t.model t.log mark)
call_on deck (call_range e n v) t =
    record { answer = answer_as of_range (range_call deck t.schema t.elements t.model t.log e n v); tables = t }

-- ---- lists of calls

-- Each call works on all lent tables as the load or the call before left them.
unfoldable pub tables_after : List ℕ → List Call → Tables → Tables
tables_after deck [] t = t
tables_after deck (c ∷ cs) t = tables_after deck cs (call_on deck c t).tables

-- a call with the answer it was given, 0 too
pub record CallAnswered : Type 0 where
  pub asked : Call
  pub answer : CallAnswer Answer

unfoldable pub history_on : List ℕ → List Call → Tables → List CallAnswered
history_on deck [] t = []
history_on deck (c ∷ cs) t = let r = call_on deck c t in record { asked = c; answer = r.answer } ∷ history_on deck cs r.tables

-- the calls that were not refused 0, with their answers
unfoldable pub answers_of : List CallAnswered → List Answered
answers_of [] = []
answers_of (d ∷ ds) =
    elim d.answer [
      | bad_tables ↦ answers_of ds
      | answered a ↦ record { asked = d.asked; answer = a } ∷ answers_of ds
    ]

unfoldable pub is_bad_tables : CallAnswer Answer → Bool
is_bad_tables bad_tables = true
is_bad_tables (answered a) = false

-- some call was refused 0
unfoldable pub any_bad_tables : List CallAnswered → Bool
any_bad_tables ds = any_of (λ (d : CallAnswered). is_bad_tables d.answer) ds

-- ---- the claim

-- the mark that the tables stand at: the length of the log in them
abbrev pub mark_in : Tables → ℕ
mark_in t = length (log_of t.log)

-- of the tables at the mark and at the end, and of the answers before the mark and since
pub record TablesWithdrawn (deck : List ℕ) (at_mark at_end : Tables) (before since : List CallAnswered) : Type 0 where
  -- no call of either list was refused 0
  pub no_bad_tables : any_bad_tables (before ++ since) ≡ false
  -- the merges accepted since the mark and still standing, each by imports + restrictions + extensions as it reported them
  pub sums_since : List ℕ
  -- they are what the book, kept from the calls' arguments and answers alone, has at the end above what it had at the mark
  pub book : book_after (answers_of since) (book_after (answers_of before) []) ≡ sums_since ++ book_after (answers_of before) []
  -- One more rollback, to the mark, is accepted. The number of entries it reports taken off is their sum.
  pub accepted : (call_on deck (call_rollback (mark_in at_mark)) at_end).answer ≡ answered (of_rollback (taken_off (sum sums_since)))
  -- It leaves every content list, parent and file set of every element, in the model and in the delivered trees, and the log equal to
  -- what they were at the mark: all four tables, cell by cell.
  pub tables : (call_on deck (call_rollback (mark_in at_mark)) at_end).tables ≡ at_mark

-- any list of calls from these tables, a mark at its end, and any later list with no accepted rollback below the mark
abbrev pub TablesWithdrawnFrom : List ℕ → Tables → Type 0
TablesWithdrawnFrom deck t =
    (before after : List Call)
    → goes_below (mark_in (tables_after deck before t)) (answers_of (history_on deck after (tables_after deck before t))) ≡ false
    → TablesWithdrawn deck (tables_after deck before t) (tables_after deck after (tables_after deck before t)) (history_on deck before t)
    (history_on deck after (tables_after deck before t))

-- Take any deck that loads, into any tables.
abbrev pub Demand3OnTables : Type 0
Demand3OnTables = (deck : List ℕ) (t : Tables) → (load_call deck t).answer ≡ Loaded → TablesWithdrawnFrom deck (load_call deck t).tables
