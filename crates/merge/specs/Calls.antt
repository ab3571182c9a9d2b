-- What the answers of the calls stand for in the rules. Assumes nothing.
use Rattle.std.specs.Prelude as program
use Rattle.std.specs.Prelude.{Some, None, Result, Ok, Err, List, ◌≡◌, ℕ, ◌+◌, ◌<◌}
use Rattle.std.proofs.Math.Option.{Option, none, some}
use Rattle.tables.specs.Limits.{file_limit}
use Rattle.tables.specs.Records.{FileNumber, Tree}
use Rattle.tables.specs.declared.numbers.Element.{Element}
use Rattle.merge_rules.specs.Calls as rules
use Rattle.merge_rules.specs.Calls.{range_refused, merged, merge_refused, taken_off, rollback_refused, counts_of, entries_above}
use Rattle.merge_rules.specs.Refusals.{Refusal, Outcome, done, conflict, refused, unmergeable}
use Rattle.merge_rules.specs.TableCalls.{CallAnswer, bad_tables, answered, CallResult, encoded_result}
use Rattle.merge_log.specs.Answers.{refusal_is}
use Rattle.merge_log.specs.declared.refusals.Refusal as refusals
use Rattle.merge_log.specs.declared.refusals.Refusal.TheVariants.{Unmergeable}
use Rattle.merge_log.specs.declared.refusals.Halt.{Halt}
use Rattle.merge_log.specs.declared.refusals.Halt.TheVariants.{Conflict, Refused as HaltRefused}
use Rattle.insert_range.specs.declared.range.Bounds.{Bounds}
use Rattle.merge.specs.declared.calls.CallError.{CallError}
use Rattle.merge.specs.declared.calls.CallError.TheVariants.{BadTables, Refused}
use Rattle.merge.specs.declared.counts.Counts.{Counts}

-- the refusal that a merge ends with, where a step of it is not done
abbrev pub halt_refusal : Halt → refusals.Refusal
halt_refusal (Conflict e) = Unmergeable e
halt_refusal (HaltRefused r) = r

-- why a call is not done, where the operation's answer is made of a refusal
abbrev pub call_error_is : {A : Type 0} → (Refusal → A) → CallError → CallAnswer A
call_error_is answer BadTables = bad_tables
call_error_is answer (Refused r) = answered (answer (refusal_is r))

-- ---- range

abbrev pub range_answer_is : Result Bounds CallError → CallAnswer rules.RangeAnswer
range_answer_is (Ok b) = answered (rules.range_is b.first b.last)
range_answer_is (Err e) = call_error_is range_refused e

-- ---- merge

abbrev pub counts_is : Counts → rules.Counts
counts_is c = record { imports = c.imports; restrictions = c.restrictions; extensions = c.extensions }

unfoldable pub plus_counts : rules.Counts → rules.Counts → rules.Counts
plus_counts c d =
    record {
      imports = c.imports + d.imports;
      restrictions = c.restrictions + d.restrictions;
      extensions = c.extensions + d.extensions;
    }

pub record CountsBelow (n : ℕ) (c : Counts) : Type 0 where
  pub imports : c.imports < n
  pub restrictions : c.restrictions < n
  pub extensions : c.extensions < n

abbrev pub merge_answer_is : Result Counts CallError → CallAnswer rules.MergeAnswer
merge_answer_is (Ok c) = answered (merged (counts_is c))
merge_answer_is (Err e) = call_error_is merge_refused e

-- the answer, with the tables that the call left
abbrev pub merge_result : Result Counts CallError → List ℕ → List ℕ → CallResult rules.MergeAnswer
merge_result r model log = record { answer = merge_answer_is r; model = model; log = log }

abbrev pub encoded_merge : rules.Merged → CallResult rules.MergeAnswer
encoded_merge m = encoded_result m.answer m.state

-- an outcome's answer, with the tables that it left, or the old ones
unfoldable pub concluded : List ℕ → List ℕ → ℕ → List ℕ → List ℕ → Outcome → CallResult rules.MergeAnswer
concluded old_model old_log mark model log (done t) =
    record { answer = answered (merged (counts_of (entries_above mark t.log))); model = model; log = log }
concluded old_model old_log mark model log (conflict e t) =
    record { answer = answered (merge_refused (unmergeable e)); model = old_model; log = old_log }
concluded old_model old_log mark model log (refused r) = record { answer = answered (merge_refused r); model = old_model; log = old_log }

-- ---- waiting trees

abbrev pub waiting_is : FileNumber → program.Option Element → Option Tree
waiting_is f (Some e) = some (record { file = f; root = e.0 })
waiting_is f None = none

abbrev pub WaitingIn : ℕ → FileNumber → program.Option Element → Type 0
WaitingIn n f (Some e) = (f < file_limit) × (e.0 < n)
WaitingIn n f None = Unit {0}

-- r is the rule's tree of the file, its root one of n elements
pub record FindsTree (n : ℕ) (f : FileNumber) (r : program.Option Element) (o : Option Tree) : Type 0 where
  pub is : waiting_is f r ≡ o
  pub within : WaitingIn n f r

-- ---- rollback

abbrev pub rollback_answer_is : Result ℕ CallError → CallAnswer rules.RollbackAnswer
rollback_answer_is (Ok n) = answered (taken_off n)
rollback_answer_is (Err e) = call_error_is rollback_refused e

-- the answer, with the tables that the call left
abbrev pub rollback_result : Result ℕ CallError → List ℕ → List ℕ → CallResult rules.RollbackAnswer
rollback_result r model log = record { answer = rollback_answer_is r; model = model; log = log }
