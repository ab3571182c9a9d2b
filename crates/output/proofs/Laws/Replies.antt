-- What the answer to each request leaves, by what the call answered and what was appended. Assumes nothing.
use Rattle.std.specs.Prelude.{Some}
use mathlib.Core.List.{List}
use mathlib.Core.Option.{some}
use mathlib.Core.Path.{◌≡◌, refl, ap, subst}
use Prim.Native.Nat.{ℕ}
use Rattle.tables.specs.LogTable.{log_of, GoodLog}
use Rattle.tables.specs.ModelTable.{model_of}
use Rattle.state_test.specs.StateTest.{fixed_in, state_in}
use Rattle.state_test.proofs.Laws.States.{passed-tables}
use Rattle.merge_rules.specs.Book.{call_merge, call_rollback, call_range}
use Rattle.merge_rules.specs.Calls.{MergeAnswer, RangeAnswer, RollbackAnswer}
use Rattle.merge_rules.specs.CallLists.{Request, of_call, of_model, of_trees, of_log, log_lines, reply}
use Rattle.merge_rules.specs.DeckLines.{trees_lines}
use Rattle.merge_rules.specs.Program.{model_lines}
use Rattle.merge_rules.specs.Standing.{Standing, StandsAt}
use Rattle.merge_rules.specs.TableCalls.{CallAnswer, merge_call, range_call, rollback_call}
use Rattle.merge_rules.proofs.Laws.Standing.{standing-passes, merge-standing, rollback-standing, range-standing}
use Rattle.printing.specs.Buffers.{Buffer, Appends}
use Rattle.printing.specs.TreeLines.{Readable}
use Rattle.printing.proofs.Laws.Buffers.{reads}
use Rattle.printing.proofs.Laws.Tables.{readable-passed}
use Rattle.output.specs.Answers.{merge_text, rollback_text, range_text}
use Rattle.requests.specs.Requests.{request_is}
use Rattle.output.specs.Replies.{Replies}
use Rattle.requests.specs.declared.requests.Request as program
use Rattle.requests.specs.declared.requests.Request.TheVariants.{Merge, Rollback, Range, Model, Trees, Log}

module _ {deck schema elements model log : List ℕ} (h : Standing deck schema elements model log) where
  -- the tables stay as they are
  unchanged : StandsAt deck schema elements model log (state_in model log)
  unchanged = record { is = refl; standing = h }

  -- printing and the log can be read
  pub readable-standing : Readable deck elements model
  readable-standing = readable-passed deck schema elements model log (standing-passes h)

  pub log-standing : GoodLog log
  log-standing = (passed-tables deck schema elements model log (standing-passes h)).log_tested.good

module _ {deck schema elements model log : List ℕ} (h : Standing deck schema elements model log) {before after : Buffer} where
  pub merge-replies : (f : ℕ) {a : CallAnswer MergeAnswer} {model' log' : List ℕ}
      → record { answer = a; model = model'; log = log' } ≡ merge_call deck schema elements model log f → Appends before (merge_text f a) after
      → Replies deck schema elements (state_in model log) (of_call (call_merge f)) before after model' log'
  unfolding reply merge_text
  merge-replies f e p = let k = merge-standing h f e in record { text = reads (ap (merge_text f) k.0) p; state = k.1 }

  pub rollback-replies : (mark : ℕ) {a : CallAnswer RollbackAnswer} {model' log' : List ℕ}
      → record { answer = a; model = model'; log = log' } ≡ rollback_call deck schema elements model log mark → Appends before (rollback_text mark a) after
      → Replies deck schema elements (state_in model log) (of_call (call_rollback mark)) before after model' log'
  unfolding reply rollback_text
  rollback-replies mark e p =
      let k = rollback-standing h mark e in
      record { text = reads (ap (rollback_text mark) k.0) p; state = k.1 }

  pub range-replies : (e n v : ℕ) {a : CallAnswer RangeAnswer} → a ≡ range_call deck schema elements model log e n v → Appends before (range_text e n v a) after
      → Replies deck schema elements (state_in model log) (of_call (call_range e n v)) before after model log
  unfolding reply range_text
  range-replies e n v q p = record { text = reads (ap (range_text e n v) (range-standing h e n v q)) p; state = unchanged h }

  pub model-replies : Appends before (model_lines (fixed_in deck schema elements) (model_of model)) after
      → Replies deck schema elements (state_in model log) of_model before after model log
  unfolding reply
  model-replies p = record { text = p; state = unchanged h }

  pub trees-replies : Appends before (trees_lines (fixed_in deck schema elements) (model_of model)) after
      → Replies deck schema elements (state_in model log) of_trees before after model log
  unfolding reply
  trees-replies p = record { text = p; state = unchanged h }

  pub log-replies : Appends before (log_lines (log_of log)) after → Replies deck schema elements (state_in model log) of_log before after model log
  unfolding reply
  log-replies p = record { text = p; state = unchanged h }

-- what holds of the request that the code's stands for
pub of-request : (P : Request → Type 0) (r : program.Request) (o : program.Request) (p : Request) → r ≡ o → request_is (Some o) ≡ some p → P p → (q : Request)
    → request_is (Some r) ≡ some q → P q
of-request P r o p g e h q k = let z : p ≡ q = cc in subst P z h

-- a request of the code stands for one
pub stands-for : (r : program.Request) → (q : Request) × (request_is (Some r) ≡ some q)
stands-for (Merge f) = (of_call (call_merge f), refl)
stands-for (Rollback mark) = (of_call (call_rollback mark), refl)
stands-for (Range e n v) = (of_call (call_range e n v), refl)
stands-for Model = (of_model, refl)
stands-for Trees = (of_trees, refl)
stands-for Log = (of_log, refl)
