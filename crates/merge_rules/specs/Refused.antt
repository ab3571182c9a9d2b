-- Demand 1, of merge and rollback on lent tables: a refused call leaves every table as it stood, whatever the tables are. Assumes nothing.
use Rattle.std.specs.Prelude.{List, ◌≡◌, ℕ}
use Rattle.tables.specs.Records.{FileNumber}
use Rattle.merge_rules.specs.Calls.{Counts, merged, taken_off}
use Rattle.merge_rules.specs.TableCalls.{CallResult, answered, merge_call, rollback_call}

-- the tables that a call left are those that it was lent
pub record AsTheyStood {A : Type 0} (model log : List ℕ) (r : CallResult A) : Type 0 where
  pub same_model : r.model ≡ model
  pub same_log : r.log ≡ log

abbrev pub RefusedMergeLeaves : Type 0
RefusedMergeLeaves =
    (deck schema elements model log : List ℕ) (f : FileNumber)
    → ((c : Counts) → (merge_call deck schema elements model log f).answer ≡ answered (merged c) → ⊥)
    → AsTheyStood model log (merge_call deck schema elements model log f)

abbrev pub RefusedRollbackLeaves : Type 0
RefusedRollbackLeaves =
    (deck schema elements model log : List ℕ) (mark : ℕ)
    → ((n : ℕ) → (rollback_call deck schema elements model log mark).answer ≡ answered (taken_off n) → ⊥)
    → AsTheyStood model log (rollback_call deck schema elements model log mark)
