-- A refused merge or rollback leaves every lent table as it stood. Assumes nothing.
use mathlib.Core.Bool.{true, false}
use mathlib.Core.List.{List}
use mathlib.Core.Path.{◌≡◌, refl, sym}
use Prim.Native.Nat.{ℕ}
use Rattle.tables.specs.Records.{State}
use Rattle.tables.proofs.Laws.Cases.{bool_case}
use Rattle.state_test.specs.StateTest.{lent_tables_pass, fixed_in, state_in}
use Rattle.state_test.proofs.Laws.States.{passed-tables}
use Rattle.merge_rules.specs.Calls.{Counts, MergeAnswer, merged, Merged, merge, RollbackAnswer, taken_off, RolledBack, rollback}
use Rattle.merge_rules.specs.Log.{is_mark}
use Rattle.merge_rules.specs.Refused.{AsTheyStood, RefusedMergeLeaves, RefusedRollbackLeaves}
use Rattle.merge_rules.specs.TableCalls.{CallResult, answered, encoded_result, merge_call, rollback_call}
use Rattle.merge_rules.proofs.Laws.Withdrawal.{MergeAnswers, accepts, refuses, merge-answers}

-- tables that pass are the encoding of what they say
encoded-back : {A : Type 0} (deck schema elements model log : List ℕ) (a : A) → lent_tables_pass deck schema elements model log ≡ true
    → AsTheyStood model log (encoded_result a (state_in model log))
encoded-back deck schema elements model log a p =
    let t = passed-tables deck schema elements model log p in
    record { same_model = sym t.model_tested.good.raw; same_log = sym t.log_tested.good.raw }

pub refused-merge-leaves : RefusedMergeLeaves
unfolding merge_call
refused-merge-leaves deck schema elements model log f =
    bool_case (λ (r : CallResult MergeAnswer). ((c : Counts) → r.answer ≡ answered (merged c) → ⊥) → AsTheyStood model log r)
    (lent_tables_pass deck schema elements model log)
    (λ p. by_answer_lem p (merge (fixed_in deck schema elements) f (state_in model log)) (merge-answers (fixed_in deck schema elements) f (state_in model log)))
    (λ _ _. record { same_model = refl; same_log = refl })
  where
    by_answer_lem : lent_tables_pass deck schema elements model log ≡ true → (m : Merged) → MergeAnswers (state_in model log) m
        → ((c : Counts) → answered m.answer ≡ answered (merged c) → ⊥) → AsTheyStood model log (encoded_result m.answer m.state)
    by_answer_lem p m (accepts c t) h = absurd (h c refl)
    by_answer_lem p m (refuses r) h = encoded-back deck schema elements model log _ p

pub refused-rollback-leaves : RefusedRollbackLeaves
unfolding rollback_call rollback
refused-rollback-leaves deck schema elements model log mark =
    bool_case (λ (r : CallResult RollbackAnswer). ((n : ℕ) → r.answer ≡ answered (taken_off n) → ⊥) → AsTheyStood model log r)
    (lent_tables_pass deck schema elements model log)
    (λ p.
    bool_case
    (λ (r : RolledBack). ((n : ℕ) → answered r.answer ≡ answered (taken_off n) → ⊥) → AsTheyStood model log (encoded_result r.answer r.state))
    (is_mark mark (state_in model log).log) (λ _ h. absurd (h _ refl)) (λ _ _. encoded-back deck schema elements model log _ p))
    (λ _ _. record { same_model = refl; same_log = refl })
