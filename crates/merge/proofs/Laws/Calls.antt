-- Laws of the calls on lent tables: each refusal in its turn, and what is accepted. Assumes nothing.
use Rattle.std.specs.Prelude as program
use Rattle.std.specs.Prelude.{Some, None, Result, Ok, Err}
use mathlib.Core.Bool.{true, false, false≢true}
use mathlib.Core.List.{List}
use mathlib.Core.Option.{none, some}
use mathlib.Core.Path.{◌≡◌, refl, sym, ap, ◌∙◌}
use Prim.Native.Nat.{ℕ, zero, suc, ◌+◌, ◌-◌, ◌≤◌, ◌<◌}
use native.Mathlib.Numerals.{add-one}
use native.Mathlib.Omega.{arith}
use borrow.Author.Tests.{ltb-true, lt-ltb, le-ltb, eq-eqb, ne_eqb}
use lib.Dec.{eqb, ltb}
use lib.ListN.{length, get_or, take, set}
use lib.Seq.{take_all, take-suc, take-suc-set}
use Rattle.tables.specs.Limits.{version_limit}
use Rattle.tables.specs.Records.{Mode, sequence, choice, bag, mixed, characters, Log, type_row}
use Rattle.tables.specs.ElementsTable.{elements_of}
use Rattle.tables.specs.FileSets.{waiting_tree}
use Rattle.tables.proofs.Laws.Cases.{bool-split}
use Rattle.tables.specs.LogTable.{log_of}
use Rattle.tables.specs.ModelTable.{model_of}
use Rattle.tables.specs.SchemaTable.{schema_of, mode_number}
use Rattle.deck.specs.Schema.{is_characters}
use Rattle.table_test.specs.Fits.{GoodFixed, StateFits, StateOver, KeepsState}
use Rattle.table_test.specs.ModelTest.{model_once}
use Rattle.table_test.proofs.Laws.Tested.{fixed-good, model-fits, log-fits}
use Rattle.state_test.proofs.Laws.Passed.{root-there}
use Rattle.state_test.proofs.Laws.States.{passed-tables}
use Rattle.state_test.specs.StateTest.{lent_tables_pass, fixed_in, state_in}
use Rattle.merge_rules.specs.Calls as rules
use Rattle.merge_rules.specs.Calls.{range_refused, range_answer, range, counts_of, entries_above, merged_from, merge_tree, merge, rollback}
use Rattle.merge_rules.specs.Log.{rollback_merge, is_mark}
use Rattle.merge_rules.specs.Range.{Range, calc_element_insert_range}
use Rattle.merge_rules.specs.Refusals.{no_such_element, characters_parent, Outcome}
use Rattle.merge_rules.specs.TableCalls.{CallResult, bad_tables, answered, range_call, merge_call, rollback_call}
use Rattle.merge_log.specs.Answers.{outcome_is}
use Rattle.merge_log.specs.declared.refusals.Refusal.TheVariants.{NotWaiting, NoMark}
use Rattle.merge_log.specs.declared.refusals.Halt.{Halt}
use Rattle.merge_log.specs.declared.refusals.Halt.TheVariants.{Conflict, Refused}
use Rattle.tables.specs.declared.numbers.Element.{Element}
use Rattle.merge.specs.declared.calls.CallError.TheVariants.{Refused as CallRefused, BadTables}
use Rattle.merge.specs.declared.counts.Counts.{Counts}
use Rattle.merge.specs.Calls.{halt_refusal, counts_is, merge_result, encoded_merge, concluded, waiting_is, WaitingIn, FindsTree, rollback_result}

-- ---- tables that pass

module _ (deck schema elements model log : List ℕ) (p : lent_tables_pass deck schema elements model log ≡ true) where
  pub lent-fixed : GoodFixed deck schema elements
  lent-fixed = fixed-good deck schema elements model log (passed-tables deck schema elements model log p)

  pub lent-state : StateOver elements model log
  lent-state =
      let t = passed-tables deck schema elements model log p in
      record { model_fits = model-fits deck schema elements model log t; log_fits = log-fits deck schema elements model log t }

  pub lent-once : model_once (model_of model) ≡ true
  lent-once = (passed-tables deck schema elements model log p).model_tested.once

  pub lent-root : 0 < length (elements_of elements).names
  lent-root = omega (arith, root-there deck schema elements model log p, lent-state.model_fits.same)

-- ---- range

characters-by : (m : Mode) → is_characters m ≡ eqb (mode_number m) 4
unfolding is_characters mode_number
characters-by sequence = refl
characters-by choice = refl
characters-by bag = refl
characters-by mixed = refl
characters-by characters = refl

module _ (deck schema elements model log : List ℕ) (e n v : ℕ) where
  pub range-bad : lent_tables_pass deck schema elements model log ≡ false → bad_tables ≡ range_call deck schema elements model log e n v
  unfolding range_call
  range-bad p = rw (range_call, p)

  module _ (p : lent_tables_pass deck schema elements model log ≡ true) where
    pub no-element : length (elements_of elements).names ≤ e → answered (range_refused no_such_element) ≡ range_call deck schema elements model log e n v
    unfolding range_call range
    no-element h = rw (range_call, p, range, le-ltb e (length (elements_of elements).names) h)

    module _ (there : e < length (elements_of elements).names) where
      pub no-version : version_limit ≤ v → answered (range_refused no_such_element) ≡ range_call deck schema elements model log e n v
      unfolding range_call range
      no-version h = rw (range_call, p, range, lt-ltb e (length (elements_of elements).names) there, le-ltb v version_limit h)

      module _ (low : v < version_limit) {t mode : ℕ} (ht : t ≡ get_or (elements_of elements).types e 0)
          (hm : mode ≡ mode_number (type_row (schema_of schema) t).mode) where
        is_number : mode_number (type_row (schema_of schema) (get_or (elements_of elements).types e 0)).mode ≡ mode
        is_number = rw (← ht) (sym hm)

        pub no_rows : mode ≡ 4 → answered (range_refused (characters_parent e)) ≡ range_call deck schema elements model log e n v
        unfolding range_call range
        no_rows h =
            let m = (type_row (schema_of schema) (get_or (elements_of elements).types e 0)).mode in
            let k : is_characters m ≡ true = characters-by m ∙ eq-eqb (mode_number m) 4 (is_number ∙ h) in
            rw (range_call, p, range, lt-ltb e (length (elements_of elements).names) there, lt-ltb v version_limit low, k)

        pub range-found : (mode ≡ 4 → ⊥) → {o : Range} → o ≡ calc_element_insert_range (fixed_in deck schema elements) (model_of model) e n v
            → answered (range_answer e n o) ≡ range_call deck schema elements model log e n v
        unfolding range_call range
        range-found h g =
            let m = (type_row (schema_of schema) (get_or (elements_of elements).types e 0)).mode in
            let k : is_characters m ≡ false = characters-by m ∙ ne_eqb (mode_number m) 4 (λ z. h (sym is_number ∙ z)) in
            rw (range_call, p, range, lt-ltb e (length (elements_of elements).names) there, lt-ltb v version_limit low, k, g)

-- ---- a copy

module _ (from to : List ℕ) (i : ℕ) (size : length to ≡ length from) (done : take i to ≡ take i from) where
  pub copy_more : i < length from → take (i + 1) (set to i (get_or from i 0)) ≡ take (i + 1) from
  copy_more h = rw (add-one i, take-suc-set to i (get_or from i 0) (omega arith), take-suc from i 0 h, done)

  pub copy_done : length from ≤ i → to ≡ from
  copy_done h = sym (take_all i to (omega arith)) ∙ done ∙ take_all i from h

-- ---- merge

-- what a step's answer concludes
module _ (om ol m l : List ℕ) (mark : ℕ) (o : Result (Unit {0}) Halt) where
  pub concluded-done : (c : Counts) → o ≡ Ok tt → counts_is c ≡ counts_of (entries_above mark (log_of l))
      → merge_result (Ok c) m l ≡ concluded om ol mark m l (outcome_is o (state_in m l))
  unfolding concluded
  concluded-done c d h = rw (d, h)

  pub concluded-halted : (m' l' : List ℕ) (h : Halt) → o ≡ Err h → m' ≡ om → l' ≡ ol
      → merge_result (Err (CallRefused (halt_refusal h))) m' l' ≡ concluded om ol mark m l (outcome_is o (state_in m l))
  unfolding concluded
  concluded-halted m' l' (Conflict e) d same_model same_log = rw (d, same_model, same_log)
  concluded-halted m' l' (Refused r) d same_model same_log = rw (d, same_model, same_log)

-- tables that fit are the encodings of what they say
module _ {n texts : ℕ} {m l m' l' : List ℕ} (before : StateFits n texts m l) (after : StateFits n texts m' l') {mark : ℕ} (at : mark ≡ length (log_of l)) where
  concluded-is : (o : Result (Unit {0}) Halt)
      → concluded m l mark m' l' (outcome_is o (state_in m' l')) ≡ encoded_merge (merged_from (state_in m l) (outcome_is o (state_in m' l')))
  unfolding concluded merged_from
  concluded-is (Ok d) = rw (at, ← after.model_fits.good.raw, ← after.log_fits.good.raw)
  concluded-is (Err (Conflict e)) = rw (← before.model_fits.good.raw, ← before.log_fits.good.raw)
  concluded-is (Err (Refused r)) = rw (← before.model_fits.good.raw, ← before.log_fits.good.raw)

  pub merged-from : {om ol : List ℕ} → om ≡ m → ol ≡ l → (o : Result (Unit {0}) Halt) {q : Outcome} → outcome_is o (state_in m' l') ≡ q
      → {a : CallResult rules.MergeAnswer} → a ≡ concluded om ol mark m' l' (outcome_is o (state_in m' l')) → a ≡ encoded_merge (merged_from (state_in m l) q)
  merged-from same_model same_log o e h =
      rw (same_model, same_log) at h ∙ concluded-is o ∙ ap (λ (q : Outcome). encoded_merge (merged_from (state_in m l) q)) e

module _ (deck schema elements model log : List ℕ) (f : ℕ) where
  pub merge-bad : lent_tables_pass deck schema elements model log ≡ false → merge_result (Err BadTables) model log ≡ merge_call deck schema elements model log f
  unfolding merge_call
  merge-bad p = sym (rw (merge_call, p))

  module _ (p : lent_tables_pass deck schema elements model log ≡ true) {n : ℕ} (w : program.Option Element)
      (finds : FindsTree n f w (waiting_tree (fixed_in deck schema elements) (model_of model) f)) where
    pub no-tree : w ≡ None
        → merge_result (Err (CallRefused NotWaiting)) model log ≡ merge_call deck schema elements model log f
    unfolding merge_call merge
    no-tree e =
        let s = lent-state deck schema elements model log p in
        let z : waiting_tree (fixed_in deck schema elements) (model_of model) f ≡ none = sym finds.is ∙ ap (waiting_is f) e in
        sym (rw (merge_call, p, merge, z, ← s.model_fits.good.raw, ← s.log_fits.good.raw))

    module _ (b : Element) (e : w ≡ Some b) where
      pub waiting-within : WaitingIn n f (Some b)
      waiting-within = rw e at finds.within

      pub waiting-call : {q : CallResult rules.MergeAnswer}
          → q ≡ encoded_merge (merged_from (state_in model log) (merge_tree (fixed_in deck schema elements) (record { file = f; root = b.0 }) (state_in model log)))
          → q ≡ merge_call deck schema elements model log f
      unfolding merge_call merge
      waiting-call k =
          let z : waiting_tree (fixed_in deck schema elements) (model_of model) f ≡ some (record { file = f; root = b.0 }) = sym finds.is ∙ ap (waiting_is f) e in
          k ∙ sym (rw (merge_call, p, merge, z))

-- ---- rollback

-- a mark is not above the length
pub mark-low : (mark : ℕ) (l : Log) → is_mark mark l ≡ true → mark ≤ length l
unfolding is_mark
mark-low zero l h = omega arith
mark-low (suc n) l h = bool-split (ltb n (length l)) (λ e. omega (arith, ltb-true n (length l) e)) (λ e. absurd (false≢true (rw (is_mark, e) at h)))

module _ (deck schema elements model log : List ℕ) (mark : ℕ) where
  pub rollback-bad : lent_tables_pass deck schema elements model log ≡ false → rollback_result (Err BadTables) model log ≡ rollback_call deck schema elements model log mark
  unfolding rollback_call
  rollback-bad p = sym (rw (rollback_call, p))

  module _ (p : lent_tables_pass deck schema elements model log ≡ true) where
    pub no-mark : is_mark mark (log_of log) ≡ false
        → rollback_result (Err (CallRefused NoMark)) model log ≡ rollback_call deck schema elements model log mark
    unfolding rollback_call rollback
    no-mark k =
        let s = lent-state deck schema elements model log p in
        sym (rw (rollback_call, p, rollback, k, ← s.model_fits.good.raw, ← s.log_fits.good.raw))

    pub rolled-back : (n : ℕ) (model' log' : List ℕ) → is_mark mark (log_of log) ≡ true → n ≡ length (log_of log)
        → state_in model' log' ≡ rollback_merge mark (state_in model log) → KeepsState model log model' log'
        → rollback_result (Ok (n - mark)) model' log' ≡ rollback_call deck schema elements model log mark
    unfolding rollback_call rollback
    rolled-back n model' log' k h r keeps =
        let s = keeps _ _ (lent-state deck schema elements model log p) in
        sym (rw (rollback_call, p, rollback, k, ← r, ← s.model_fits.good.raw, ← s.log_fits.good.raw, h))
