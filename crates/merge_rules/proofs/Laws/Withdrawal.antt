-- Demand 3 from what a merge does: a rollback to a mark undoes every call since. Assumes nothing.
use mathlib.Core.Bool.{true, false}
use mathlib.Core.List.{List, [], ◌∷◌}
use mathlib.Core.Path.{◌≡◌, refl, sym, ◌∙◌, ap}
use Prim.Native.Nat.{ℕ, ◌-◌}
use native.Mathlib.Omega.{arith}
use borrow.Author.Tests.{ltb-false, le-ltb}
use lib.ListN.{length}
use Rattle.tables.specs.FileSets.{waiting_tree}
use Rattle.tables.specs.Lists.{sum}
use Rattle.tables.specs.Records.{FileNumber, State, Fixed}
use Rattle.tables.proofs.Laws.Cases.{bool_case}
use Rattle.merge_rules.specs.Book.{Call, call_merge, call_rollback, call_range, Answer, of_merge, of_rollback, of_range, call, Book, sum_of, enter_merge, enter_rollback, enter}
use Rattle.merge_rules.specs.Calls.{Counts, merged, merge_refused, Merged, merged_from, merge_tree, merge, taken_off, rollback_refused, RolledBack, rollback}
use Rattle.merge_rules.specs.Log.{is_mark, rollback_merge}
use Rattle.merge_rules.specs.Refusals.{Refusal, Outcome, done, conflict, refused}
use Rattle.merge_rules.specs.Withdrawal.{Answered, state_after, history, book_after, rollback_below, goes_below, mark_of, Withdrawn, WithdrawnFrom}
use Rattle.merge_rules.proofs.Laws.Cases.{option-case}
use Rattle.merge_rules.proofs.Laws.Lists.{any_of-cons, any_of-never}
use Rattle.merge_rules.proofs.Laws.Marks.{mark-steps}
use Rattle.merge_rules.proofs.Laws.Stack.{Stack, base, push, top, stack-steps, book-sum, length-mark, stack_above, Boundary, boundary, boundary-state}
use Rattle.merge_rules.proofs.Laws.Steps.{IsMerge}
use Rattle.merge_rules.proofs.Laws.Undo.{rollback-steps}

-- ---- answers

-- an accepted merge's counts and state; a refused merge leaves the state
pub data MergeAnswers (s : State) : Merged → Type 0 where
  accepts : (c : Counts) (t : State) → MergeAnswers s (record { answer = merged c; state = t })
  refuses : (r : Refusal) → MergeAnswers s (record { answer = merge_refused r; state = s })

merged_from-answers : (s : State) (o : Outcome) → MergeAnswers s (merged_from s o)
unfolding merged_from
merged_from-answers s (done t) = accepts _ t
merged_from-answers s (conflict e t) = refuses _
merged_from-answers s (refused r) = refuses r

pub merge-answers : (x : Fixed) (f : FileNumber) (s : State) → MergeAnswers s (merge x f s)
unfolding merge
merge-answers x f s =
    option-case (MergeAnswers s) (waiting_tree x s.model f) (λ _. refuses _) (λ t _. merged_from-answers s (merge_tree x t s))

-- a rollback to a mark of the log
rollback-accepts : (mark : ℕ) (s : State) → is_mark mark s.log ≡ true
    → rollback mark s ≡ record { answer = taken_off (length s.log - mark); state = rollback_merge mark s }
unfolding rollback
rollback-accepts mark s h = rw (h, rollback)

-- ---- no rollback below a mark

below-zero : (c : Call) (a : Answer) → rollback_below 0 c a ≡ false
unfolding rollback_below
below-zero (call_merge f) a = refl
below-zero (call_rollback n) (of_merge a) = refl
below-zero (call_rollback n) (of_rollback (taken_off k)) = le-ltb n 0 (omega arith)
below-zero (call_rollback n) (of_rollback (rollback_refused r)) = refl
below-zero (call_rollback n) (of_range a) = refl
below-zero (call_range e n v) a = refl

goes_below-zero : (ds : List Answered) → goes_below 0 ds ≡ false
unfolding goes_below
goes_below-zero ds = any_of-never _ (λ d. below-zero d.asked d.answer) ds

-- ---- one rollback more

-- from a stack of merges over a mark, a rollback to the mark
withdrawn : {Inv : State → Type 0} {s t : State} {bk bk' : Book} → Stack Inv s bk t bk' → is_mark (length s.log) s.log ≡ true → Withdrawn s t bk bk'
withdrawn {s = s} {t = t} st h =
    let (sums_since, book, size) = stack_above st in
    let accepted = rollback-accepts (mark_of s) t (mark-steps (stack-steps st) (mark_of s) (omega arith) ∙ h) in
    record {
      sums_since = sums_since;
      book = book;
      accepted = rw accepted (ap taken_off (omega arith));
      state = rw accepted (rollback-steps (stack-steps st));
    }

-- ---- calls on a stack leave a stack

stack-rollback : {Inv : State → Type 0} {s₀ s : State} {bk₀ bk : Book} (mark : ℕ) → Stack Inv s₀ bk₀ s bk
    → rollback_below (mark_of s₀) (call_rollback mark) (of_rollback (rollback mark s).answer) ≡ false
    → Stack Inv s₀ bk₀ (rollback mark s).state (enter_rollback mark (rollback mark s).answer bk)
unfolding rollback rollback_below enter_rollback
stack-rollback {Inv} {s₀} {s} {bk₀} {bk} mark st =
    bool_case
    (λ (r : RolledBack). rollback_below (mark_of s₀) (call_rollback mark) (of_rollback r.answer) ≡ false
    → Stack Inv s₀ bk₀ r.state (enter_rollback mark r.answer bk))
    (is_mark mark s.log)
    (λ ok high.
    let b : Boundary Inv s₀ bk₀ mark s bk = boundary st mark (ltb-false _ _ high) ok in
    rw (b.strikes, boundary-state b) b.stack)
    (λ _ _. st)

-- ---- lists of calls, over what an accepted merge does

module _ (x : Fixed) (Inv : State → Type 0)
    (merges :
    (s t : State) (f : FileNumber) (c : Counts) → Inv s → merge x f s ≡ record { answer = merged c; state = t } → IsMerge s t (sum_of c) × Inv t) where
  stack-merge : {s₀ s : State} {bk₀ bk : Book} (f : FileNumber) → Stack Inv s₀ bk₀ s bk
      → Stack Inv s₀ bk₀ (merge x f s).state (enter_merge (merge x f s).answer bk)
  unfolding enter_merge
  stack-merge {s₀} {s} {bk₀} {bk} f st = go (merge x f s) refl (merge-answers x f s)
    where
      go : (r : Merged) → merge x f s ≡ r → MergeAnswers s r → Stack Inv s₀ bk₀ r.state (enter_merge r.answer bk)
      go r e (accepts c t) = let (m, i) = merges s t f c (top st) e in push st m i
      go r e (refuses n) = st

  stack-call : {s₀ s : State} {bk₀ bk : Book} (c : Call) → Stack Inv s₀ bk₀ s bk → rollback_below (mark_of s₀) c (call x c s).answer ≡ false
      → Stack Inv s₀ bk₀ (call x c s).state (enter c (call x c s).answer bk)
  unfolding call enter
  stack-call (call_merge f) st h = stack-merge f st
  stack-call (call_rollback mark) st h = stack-rollback mark st h
  stack-call (call_range e n v) st h = st

  -- calls with no accepted rollback below the base leave merges on top of it, with the book's sums
  stack-calls : {s₀ s : State} {bk₀ bk : Book} (cs : List Call) → Stack Inv s₀ bk₀ s bk → goes_below (mark_of s₀) (history x cs s) ≡ false
      → Stack Inv s₀ bk₀ (state_after x cs s) (book_after (history x cs s) bk)
  unfolding state_after history book_after goes_below
  stack-calls [] st h = st
  stack-calls {s₀} {s} (c ∷ cs) st h =
      let (first, rest) = any_of-cons _ _ (history x cs (call x c s).state) h in
      stack-calls {s = (call x c s).state} cs (stack-call c st first) rest

  -- from an empty log, with an empty book
  module _ (s : State) (empty : s.log ≡ []) (i : Inv s) where
    stack-after : (cs : List Call) → Stack Inv s [] (state_after x cs s) (book_after (history x cs s) [])
    unfolding sum
    stack-after cs = stack-calls cs (base i (ap length (sym empty))) (rw empty (goes_below-zero _))

    -- Inv holds of every state that calls reach
    pub reached : (cs : List Call) → Inv (state_after x cs s)
    reached cs = top (stack-after cs)

    -- demand 3 from here
    pub withdrawn-from : WithdrawnFrom x s
    unfolding is_mark
    withdrawn-from before after high =
        let st = stack-after before in
        withdrawn (stack-calls after (base (top st) (book-sum st)) high) (length-mark st (rw empty refl))
