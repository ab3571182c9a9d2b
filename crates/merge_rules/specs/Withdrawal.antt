-- Demand 3: one claim about a whole list of calls after a load. Assumes nothing.
use Rattle.std.specs.Prelude.{Bool, false, List, [], ◌∷◌, ◌++◌, ◌≡◌, ℕ, ltb, length}
use Rattle.tables.specs.Lists.{any_of, sum}
use Rattle.tables.specs.Records.{Fixed, State}
use Rattle.deck.specs.Load.{load, loaded}
use Rattle.merge_rules.specs.Book.{Call, call_merge, call_rollback, call_range, Answer, of_merge, of_rollback, of_range, call, Book, enter}
use Rattle.merge_rules.specs.Calls.{taken_off, rollback_refused, rollback}

-- a call with the answer it was given
pub record Answered : Type 0 where
  pub asked : Call
  pub answer : Answer

-- Each call works on all lent tables as the load or the call before left them.
unfoldable pub state_after : Fixed → List Call → State → State
state_after x [] s = s
state_after x (c ∷ cs) s = state_after x cs (call x c s).state

unfoldable pub history : Fixed → List Call → State → List Answered
history x [] s = []
history x (c ∷ cs) s = let r = call x c s in record { asked = c; answer = r.answer } ∷ history x cs r.state

-- the book behind these calls, from the book before them
unfoldable pub book_after : List Answered → Book → Book
book_after [] bk = bk
book_after (d ∷ ds) bk = book_after ds (enter d.asked d.answer bk)

-- an accepted rollback to a number below the mark
unfoldable pub rollback_below : ℕ → Call → Answer → Bool
rollback_below mark (call_merge f) a = false
rollback_below mark (call_rollback n) (of_merge a) = false
rollback_below mark (call_rollback n) (of_rollback (taken_off k)) = ltb n mark
rollback_below mark (call_rollback n) (of_rollback (rollback_refused r)) = false
rollback_below mark (call_rollback n) (of_range a) = false
rollback_below mark (call_range e n v) a = false

unfoldable pub goes_below : ℕ → List Answered → Bool
goes_below mark ds = any_of (λ (d : Answered). rollback_below mark d.asked d.answer) ds

-- A mark is the log's length.
abbrev pub mark_of : State → ℕ
mark_of s = length s.log

-- One more rollback, to the mark, is accepted. It leaves every content list, parent and file set of every element, in the model and in
-- the delivered trees, and the log equal to what they were at the mark. The number of entries it reports taken off is the sum of what
-- is in the book at the end above what was there at the mark.
pub record Withdrawn (at_mark at_end : State) (book_at_mark book_at_end : Book) : Type 0 where
  pub sums_since : List ℕ
  pub book : book_at_end ≡ sums_since ++ book_at_mark
  pub accepted : (rollback (mark_of at_mark) at_end).answer ≡ taken_off (sum sums_since)
  pub state : (rollback (mark_of at_mark) at_end).state ≡ at_mark

-- any list of calls from a state with its book, a mark at its end, and any later list with no accepted rollback below the mark
abbrev pub WithdrawnFrom : Fixed → State → Type 0
WithdrawnFrom x s =
    (before after : List Call)
    → goes_below (mark_of (state_after x before s)) (history x after (state_after x before s)) ≡ false
    → Withdrawn (state_after x before s) (state_after x after (state_after x before s)) (book_after (history x before s) [])
    (book_after (history x after (state_after x before s)) (book_after (history x before s) []))

-- Take any deck that loads.
abbrev pub Demand3 : Type 0
Demand3 = (deck : List ℕ) (x : Fixed) (s : State) → load deck ≡ loaded x s → WithdrawnFrom x s
