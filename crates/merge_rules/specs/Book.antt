-- Document 01, "Log, mark, rollback": the book, and lists of calls. Assumes nothing.
use Rattle.std.specs.Prelude.{true, false, List, [], ◌∷◌, ℕ, ◌+◌, ltb}
use Rattle.tables.specs.Lists.{sum}
use Rattle.tables.specs.Records.{Element, Name, FileNumber, Version, State, Fixed}
use Rattle.merge_rules.specs.Calls.{Counts, MergeAnswer, merged, merge_refused, merge, RangeAnswer, range, RollbackAnswer, taken_off, rollback_refused, rollback}

-- ---- calls after a load

pub data Call : Type 0 where
  call_merge : FileNumber → Call
  call_rollback : ℕ → Call
  call_range : Element → Name → Version → Call

pub data Answer : Type 0 where
  of_merge : MergeAnswer → Answer
  of_rollback : RollbackAnswer → Answer
  of_range : RangeAnswer → Answer

pub record Called : Type 0 where
  pub answer : Answer
  pub state : State

unfoldable pub call : Fixed → Call → State → Called
call x (call_merge f) s = let r = merge x f s in record { answer = of_merge r.answer; state = r.state }
call x (call_rollback mark) s = let r = rollback mark s in record { answer = of_rollback r.answer; state = r.state }
call x (call_range e n v) s = record { answer = of_range (range x e n v s); state = s }

-- ---- the book: sums, the last one first

abbrev pub Book : Type 0
Book = List ℕ

unfoldable pub sum_of : Counts → ℕ
sum_of c = c.imports + c.restrictions + c.extensions

-- strikes the book's last sum as long as the sums in it together exceed the mark
unfoldable pub strike : ℕ → Book → Book
strike mark [] = []
strike mark (n ∷ ns) = elim (ltb mark (sum (n ∷ ns))) [ true ↦ strike mark ns | false ↦ n ∷ ns ]

-- An accepted merge writes the sum of its three counts at the end.
unfoldable pub enter_merge : MergeAnswer → Book → Book
enter_merge (merged c) bk = sum_of c ∷ bk
enter_merge (merge_refused r) bk = bk

-- An accepted rollback strikes by the mark it was given.
unfoldable pub enter_rollback : ℕ → RollbackAnswer → Book → Book
enter_rollback mark (taken_off n) bk = strike mark bk
enter_rollback mark (rollback_refused r) bk = bk

-- the book is given the calls' arguments and answers and nothing else; a refused merge or rollback leaves it as it is
unfoldable pub enter : Call → Answer → Book → Book
enter (call_merge f) (of_merge a) bk = enter_merge a bk
enter (call_merge f) (of_rollback a) bk = bk
enter (call_merge f) (of_range a) bk = bk
enter (call_rollback mark) (of_merge a) bk = bk
enter (call_rollback mark) (of_rollback a) bk = enter_rollback mark a bk
enter (call_rollback mark) (of_range a) bk = bk
enter (call_range e n v) a bk = bk
