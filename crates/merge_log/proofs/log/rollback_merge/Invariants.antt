use Rattle.merge_log.proofs.Laws.Undo.{RollingBack}
use Rattle.merge_log.proofs.log.rollback_merge.Given as goal

-- the log has n entries, and what is left to undo, down to the mark, gives what the whole gives
abbrev pub invariant-loop-n : goal.invariant-loop-n
invariant-loop-n l = RollingBack l.mark l.once l.initial.model l.initial.log l.model l.log l.r l.n
