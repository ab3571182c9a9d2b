use Rattle.tables.specs.LogTable.{log_of}
use Rattle.merge.proofs.Laws.Counts.{Counting}
use Rattle.merge.proofs.counts.counts_above.Given as goal

-- the entries from i on are counted
abbrev pub invariant-loop-i : goal.invariant-loop-i
invariant-loop-i l = Counting l.mark (log_of l.log) l.c l.i
