use Rattle.tables.specs.LogTable.{log_of}
use Rattle.printing.specs.Buffers.{buffer_is, Appends}
use Rattle.output.proofs.Laws.Entries.{lines_to}
use Rattle.output.proofs.entries.append_log.Given as goal

-- the lines of the oldest i entries are written
abbrev pub invariant-loop-i : goal.invariant-loop-i
invariant-loop-i l = Appends (buffer_is l.initial.k l.initial.out) (lines_to (log_of l.log) l.i) (buffer_is l.k l.out)
