use Rattle.tables.specs.Bytes.{bytes}
use Rattle.merge_rules.specs.CallLists.{rollback_line}
use Rattle.merge_rules.specs.Program.{line_of}
use Rattle.output.specs.Answers.{rollback_text}
use Rattle.printing.proofs.Laws.Buffers.{then, reads}
use Rattle.output.proofs.Laws.Answers.{rollback-error}
use Rattle.output.proofs.answers.append_rollback.Goals as goal

pub returns-in-Ok : goal.returns-in-Ok
unfolding rollback_text rollback_line line_of bytes
returns-in-Ok c = rw c.in-Ok.is (then c.append_bytes-k.ensures c.append_tail.ensures)

pub returns-in-Err : goal.returns-in-Err
unfolding line_of bytes
returns-in-Err c =
    rw
    c.in-Err.is
    (reads (rollback-error _ _) (then c.append_bytes-k-in-Err.ensures (rw c.error_number.ensures at c.append_tail-in-Err.ensures)))
