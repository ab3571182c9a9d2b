use Rattle.tables.specs.Bytes.{bytes}
use Rattle.merge_rules.specs.CallLists.{range_line}
use Rattle.output.specs.Answers.{range_text}
use Rattle.printing.proofs.Laws.Buffers.{then, reads}
use Rattle.output.proofs.Laws.Answers.{behind-asked, range-error}
use Rattle.output.proofs.answers.append_range.Goals as goal

pub returns-in-Ok : goal.returns-in-Ok
unfolding range_text range_line bytes
returns-in-Ok c =
    rw
    c.in-Ok.is
    (reads (behind-asked _ _ _ _ _ _) (then c.append_asked-k.ensures c.append_tail.ensures))

pub returns-in-Err : goal.returns-in-Err
unfolding bytes
returns-in-Err c =
    rw
    c.in-Err.is
    (reads (range-error _ _ _ _) (then c.append_asked-k-in-Err.ensures c.append_error.ensures))
