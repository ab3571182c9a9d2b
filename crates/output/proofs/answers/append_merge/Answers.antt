use Rattle.tables.specs.Bytes.{bytes}
use Rattle.output.specs.Answers.{merge_text}
use Rattle.printing.proofs.Laws.Buffers.{then, reads}
use Rattle.output.proofs.Laws.Answers.{merge-error}
use Rattle.output.proofs.answers.append_merge.Goals as goal

pub returns-in-Ok : goal.returns-in-Ok
unfolding merge_text
returns-in-Ok c = rw c.in-Ok.is c.append_merged.ensures

pub returns-in-Err : goal.returns-in-Err
unfolding bytes
returns-in-Err c = rw c.in-Err.is (reads (merge-error _ _) (then c.append_head-k.ensures c.append_error.ensures))
