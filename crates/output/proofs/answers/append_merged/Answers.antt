use Rattle.tables.specs.Bytes.{bytes}
use Rattle.merge_rules.specs.Program.{decimal_of, answer_line}
use Rattle.printing.proofs.Laws.Buffers.{then, reads}
use Rattle.output.proofs.Laws.Answers.{behind-word, behind-head}
use Rattle.output.proofs.answers.append_merged.Goals as goal

pub returns : goal.returns
unfolding answer_line decimal_of bytes
returns c =
    reads
    (behind-head _ _ _ _)
    (then
    c.append_head-k.ensures
    (reads (behind-word _ _ _) (then c.append_number-l.ensures c.append_tail.ensures)))
