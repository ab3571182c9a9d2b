use Rattle.tables.specs.Bytes.{bytes}
use Rattle.merge_rules.specs.Program.{decimal_of, line_of}
use Rattle.printing.proofs.Laws.Buffers.{then, reads}
use Rattle.output.proofs.Laws.Answers.{refusal-text}
use Rattle.output.proofs.answers.append_refusal.Goals as goal

pub returns : goal.returns
unfolding decimal_of line_of bytes
returns c =
    reads
    (refusal-text c.refusal_fields-f.result _ c.refusal_fields-f.ensures)
    (then c.append_number-k.ensures (then c.append_optional-l.ensures c.append_optional.ensures))
