use Rattle.printing.proofs.Laws.Buffers.{then, reads}
use Rattle.printing.proofs.Laws.Lines.{text-parts}
use Rattle.printing.proofs.lines.append_text.Goals as goal

pub returns : goal.returns
returns c =
    λ x d.
    reads
    (text-parts x _ _)
    (then c.append_bytes-k.ensures (then c.append_number-l.ensures (c.append_value.ensures x d)))
