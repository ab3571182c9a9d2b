use Rattle.printing.proofs.Laws.Buffers.{then, reads}
use Rattle.printing.proofs.Laws.Lines.{row-parts}
use Rattle.printing.proofs.lines.append_row.Goals as goal

pub returns : goal.returns
returns c =
    reads
    (row-parts _ _ _)
    (then
    c.append_bytes-k.ensures
    (then c.append_number-l.ensures (then c.append_number-m.ensures c.append_number.ensures)))
