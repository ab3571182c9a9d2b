use Rattle.printing.proofs.Laws.Buffers.{then, reads}
use Rattle.printing.proofs.Laws.Lines.{string-part}
use Rattle.printing.proofs.lines.append_string_value.Goals as goal

pub returns : goal.returns
returns c =
    then
    c.append_bytes-k.ensures
    (then (reads (string-part _ _ _) c.append_bytes-l.ensures) c.append_byte.ensures)
