use Rattle.printing.proofs.Laws.Buffers.{then}
use Rattle.printing.proofs.lines.append_number_value.Goals as goal

pub returns : goal.returns
returns c =
    then (then c.append_byte-k.ensures c.append_byte-l.ensures) c.append_number.ensures
