use Rattle.printing.proofs.Laws.Buffers.{then}
use Rattle.printing.proofs.buffer.append_number.Goals as goal

pub returns : goal.returns
returns c = then c.append_digits-k.ensures c.append_byte.ensures
