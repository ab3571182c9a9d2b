use Rattle.tables.specs.Bytes.{bytes}
use Rattle.merge_rules.specs.Program.{decimal_of, line_of}
use Rattle.printing.proofs.Laws.Buffers.{then}
use Rattle.output.proofs.answers.append_tail.Goals as goal

pub returns : goal.returns
unfolding decimal_of line_of bytes
returns c = then c.append_number-k.ensures c.append_number.ensures
