use Rattle.tables.specs.Bytes.{bytes}
use Rattle.merge_rules.specs.Program.{decimal_of, or_dash}
use Rattle.printing.proofs.Laws.Buffers.{then}
use Rattle.output.proofs.answers.append_optional.Goals as goal

pub returns-in-None : goal.returns-in-None
unfolding or_dash bytes
returns-in-None c = rw c.in-None.is (then c.append_byte-k.ensures c.append_byte.ensures)

pub returns-in-Some : goal.returns-in-Some
unfolding or_dash decimal_of
returns-in-Some c = rw c.in-Some.is c.append_number.ensures
