use Rattle.tables.specs.Bytes.{bytes}
use Rattle.merge_rules.specs.Program.{decimal_of}
use Rattle.printing.proofs.Laws.Buffers.{then}
use Rattle.output.proofs.entries.append_change.Goals as goal

pub returns : goal.returns
unfolding decimal_of bytes
returns c =
    then
    c.append_bytes-k.ensures
    (then c.append_number-l.ensures c.append_number.ensures)
