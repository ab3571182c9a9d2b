use Rattle.tables.specs.Bytes.{bytes}
use Rattle.merge_rules.specs.Program.{decimal_of, line_of}
use Rattle.printing.proofs.Laws.Buffers.{then}
use Rattle.output.proofs.entries.append_import.Goals as goal

pub returns : goal.returns
unfolding line_of decimal_of bytes
returns c =
    then
    c.append_bytes-k.ensures
    (then c.append_number-l.ensures (then c.append_number-m.ensures c.append_old.ensures))
