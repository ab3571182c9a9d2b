use Rattle.tables.specs.Bytes.{bytes}
use Rattle.merge_rules.specs.Program.{line_of, refused_deck}
use Rattle.printing.proofs.Laws.Buffers.{then}
use Rattle.output.proofs.answers.append_refused_deck.Goals as goal

pub returns : goal.returns
unfolding refused_deck line_of bytes
returns c = then c.append_bytes-k.ensures c.append_tail.ensures
