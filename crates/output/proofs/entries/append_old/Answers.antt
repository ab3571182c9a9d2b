use borrow.Author.Rules.{rules}
use Rattle.tables.specs.Bytes.{bytes}
use Rattle.merge_rules.specs.Program.{hexadecimal_of, line_of}
use Rattle.printing.proofs.Laws.Buffers.{then}
use Rattle.output.proofs.Laws.Entries.{number-of}
use Rattle.output.proofs.entries.append_old.Goals as goal

pub returns : goal.returns
unfolding line_of hexadecimal_of bytes
returns c =
    rw (← c.bits.ensures, ← number-of c.args.p c.map.result c.map.ensures.cases (λ x n k. search rules)) (then c.append_optional-k.ensures c.append_number.ensures)
