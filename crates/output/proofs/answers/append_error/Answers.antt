use Rattle.tables.specs.Bytes.{bytes}
use Rattle.printing.proofs.Laws.Buffers.{reads}
use Rattle.output.proofs.Laws.Answers.{zero-fields}
use Rattle.output.proofs.answers.append_error.Goals as goal

pub returns-in-BadTables : goal.returns-in-BadTables
unfolding bytes
returns-in-BadTables c = rw c.in-BadTables.is (reads zero-fields c.append_bytes.ensures)
