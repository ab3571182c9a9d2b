use borrow.Author.Rules.{rules}
use Rattle.tables.proofs.Laws.SchemaTable.{file-cell}
use Rattle.tables.proofs.schema.file_cell.Goals as goal

pub returns : goal.returns
returns c =
    file-cell c.args.schema.now (search rules) c.args.i c.args.field (search rules) (search rules)
