use borrow.Author.Rules.{rules}
use Rattle.tables.proofs.Laws.SchemaTable.{row-cell}
use Rattle.tables.proofs.schema.row_cell.Goals as goal

pub returns : goal.returns
returns c =
    row-cell c.args.schema.now (search rules) c.args.i c.args.field (search rules) (search rules)
