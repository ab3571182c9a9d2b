use borrow.Author.Rules.{rules}
use Rattle.tables.proofs.Laws.SchemaTable.{type-cell}
use Rattle.tables.proofs.schema.type_cell.Goals as goal

pub returns : goal.returns
returns c =
    type-cell c.args.schema.now (search rules) c.args.t c.args.field (search rules) (search rules)
