use borrow.Author.Rules.{rules}
use Rattle.tables.proofs.Laws.SchemaTable.{group-cell}
use Rattle.tables.proofs.schema.group_cell.Goals as goal

pub returns : goal.returns
returns c =
    group-cell c.args.schema.now (search rules) c.args.g c.args.field (search rules) (search rules)
