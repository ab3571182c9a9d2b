use borrow.Author.Rules.{rules}
use Rattle.tables.proofs.Laws.SchemaTable.{group-path}
use Rattle.tables.proofs.schema.group_path.Goals as goal

pub returns : goal.returns
returns c =
    group-path c.args.schema.now (search rules) c.args.g _ _ _ _ (search rules) c.group_cell.ensures c.group_cell-2.ensures
    c.group_cell-3.ensures c.group_cell-4.ensures
