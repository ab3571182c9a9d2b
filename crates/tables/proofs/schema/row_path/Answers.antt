use borrow.Author.Rules.{rules}
use Rattle.tables.proofs.Laws.SchemaTable.{row-path}
use Rattle.tables.proofs.schema.row_path.Goals as goal

pub returns : goal.returns
returns c =
    row-path c.args.schema.now (search rules) c.args.i _ _ _ _ (search rules) c.row_cell.ensures c.row_cell-2.ensures
    c.row_cell-3.ensures c.row_cell-4.ensures
