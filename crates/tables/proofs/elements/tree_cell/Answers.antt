use borrow.Author.Rules.{rules}
use Rattle.tables.proofs.Laws.ElementsTable.{tree-cell}
use Rattle.tables.proofs.elements.tree_cell.Goals as goal

pub returns : goal.returns
returns c =
    tree-cell c.args.elements.now (search rules) c.args.t c.args.field (search rules) (search rules)
