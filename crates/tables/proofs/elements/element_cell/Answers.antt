use borrow.Author.Rules.{rules}
use Rattle.tables.proofs.Laws.ElementsTable.{element-cell}
use Rattle.tables.proofs.elements.element_cell.Goals as goal

pub returns : goal.returns
returns c =
    element-cell c.args.elements.now (search rules) c.args.e c.args.field (search rules) (search rules)
