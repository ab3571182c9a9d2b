use borrow.Author.Rules.{rules}
use Rattle.tables.proofs.Laws.ElementsTable.{text-cell}
use Rattle.tables.proofs.elements.text_cell.Goals as goal

pub returns : goal.returns
returns c =
    text-cell c.args.elements.now (search rules) c.args.t c.args.field (search rules) (search rules)
