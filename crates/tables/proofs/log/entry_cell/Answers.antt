use borrow.Author.Rules.{rules}
use Rattle.tables.proofs.Laws.LogTable.{entry-cell}
use Rattle.tables.proofs.log.entry_cell.Goals as goal

pub returns : goal.returns
returns c = entry-cell c.args.log.now (search rules) c.args.i c.args.field (search rules) (search rules)
