use borrow.Author.Rules.{rules}
use Rattle.tables.specs.LogTable.{entry_is}
use Rattle.tables.proofs.Laws.LogTable.{pushed}
use Rattle.tables.proofs.log.push_entry.Goals as goal

pub returns : goal.returns
returns c =
    pushed c.args.log.now (search rules) (entry_is c.args.e) (search rules) (search rules) _ _ _
    c.log_length-n.ensures c.entry_cells-c.ensures c.put_entry.ensures
