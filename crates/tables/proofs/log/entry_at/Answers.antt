use borrow.Author.Rules.{rules}
use Rattle.tables.specs.LogTable.{log_of, entry_at}
use Rattle.tables.proofs.Laws.LogTable.{import-is, restriction-is, extension-is}
use Rattle.tables.proofs.log.entry_at.Goals as goal

pub returns-in-0 : goal.returns-in-0
returns-in-0 c =
    import-is (entry_at (log_of c.args.log.now) c.args.i) _ _ _ c.entry_cell-kind.ensures c.entry_cell-e.ensures c.entry_cell-third.ensures
    _ _ _ c.entry_cell.ensures c.entry_set.ensures c.cell_parent.ensures c.in-0.is

pub returns-in-1 : goal.returns-in-1
returns-in-1 c =
    restriction-is (entry_at (log_of c.args.log.now) c.args.i) _ _ _ c.entry_cell-kind.ensures c.entry_cell-e.ensures c.entry_cell-third.ensures
    _ c.entry_set-in-1.ensures c.in-1.is

pub returns-in_default : goal.returns-in_default
returns-in_default c =
    extension-is (entry_at (log_of c.args.log.now) c.args.i) _ _ _ c.entry_cell-kind.ensures c.entry_cell-e.ensures c.entry_cell-third.ensures
    (search rules) (search rules)
