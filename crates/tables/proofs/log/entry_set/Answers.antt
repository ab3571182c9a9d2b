use borrow.Author.Rules.{rules}
use mathlib.Core.Path.{ap, ◌∙◌}
use Rattle.tables.specs.SetCells.{cells_set}
use Rattle.tables.proofs.Laws.LogTable.{entry_set}
use Rattle.tables.proofs.log.entry_set.Goals as goal

pub returns : goal.returns
returns c =
    c.read_set.ensures ∙ ap cells_set (entry_set c.args.log.now (search rules) c.args.i (search rules))
