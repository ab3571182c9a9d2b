use Rattle.tables.proofs.Laws.ElementsTable.{tree-count}
use Rattle.tables.proofs.elements.tree_count.Goals as goal

pub returns : goal.returns
returns c = tree-count c.args.elements.now c.requires
