use Rattle.tables.proofs.Laws.ElementsTable.{element-count}
use Rattle.tables.proofs.elements.element_count.Goals as goal

pub returns : goal.returns
returns c = element-count c.args.elements.now c.requires
