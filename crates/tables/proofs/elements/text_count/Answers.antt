use Rattle.tables.proofs.Laws.ElementsTable.{text-count}
use Rattle.tables.proofs.elements.text_count.Goals as goal

pub returns : goal.returns
returns c = text-count c.args.elements.now c.requires
