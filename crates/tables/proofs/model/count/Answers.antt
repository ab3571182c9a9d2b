use Rattle.tables.proofs.Laws.ModelTable.{read_count}
use Rattle.tables.proofs.model.count.Goals as goal

pub returns : goal.returns
returns c = read_count c.args.model.now c.requires
