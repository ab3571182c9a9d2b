use Rattle.tables.proofs.Laws.SchemaTable.{group-count}
use Rattle.tables.proofs.schema.group_count.Goals as goal

pub returns : goal.returns
returns c = group-count c.args.schema.now c.requires
