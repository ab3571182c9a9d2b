use Rattle.tables.proofs.Laws.SchemaTable.{type-count}
use Rattle.tables.proofs.schema.type_count.Goals as goal

pub returns : goal.returns
returns c = type-count c.args.schema.now c.requires
