use Rattle.tables.proofs.Laws.SchemaTable.{row_count_lem}
use Rattle.tables.proofs.schema.row_count.Goals as goal

pub returns : goal.returns
returns c = row_count_lem c.args.schema.now c.requires
