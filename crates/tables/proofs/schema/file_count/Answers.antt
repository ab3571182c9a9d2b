use Rattle.tables.proofs.Laws.SchemaTable.{file-count}
use Rattle.tables.proofs.schema.file_count.Goals as goal

pub returns : goal.returns
returns c = file-count c.args.schema.now c.requires
