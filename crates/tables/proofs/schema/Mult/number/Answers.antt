use Rattle.tables.proofs.Laws.SchemaTable.{mult_tag}
use Rattle.tables.proofs.schema.Mult.number.Goals as goal

pub returns : goal.returns
returns c = mult_tag c.args.self
