use borrow.Author.Rules.{rules}
use Rattle.tables.proofs.Laws.SchemaTable.{named-is}
use Rattle.tables.proofs.schema.type_named.Goals as goal

pub returns : goal.returns
returns c = named-is c.args.schema.now (search rules) c.args.t.0 _ c.type_cell.ensures
