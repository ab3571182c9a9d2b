use Rattle.tables.specs.Paths.{parts_of}
use Rattle.tables.specs.SchemaTable.{schema_of}
use Rattle.schema_calls.proofs.Laws.Groups.{has_above}
use borrow.Author.Rules.{rules}
use Rattle.schema_calls.proofs.calls.has_group.Goals as goal

pub returns : goal.returns
returns c =
    has_above (schema_of c.args.schema.now) c.args.above c.args.t.0 (parts_of c.args.p) (search rules) c.is_found.ensures
