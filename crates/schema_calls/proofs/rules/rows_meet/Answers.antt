use Rattle.tables.specs.SchemaTable.{schema_of}
use Rattle.deck.specs.Answers.{row_is}
use Rattle.schema_calls.proofs.Laws.Rules.{equal-named, equal-path}
use borrow.Author.Rules.{rules}
use Rattle.schema_calls.proofs.rules.rows_meet.Goals as goal

pub returns-then-is_found : goal.returns-then-is_found
returns-then-is_found c =
    equal-named (schema_of c.args.schema.now) (row_is c.args.c) c.args.above (search rules) c.is_found.ensures c.if-is_found.true

pub returns-else-is_found : goal.returns-else-is_found
returns-else-is_found c =
    equal-path (schema_of c.args.schema.now) (row_is c.args.c) c.args.above (search rules) c.is_found.ensures c.if-is_found.false c.is_found-else-is_found.ensures
