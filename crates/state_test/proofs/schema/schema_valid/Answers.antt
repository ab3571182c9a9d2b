use Rattle.tables.specs.SchemaTable.{schema_of}
use Rattle.state_test.proofs.Laws.Answers.{passed, failed}
use Rattle.state_test.proofs.Laws.Schemas.{schema-stop, schema-last}
use mathlib.Core.Path.{◌∙◌}
use Rattle.state_test.proofs.schema.schema_valid.Goals as goal

pub returns-then-groups_valid : goal.returns-then-groups_valid
returns-then-groups_valid c = schema-last (schema_of c.args.schema.now) (passed c.groups_valid.ensures c.if-groups_valid.true) c.rows_valid.ensures

pub returns-else-groups_valid : goal.returns-else-groups_valid
returns-else-groups_valid c = c.if-groups_valid.false ∙ schema-stop (schema_of c.args.schema.now) (failed c.groups_valid.ensures c.if-groups_valid.false)
