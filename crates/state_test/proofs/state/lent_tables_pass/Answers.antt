use Rattle.state_test.proofs.Laws.Answers.{passed, failed}
use mathlib.Core.Path.{◌∙◌}
use lib.ListN.{length}
use Rattle.tables.specs.ElementsTable.{elements_of}
use Rattle.tables.specs.SchemaTable.{schema_of}
use Rattle.table_test.proofs.Laws.TablesTest.{tested-tables}
use Rattle.state_test.proofs.Laws.States.{paths-filled, files-low, trees-low, lent-stop, lent-last}
use Rattle.state_test.proofs.state.lent_tables_pass.Goals as goal

pub returns-else-tables_pass : goal.returns-else-tables_pass
returns-else-tables_pass c =
    c.if-tables_pass.false
    ∙ lent-stop c.args.deck.now c.args.schema.now c.args.elements.now c.args.model.now c.args.log.now (failed c.tables_pass.ensures c.if-tables_pass.false)

pub state_valid-requires : goal.state_valid-requires
state_valid-requires c =
    let t = tested-tables (length c.args.deck.now) c.args.schema.now c.args.elements.now c.args.model.now c.args.log.now (passed c.tables_pass.ensures c.if-tables_pass.true) in
    let s = t.schema_tested in record { good_schema = s.good; each = paths-filled c.args.schema.now s; each_2 = files-low 0 (schema_of c.args.schema.now).files s.files; good_elements = t.elements_tested.good; each_3 = t.elements_tested.depths; each_4 = trees-low _ (elements_of c.args.elements.now).trees t.elements_tested.trees; good_model = t.model_tested.good; good_log = t.log_tested.good; model_value = t.same }

pub returns-then-tables_pass : goal.returns-then-tables_pass
returns-then-tables_pass c =
    lent-last c.args.deck.now c.args.schema.now c.args.elements.now c.args.model.now c.args.log.now (passed c.tables_pass.ensures c.if-tables_pass.true) (c.state_valid.ensures c.args.deck.now)
