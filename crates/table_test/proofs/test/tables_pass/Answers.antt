use Rattle.table_test.proofs.Laws.RowsTest.{every-fails}
use Rattle.table_test.proofs.Laws.ElementsTest.{elements-length, few-texts}
use Rattle.table_test.proofs.Laws.SchemaTest.{schema-length}
use Rattle.table_test.proofs.Laws.TablesTest.{model-length}
use Rattle.table_test.specs.SchemaTest.{is_schema_table}
use Rattle.table_test.specs.ElementsTest.{is_elements_table}
use Rattle.table_test.specs.ModelTest.{is_model_table}
use Rattle.table_test.specs.TablesTest.{tables_tests, tables_pass}
use lib.ListN.{length, get_or}
use borrow.Author.Tests.{eq-eqb, ne_eqb}
use native.Mathlib.Omega.{arith}
use mathlib.Core.Bool.{Bool, true}
use mathlib.Core.List.{List}
use mathlib.Core.Path.{◌≡◌, sym, ◌∙◌}
use borrow.Author.Rules.{rules}
use Rattle.tables.specs.ElementsTable.{elements_size}
use Rattle.table_test.proofs.test.tables_pass.Goals as goal

pub returns-then-not-is_schema_table : goal.returns-then-not-is_schema_table
unfolding tables_pass
returns-then-not-is_schema_table c = let tests_0 : List Bool = tables_tests (length c.args.deck.now) c.args.schema.now c.args.elements.now c.args.model.now c.args.log.now in every-fails tests_0 0 (sym c.is_schema_table.ensures ∙ c.if-not-is_schema_table.true)

pub bounds-schema-0 : goal.bounds-schema-0
bounds-schema-0 c = let schema-passed_0 : is_schema_table c.args.schema.now ≡ true = sym c.is_schema_table.ensures ∙ c.if-not-is_schema_table.false in let s = schema-length c.args.schema.now schema-passed_0 in search rules

pub returns-then-not-is_elements_table : goal.returns-then-not-is_elements_table
unfolding tables_pass
returns-then-not-is_elements_table c = let tests_0 : List Bool = tables_tests (length c.args.deck.now) c.args.schema.now c.args.elements.now c.args.model.now c.args.log.now in every-fails tests_0 1 (sym c.is_elements_table.ensures ∙ c.if-not-is_elements_table.true)

pub bounds-elements-1 : goal.bounds-elements-1
bounds-elements-1 c = let elements-passed_0 : is_elements_table (get_or c.args.schema.now 0 0) (length c.args.deck.now) c.args.elements.now ≡ true = sym c.is_elements_table.ensures ∙ c.if-not-is_elements_table.false in let elements-size_0 : length c.args.elements.now ≡ elements_size = elements-length (get_or c.args.schema.now 0 0) (length c.args.deck.now) c.args.elements.now elements-passed_0 in let s = elements-size_0 in search rules

pub is_model_table-requires : goal.is_model_table-requires
is_model_table-requires c = let elements-passed_0 : is_elements_table (get_or c.args.schema.now 0 0) (length c.args.deck.now) c.args.elements.now ≡ true = sym c.is_elements_table.ensures ∙ c.if-not-is_elements_table.false in few-texts (get_or c.args.schema.now 0 0) (length c.args.deck.now) c.args.elements.now elements-passed_0

pub returns-then-not-is_model_table : goal.returns-then-not-is_model_table
unfolding tables_pass
returns-then-not-is_model_table c = let tests_0 : List Bool = tables_tests (length c.args.deck.now) c.args.schema.now c.args.elements.now c.args.model.now c.args.log.now in every-fails tests_0 2 (sym c.is_model_table.ensures ∙ c.if-not-is_model_table.true)

pub bounds-model-0 : goal.bounds-model-0
bounds-model-0 c = let model-passed_0 : is_model_table (get_or c.args.elements.now 1 0) c.args.model.now ≡ true = sym c.is_model_table.ensures ∙ c.if-not-is_model_table.false in let elements-passed_0 : is_elements_table (get_or c.args.schema.now 0 0) (length c.args.deck.now) c.args.elements.now ≡ true = sym c.is_elements_table.ensures ∙ c.if-not-is_elements_table.false in
    let s = model-length (get_or c.args.schema.now 0 0) (length c.args.deck.now) c.args.elements.now elements-passed_0 c.args.model.now model-passed_0 in
    search rules

pub bounds-elements-0 : goal.bounds-elements-0
bounds-elements-0 c = let elements-passed_0 : is_elements_table (get_or c.args.schema.now 0 0) (length c.args.deck.now) c.args.elements.now ≡ true = sym c.is_elements_table.ensures ∙ c.if-not-is_elements_table.false in let elements-size_0 : length c.args.elements.now ≡ elements_size = elements-length (get_or c.args.schema.now 0 0) (length c.args.deck.now) c.args.elements.now elements-passed_0 in let s = elements-size_0 in search rules

pub returns-then-model-elements : goal.returns-then-model-elements
unfolding tables_pass
returns-then-model-elements c = let tests_0 : List Bool = tables_tests (length c.args.deck.now) c.args.schema.now c.args.elements.now c.args.model.now c.args.log.now in every-fails tests_0 3 (ne_eqb (get_or c.args.model.now 0 0) (get_or c.args.elements.now 0 0) (λ e. omega arith))

pub bounds-elements-0-2 : goal.bounds-elements-0-2
bounds-elements-0-2 c = let elements-passed_0 : is_elements_table (get_or c.args.schema.now 0 0) (length c.args.deck.now) c.args.elements.now ≡ true = sym c.is_elements_table.ensures ∙ c.if-not-is_elements_table.false in let elements-size_0 : length c.args.elements.now ≡ elements_size = elements-length (get_or c.args.schema.now 0 0) (length c.args.deck.now) c.args.elements.now elements-passed_0 in let s = elements-size_0 in search rules

pub returns : goal.returns
unfolding tables_pass
returns c = let model-passed_0 : is_model_table (get_or c.args.elements.now 1 0) c.args.model.now ≡ true = sym c.is_model_table.ensures ∙ c.if-not-is_model_table.false in let elements-passed_0 : is_elements_table (get_or c.args.schema.now 0 0) (length c.args.deck.now) c.args.elements.now ≡ true = sym c.is_elements_table.ensures ∙ c.if-not-is_elements_table.false in let schema-passed_0 : is_schema_table c.args.schema.now ≡ true = sym c.is_schema_table.ensures ∙ c.if-not-is_schema_table.false in
    let same = eq-eqb (get_or c.args.model.now 0 0) (get_or c.args.elements.now 0 0) (omega arith) in
    rw (schema-passed_0, elements-passed_0, model-passed_0, same, c.is_log_table.ensures)
