use Rattle.std.specs.Prelude.{Err}
use Rattle.std.proofs.lemmas.Result.{IfOk-at_ok, IfErr-at_err}
use Rattle.merge.specs.declared.calls.CallError.TheVariants.{BadTables}
use mathlib.Core.Bool.{true}
use mathlib.Core.Path.{◌≡◌, ◌∙◌}
use Prim.Native.Nat.{◌<◌}
use native.Mathlib.Omega.{arith}
use lib.ListN.{length}
use Rattle.tables.specs.ElementsTable.{elements_of}
use Rattle.tables.specs.SchemaTable.{schema_of}
use Rattle.state_test.specs.StateTest.{lent_tables_pass}
use Rattle.table_test.specs.TablesTest.{TestedTables}
use Rattle.merge.proofs.Laws.Calls.{range-bad, no-element, no-version, no_rows, range-found}
use Rattle.state_test.proofs.Laws.States.{passed-tables}
use Rattle.table_test.proofs.Laws.Tested.{model-fits, type-in}
use Rattle.merge.proofs.calls.range.Goals as goal
use Rattle.merge.proofs.calls.range.Goals.{then-element_count-element-via-then-element_count-element, then-element_count-element-via-else-element_count-element+then-version-ge-VERSION_LIMIT}

pub returns-in_err-tested : goal.returns-in_err-tested
returns-in_err-tested c =
    let bad = IfErr-at_err _ c.in_err-tested.was c.tested.ensures.fail in
    let same : c.from_residual.result ≡ Err BadTables = grind arith in
    rw same (range-bad c.args.deck.now c.args.schema.now c.args.elements.now c.args.model.now c.args.log.now c.args.element c.args.name c.args.version bad.1)

pub element_count-requires : goal.element_count-requires
element_count-requires c = let pass_0 : lent_tables_pass c.args.deck.now c.args.schema.now c.args.elements.now c.args.model.now c.args.log.now ≡ true = IfOk-at_ok _ c.in_ok-tested.was c.tested.ensures.pass in let tested_0 : TestedTables (length c.args.deck.now) c.args.schema.now c.args.elements.now c.args.model.now c.args.log.now = passed-tables c.args.deck.now c.args.schema.now c.args.elements.now c.args.model.now c.args.log.now pass_0 in tested_0.elements_tested.good

pub returns-then-element_count-element : goal.returns-then-element_count-element
returns-then-element_count-element c =
    let pass = IfOk-at_ok _ c.in_ok-tested.was c.tested.ensures.pass in
    rw c.into.ensures
    (elim c.then-element_count-element.branch [
      | then-element_count-element-via-then-element_count-element w ↦ no-element c.args.deck.now c.args.schema.now c.args.elements.now c.args.model.now c.args.log.now c.args.element c.args.name c.args.version pass (omega (arith, c.element_count.ensures, w.if-element_count-element.true))
      | then-element_count-element-via-else-element_count-element+then-version-ge-VERSION_LIMIT w ↦
          no-version c.args.deck.now c.args.schema.now c.args.elements.now c.args.model.now c.args.log.now c.args.element c.args.name c.args.version pass (omega (arith, c.element_count.ensures, w.if-element_count-element.false)) w.if-version-ge-VERSION_LIMIT.true
    ])

pub element_type-t-requires : goal.element_type-t-requires
element_type-t-requires c = let there_0 : c.args.element < length (elements_of c.args.elements.now).names = omega (arith, c.element_count.ensures, c.if-element_count-element.false) in let pass_0 : lent_tables_pass c.args.deck.now c.args.schema.now c.args.elements.now c.args.model.now c.args.log.now ≡ true = IfOk-at_ok _ c.in_ok-tested.was c.tested.ensures.pass in let tested_0 : TestedTables (length c.args.deck.now) c.args.schema.now c.args.elements.now c.args.model.now c.args.log.now = passed-tables c.args.deck.now c.args.schema.now c.args.elements.now c.args.model.now c.args.log.now pass_0 in record { good_elements = tested_0.elements_tested.good; e_in_bounds = there_0 }

pub type_mode-requires : goal.type_mode-requires
type_mode-requires c = let there_0 : c.args.element < length (elements_of c.args.elements.now).names = omega (arith, c.element_count.ensures, c.if-element_count-element.false) in let pass_0 : lent_tables_pass c.args.deck.now c.args.schema.now c.args.elements.now c.args.model.now c.args.log.now ≡ true = IfOk-at_ok _ c.in_ok-tested.was c.tested.ensures.pass in let tested_0 : TestedTables (length c.args.deck.now) c.args.schema.now c.args.elements.now c.args.model.now c.args.log.now = passed-tables c.args.deck.now c.args.schema.now c.args.elements.now c.args.model.now c.args.log.now pass_0 in
    let t = tested_0 in record { good_schema = t.schema_tested.good; t_in_bounds = rw c.element_type-t.ensures (type-in c.args.elements.now (length (schema_of c.args.schema.now).types) c.args.element t.elements_tested.good t.elements_tested.types_in there_0) }

pub returns-then-type_mode-eq-CHARACTERS : goal.returns-then-type_mode-eq-CHARACTERS
returns-then-type_mode-eq-CHARACTERS c = let there_0 : c.args.element < length (elements_of c.args.elements.now).names = omega (arith, c.element_count.ensures, c.if-element_count-element.false) in let pass_0 : lent_tables_pass c.args.deck.now c.args.schema.now c.args.elements.now c.args.model.now c.args.log.now ≡ true = IfOk-at_ok _ c.in_ok-tested.was c.tested.ensures.pass in
    rw c.into-then-type_mode-eq-CHARACTERS.ensures (no_rows c.args.deck.now c.args.schema.now c.args.elements.now c.args.model.now c.args.log.now c.args.element c.args.name c.args.version pass_0 there_0 c.if-version-ge-VERSION_LIMIT.false c.element_type-t.ensures c.type_mode.ensures c.if-type_mode-eq-CHARACTERS.true)

pub calc_element_insert_range-r-requires : goal.calc_element_insert_range-r-requires
calc_element_insert_range-r-requires c = let there_0 : c.args.element < length (elements_of c.args.elements.now).names = omega (arith, c.element_count.ensures, c.if-element_count-element.false) in let pass_0 : lent_tables_pass c.args.deck.now c.args.schema.now c.args.elements.now c.args.model.now c.args.log.now ≡ true = IfOk-at_ok _ c.in_ok-tested.was c.tested.ensures.pass in let tested_0 : TestedTables (length c.args.deck.now) c.args.schema.now c.args.elements.now c.args.model.now c.args.log.now = passed-tables c.args.deck.now c.args.schema.now c.args.elements.now c.args.model.now c.args.log.now pass_0 in
    let t = tested_0 in record { good_schema = t.schema_tested.good; good_elements = t.elements_tested.good; each = t.elements_tested.types_in; model_over = model-fits c.args.deck.now c.args.schema.now c.args.elements.now c.args.model.now c.args.log.now t; p_in_bounds = there_0; v_lt_version_limit = c.if-version-ge-VERSION_LIMIT.false }

pub returns : goal.returns
returns c = let there_0 : c.args.element < length (elements_of c.args.elements.now).names = omega (arith, c.element_count.ensures, c.if-element_count-element.false) in let pass_0 : lent_tables_pass c.args.deck.now c.args.schema.now c.args.elements.now c.args.model.now c.args.log.now ≡ true = IfOk-at_ok _ c.in_ok-tested.was c.tested.ensures.pass in
    c.range_answer.ensures ∙ range-found c.args.deck.now c.args.schema.now c.args.elements.now c.args.model.now c.args.log.now c.args.element c.args.name c.args.version pass_0 there_0 c.if-version-ge-VERSION_LIMIT.false c.element_type-t.ensures c.type_mode.ensures c.if-type_mode-eq-CHARACTERS.false (c.calc_element_insert_range-r.ensures.is c.args.deck.now)
