use Rattle.std.proofs.Common.{arith}
use Rattle.tables.specs.ModelTable.{model_of}
use Rattle.schema_calls.proofs.Laws.Scans.{found-at, found-missing}
use Rattle.state_test.specs.StateTest.{fixed_in}
use Rattle.std.specs.Prelude.{Ok, Err}
use Rattle.insert_range.specs.declared.range.Unplaced.TheVariants.{NoRow}
use Rattle.insert_range.proofs.Laws.Range.{calc-none, calc-read, calc-all, calc-characters, ranges}
use Rattle.insert_range.proofs.range.calc_element_insert_range.Goals as goal

pub returns-in_default : goal.returns-in_default
returns-in_default c =
    let a = c.args in
    ranges a.schema.now a.elements.now a.model.now a.p.0 a.n.0 a.v (Err NoRow)
    (λ deck. calc-none (fixed_in deck a.schema.now a.elements.now) (model_of a.model.now) a.p.0 a.n.0 a.v c.requires.v_lt_version_limit
    c.element_type-t.ensures (found-missing c.find_sub_element.ensures c.in_default.is))

pub returns-in-0 : goal.returns-in-0
returns-in-0 c =
    let a = c.args in
    let r = c.read_content.result in
    ranges a.schema.now a.elements.now a.model.now a.p.0 a.n.0 a.v r
    (λ deck. calc-read (fixed_in deck a.schema.now a.elements.now) (model_of a.model.now) a.p.0 a.n.0 a.v c.requires.v_lt_version_limit
    c.element_type-t.ensures (found-at c.find_sub_element.ensures c.in-Some.is) c.type_mode-mode.ensures c.in-0.is r (c.read_content.ensures deck))

pub returns-in-2 : goal.returns-in-2
returns-in-2 c =
    let a = c.args in
    ranges a.schema.now a.elements.now a.model.now a.p.0 a.n.0 a.v (Ok (record { first = 0; last = c.list_length.result }))
    (λ deck. calc-all (fixed_in deck a.schema.now a.elements.now) (model_of a.model.now) a.p.0 a.n.0 a.v c.requires.v_lt_version_limit
    c.element_type-t.ensures (found-at c.find_sub_element.ensures c.in-Some.is) c.type_mode-mode.ensures (omega arith) (omega arith) c.list_length.ensures)

pub returns-in_default-mode : goal.returns-in_default-mode
returns-in_default-mode c =
    let a = c.args in
    ranges a.schema.now a.elements.now a.model.now a.p.0 a.n.0 a.v (Err NoRow)
    (λ deck. calc-characters (fixed_in deck a.schema.now a.elements.now) (model_of a.model.now) a.p.0 a.n.0 a.v c.requires.v_lt_version_limit
    c.element_type-t.ensures (found-at c.find_sub_element.ensures c.in-Some.is) c.type_mode-mode.ensures (omega arith))
