use mathlib.Core.Path.{◌≡◌, refl, ap, ◌∙◌}
use lib.ListN.{get_or}
use Rattle.tables.specs.SchemaTable.{schema_of, no_sub_element}
use Rattle.tables.proofs.Laws.Cells.{each-get_d}
use Rattle.deck.specs.Schema.{sub_element_rule}
use Rattle.schema_calls.specs.Calls.{rows_above}
use Rattle.schema_calls.proofs.Laws.Closed.{closed-above}
use Rattle.state_test.specs.StateTest.{PathFilled}
use Rattle.state_test.proofs.Laws.Answers.{passed}
use Rattle.state_test.proofs.Laws.Schemas.{sub_element_rules, row-rule-above, closed-groups, valid-stop, valid-more, valid-end}
use borrow.Author.Rules.{rules}
use Rattle.state_test.proofs.schema.rows_valid.Goals as goal

pub loop-i-init : goal.loop-i-init
loop-i-init c = (refl, closed-groups (schema_of c.args.schema.now) c.requires.schema_value)

pub returns-then-not-sub_element_rule : goal.returns-then-not-sub_element_rule
returns-then-not-sub_element_rule c = let answer_0 : let sc = schema_of c.args.schema.now in
    c.sub_element_rule.result ≡ sub_element_rule (rows_above sc c.loop-i.i) (get_or sc.sub_elements c.loop-i.i no_sub_element) = let sc = schema_of c.args.schema.now in
    c.sub_element_rule.ensures ∙ ap (sub_element_rule (rows_above sc c.loop-i.i)) c.row_cells.ensures in
    let sc = schema_of c.args.schema.now in
    valid-stop sub_element_rules sc sc.sub_elements no_sub_element c.loop-i.i c.loop-i.invariant.0 (search rules) (answer_0 ∙ row-rule-above sc c.loop-i.i _) c.if-not-sub_element_rule.true

pub loop-i-preserved : goal.loop-i-preserved
loop-i-preserved c = let answer_0 : let sc = schema_of c.args.schema.now in
    c.sub_element_rule.result ≡ sub_element_rule (rows_above sc c.loop-i.i) (get_or sc.sub_elements c.loop-i.i no_sub_element) = let sc = schema_of c.args.schema.now in
    c.sub_element_rule.ensures ∙ ap (sub_element_rule (rows_above sc c.loop-i.i)) c.row_cells.ensures in let filled_0 : PathFilled (get_or (schema_of c.args.schema.now).sub_elements c.loop-i.i no_sub_element) = each-get_d PathFilled (schema_of c.args.schema.now).sub_elements c.loop-i.i no_sub_element c.requires.each (search rules) in
    let sc = schema_of c.args.schema.now in (
      valid-more sub_element_rules sc sc.sub_elements no_sub_element c.loop-i.i c.loop-i.invariant.0 (search rules) (answer_0 ∙ row-rule-above sc c.loop-i.i _) c.if-not-sub_element_rule.false,
      closed-above sc c.loop-i.i (search rules) c.loop-i.invariant.1 filled_0 (passed answer_0 c.if-not-sub_element_rule.false),
    )

pub returns : goal.returns
returns c =
    let sc = schema_of c.args.schema.now in
    valid-end sub_element_rules sc sc.sub_elements no_sub_element c.loop-i.i c.loop-i.invariant.0 (search rules)
