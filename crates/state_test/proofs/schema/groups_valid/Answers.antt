use mathlib.Core.Path.{◌≡◌, ap, ◌∙◌}
use lib.ListN.{get_or, take}
use Rattle.tables.specs.SchemaTable.{schema_of, no_group}
use Rattle.deck.specs.Schema.{group_rule}
use Rattle.schema_calls.specs.Calls.{groups_above}
use Rattle.schema_calls.proofs.Laws.Groups.{has_above}
use Rattle.state_test.proofs.Laws.Schemas.{group_rules, with_groups, group-rule-above, group-is, valid-stop, valid-more, valid-end}
use borrow.Author.Rules.{rules}
use Rattle.state_test.proofs.schema.groups_valid.Goals as goal

pub group_rule-requires-clause-repeated_value : goal.group_rule-requires-clause-repeated_value
group_rule-requires-clause-repeated_value c =
    let sc = schema_of c.args.schema.now in
    let i = c.loop-i.i in
    let g = get_or sc.groups i no_group in
    rw (c.group_type-t.ensures, c.group_path-p.ensures) (has_above sc i g.type g.path (search rules) c.repeats-repeated.ensures)

pub returns-then-not-group_rule : goal.returns-then-not-group_rule
returns-then-not-group_rule c = let answer_0 : let sc = schema_of c.args.schema.now in
    let i = c.loop-i.i in
    c.group_rule.result ≡ group_rule (with_groups sc (take i sc.groups)) (get_or sc.groups i no_group) = let sc = schema_of c.args.schema.now in
    let i = c.loop-i.i in
    let g = get_or sc.groups i no_group in
    c.group_rule.ensures g.mode
    ∙ ap (group_rule (groups_above sc i)) (group-is g c.group_type-t.ensures c.group_path-p.ensures)
    ∙ group-rule-above sc i g in
    let sc = schema_of c.args.schema.now in
    valid-stop group_rules sc sc.groups no_group c.loop-i.i c.loop-i.invariant (search rules) answer_0 c.if-not-group_rule.true

pub loop-i-preserved : goal.loop-i-preserved
loop-i-preserved c = let answer_0 : let sc = schema_of c.args.schema.now in
    let i = c.loop-i.i in
    c.group_rule.result ≡ group_rule (with_groups sc (take i sc.groups)) (get_or sc.groups i no_group) = let sc = schema_of c.args.schema.now in
    let i = c.loop-i.i in
    let g = get_or sc.groups i no_group in
    c.group_rule.ensures g.mode
    ∙ ap (group_rule (groups_above sc i)) (group-is g c.group_type-t.ensures c.group_path-p.ensures)
    ∙ group-rule-above sc i g in
    let sc = schema_of c.args.schema.now in
    valid-more group_rules sc sc.groups no_group c.loop-i.i c.loop-i.invariant (search rules) answer_0 c.if-not-group_rule.false

pub returns : goal.returns
returns c =
    let sc = schema_of c.args.schema.now in
    valid-end group_rules sc sc.groups no_group c.loop-i.i c.loop-i.invariant (search rules)
