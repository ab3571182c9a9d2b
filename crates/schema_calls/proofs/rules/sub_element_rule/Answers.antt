use Rattle.tables.specs.SchemaTable.{schema_of}
use Rattle.deck.specs.Answers.{row_is}
use Rattle.schema_calls.proofs.Laws.Rules.{sub-path-invalid, sub-child-not, sub-meets, sub-group}
use borrow.Author.Rules.{rules}
use Rattle.schema_calls.proofs.rules.sub_element_rule.Goals as goal

pub returns-then-not-path_valid : goal.returns-then-not-path_valid
returns-then-not-path_valid c =
    sub-path-invalid (schema_of c.args.schema.now) c.args.above (row_is c.args.c) c.group_count-groups.result c.group_count-groups.ensures c.path_valid.ensures
    (c.if-not-path_valid.true)

pub returns-then-not-type_declared : goal.returns-then-not-type_declared
returns-then-not-type_declared c =
    sub-child-not (schema_of c.args.schema.now) c.args.above (row_is c.args.c) c.group_count-groups.result c.group_count-groups.ensures c.path_valid.ensures
    (c.if-not-path_valid.false)
    c.type_declared.ensures
    (c.if-not-type_declared.true)

pub returns-then-repeated : goal.returns-then-repeated
returns-then-repeated c =
    sub-meets (schema_of c.args.schema.now) c.args.above (row_is c.args.c) c.group_count-groups.result c.group_count-groups.ensures c.path_valid.ensures
    (c.if-not-path_valid.false)
    c.type_declared.ensures
    (c.if-not-type_declared.false)
    (search rules)
    (search rules)
    c.requires.repeated_value
    c.if-repeated.true

pub returns : goal.returns
returns c =
    sub-group (schema_of c.args.schema.now) c.args.above (row_is c.args.c) c.group_count-groups.result c.group_count-groups.ensures c.path_valid.ensures
    (c.if-not-path_valid.false)
    c.type_declared.ensures
    (c.if-not-type_declared.false)
    (search rules)
    (search rules)
    c.requires.repeated_value
    c.if-repeated.false
    c.has_group.ensures
