use mathlib.Core.Path.{sym, ◌∙◌}
use Rattle.tables.specs.SchemaTable.{schema_of}
use Rattle.deck.specs.Schema.{has_group}
use Rattle.schema_calls.specs.Calls.{groups_above}
use Rattle.schema_calls.proofs.Laws.Beginnings.{every-none, every_one, fails-one, every_two, fails-two, every-three, every-four}
use Rattle.schema_calls.proofs.rules.beginnings_declared.Goals as goal

pub returns-then-a-eq0 : goal.returns-then-a-eq0
returns-then-a-eq0 c =
    every-none (has_group (groups_above (schema_of c.args.schema.now) c.args.above) c.args.t.0) c.args.p.0 c.args.p.1 c.args.p.2 c.args.p.3 c.if-a-eq0.true

pub returns-then-b-eq0 : goal.returns-then-b-eq0
returns-then-b-eq0 c =
    every_one (has_group (groups_above (schema_of c.args.schema.now) c.args.above) c.args.t.0) c.args.p.0 c.args.p.1 c.args.p.2 c.args.p.3 c.if-b-eq0.true

pub returns-then-not-has_group : goal.returns-then-not-has_group
returns-then-not-has_group c =
    fails-one (has_group (groups_above (schema_of c.args.schema.now) c.args.above) c.args.t.0) c.args.p.0 c.args.p.1 c.args.p.2 c.args.p.3
    c.if-a-eq0.false
    c.if-b-eq0.false
    (sym c.has_group.ensures ∙ c.if-not-has_group.true)

pub returns-then-c-eq0 : goal.returns-then-c-eq0
returns-then-c-eq0 c =
    every_two (has_group (groups_above (schema_of c.args.schema.now) c.args.above) c.args.t.0) c.args.p.0 c.args.p.1 c.args.p.2 c.args.p.3
    c.if-a-eq0.false
    c.if-b-eq0.false
    (sym c.has_group.ensures ∙ c.if-not-has_group.false)
    c.if-c-eq0.true

pub returns-then-not-has_group-2 : goal.returns-then-not-has_group-2
returns-then-not-has_group-2 c =
    fails-two (has_group (groups_above (schema_of c.args.schema.now) c.args.above) c.args.t.0) c.args.p.0 c.args.p.1 c.args.p.2 c.args.p.3
    c.if-a-eq0.false
    c.if-b-eq0.false
    (sym c.has_group.ensures ∙ c.if-not-has_group.false)
    c.if-c-eq0.false
    (sym c.has_group-2.ensures ∙ c.if-not-has_group-2.true)

pub returns-then-p-eq0 : goal.returns-then-p-eq0
returns-then-p-eq0 c =
    every-three (has_group (groups_above (schema_of c.args.schema.now) c.args.above) c.args.t.0) c.args.p.0 c.args.p.1 c.args.p.2 c.args.p.3
    c.if-a-eq0.false
    c.if-b-eq0.false
    (sym c.has_group.ensures ∙ c.if-not-has_group.false)
    c.if-c-eq0.false
    (sym c.has_group-2.ensures ∙ c.if-not-has_group-2.false)
    c.if-p-eq0.true

pub returns : goal.returns
returns c =
    every-four (has_group (groups_above (schema_of c.args.schema.now) c.args.above) c.args.t.0) c.args.p.0 c.args.p.1 c.args.p.2 c.args.p.3
    c.if-a-eq0.false
    c.if-b-eq0.false
    (sym c.has_group.ensures ∙ c.if-not-has_group.false)
    c.if-c-eq0.false
    (sym c.has_group-2.ensures ∙ c.if-not-has_group-2.false)
    c.if-p-eq0.false
    c.has_group-3.ensures
