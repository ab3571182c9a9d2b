use Rattle.std.specs.Prelude.{Err}
use mathlib.Core.Path.{◌≡◌, ◌∙◌}
use borrow.Author.Rules.{rules}
use Rattle.load.specs.declared.progress.Kind.TheVariants.{G}
use Rattle.tables.specs.Records.{add_group}
use Rattle.tables.specs.SchemaTable.{schema_of}
use Rattle.deck.specs.Answers.{group_is}
use Rattle.load.proofs.Laws.SchemaLines.{step-schema, g-row, row-late, row-limit, row-broken, row-taken, group-rule-is, fits-group}
use Rattle.load.proofs.Laws.Steps.{line_refused, late_refused}
use Rattle.load.proofs.schema_lines.load_g.Goals as goal

pub returns-in_err-q : goal.returns-in_err-q
returns-in_err-q c elements model g =
    let same : c.from_residual.result ≡ Err c.in_err-q.field-0.0 = search rules in
    rw same (late_refused g c.in_err-q.ensures.refused.1 (g-row _ _ ∙ row-late _ _ _ _ _ _ c.in_err-q.ensures.refused.0))

pub returns-then-n-ge-GROUP_LIMIT : goal.returns-then-n-ge-GROUP_LIMIT
returns-then-n-ge-GROUP_LIMIT c elements model g =
    let early = c.in_ok-q.ensures.taken.0 in
    line_refused g
    (g-row _ _ ∙ row-limit _ _ _ _ _ _ early (rw c.group_count-n.ensures at c.if-n-ge-GROUP_LIMIT.true))

pub group_rule-requires : goal.group_rule-requires
group_rule-requires c = record { good_schema = search rules; above_in_bounds = search rules; repeated_value = c.has_group-repeated.ensures }

pub returns-then-not-group_rule : goal.returns-then-not-group_rule
returns-then-not-group_rule c elements model g =
    let early = c.in_ok-q.ensures.taken.0 in
    let rule =
    group-rule-is (schema_of c.args.schema.now) _ (group_is c.args.c) _ _ c.group_count-n.ensures (c.group_rule.ensures _) (c.if-not-group_rule.true)
    in
    line_refused g
    (g-row _ _ ∙ row-broken _ _ _ _ _ _ early (rw c.group_count-n.ensures at c.if-n-ge-GROUP_LIMIT.false) rule)

pub returns : goal.returns
returns c elements model g =
    let early = c.in_ok-q.ensures.taken.0 in
    let xs = c.args.schema.now in
    let rule =
    group-rule-is (schema_of c.args.schema.now) _ (group_is c.args.c) _ _ c.group_count-n.ensures (c.group_rule.ensures _) (c.if-not-group_rule.false)
    in
    step-schema G (add_group (schema_of xs) (group_is c.args.c))
    c.in_ok-q.ensures.taken.1
    g
    c.add_group.ensures
    (fits-group _ g.fits _ early rule)
    (g-row _ _ ∙ row-taken _ _ _ _ _ _ early (rw c.group_count-n.ensures at c.if-n-ge-GROUP_LIMIT.false) rule)
