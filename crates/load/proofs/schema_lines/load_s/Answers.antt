use Rattle.std.specs.Prelude.{Err}
use mathlib.Core.Path.{◌≡◌, sym, subst, ◌∙◌}
use native.Mathlib.Omega.{arith}
use borrow.Author.Rules.{rules}
use Rattle.load.specs.declared.progress.Kind.TheVariants.{S}
use Rattle.tables.specs.Records.{add_sub_element}
use Rattle.tables.specs.SchemaTable.{schema_of}
use Rattle.deck.specs.Answers.{row_is}
use Rattle.schema_calls.specs.Calls.{PathsClosed}
use Rattle.schema_calls.proofs.Laws.Schemas.{rows_all}
use Rattle.load.proofs.Laws.SchemaLines.{step-schema, s-row, row-late, row-limit, row-broken, row-taken, row-rule-is, fits-row}
use Rattle.load.proofs.Laws.Steps.{line_refused, late_refused}
use Rattle.load.proofs.schema_lines.load_s.Goals as goal

pub returns-in_err-q : goal.returns-in_err-q
returns-in_err-q c elements model g =
    let same : c.from_residual.result ≡ Err c.in_err-q.field-0.0 = search rules in
    rw same (late_refused g c.in_err-q.ensures.refused.1 (s-row _ _ ∙ row-late _ _ _ _ _ _ c.in_err-q.ensures.refused.0))

pub returns-then-n-ge-ROW_LIMIT : goal.returns-then-n-ge-ROW_LIMIT
returns-then-n-ge-ROW_LIMIT c elements model g =
    let early = c.in_ok-q.ensures.taken.0 in
    line_refused g
    (s-row _ _ ∙ row-limit _ _ _ _ _ _ early (rw c.row_count-n.ensures at c.if-n-ge-ROW_LIMIT.true))

pub sub_element_rule-requires : goal.sub_element_rule-requires
sub_element_rule-requires c =
    let closed = subst PathsClosed (sym (rows_all (schema_of c.args.schema.now) _ c.row_count-n.ensures)) c.requires.paths_closed in
    record {
      good_schema = c.requires.good_schema;
      above_in_bounds = omega (arith, c.row_count-n.ensures);
      paths_closed = closed;
      nonzero = c.requires.path_fits;
      repeated_value = c.rows_meet-repeated.ensures;
    }

pub returns-then-not-sub_element_rule : goal.returns-then-not-sub_element_rule
returns-then-not-sub_element_rule c elements model g =
    let early = c.in_ok-q.ensures.taken.0 in
    let rule =
    row-rule-is (schema_of c.args.schema.now) _ (row_is c.args.c) _ _ c.row_count-n.ensures c.sub_element_rule.ensures
    (c.if-not-sub_element_rule.true)
    in
    line_refused g
    (s-row _ _ ∙ row-broken _ _ _ _ _ _ early (rw c.row_count-n.ensures at c.if-n-ge-ROW_LIMIT.false) rule)

pub returns : goal.returns
returns c elements model g =
    let early = c.in_ok-q.ensures.taken.0 in
    let xs = c.args.schema.now in
    let rule =
    row-rule-is (schema_of c.args.schema.now) _ (row_is c.args.c) _ _ c.row_count-n.ensures c.sub_element_rule.ensures
    (c.if-not-sub_element_rule.false)
    in
    step-schema S (add_sub_element (schema_of xs) (row_is c.args.c))
    c.in_ok-q.ensures.taken.1
    g
    c.add_row.ensures
    (fits-row _ g.fits _ c.requires.path_fits rule)
    (s-row _ _ ∙ row-taken _ _ _ _ _ _ early (rw c.row_count-n.ensures at c.if-n-ge-ROW_LIMIT.false) rule)
