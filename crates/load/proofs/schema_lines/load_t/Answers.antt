use Rattle.std.specs.Prelude.{Err}
use mathlib.Core.Path.{◌≡◌, sym, ◌∙◌}
use borrow.Author.Rules.{rules}
use Rattle.load.specs.declared.progress.Kind.TheVariants.{T}
use Rattle.tables.specs.Records.{add_type}
use Rattle.tables.specs.SchemaTable.{schema_of}
use Rattle.deck.specs.Answers.{type_is}
use Rattle.load.proofs.Laws.SchemaLines.{step-schema, t-late, t-order, t-limit, t-taken, fits-type}
use Rattle.load.proofs.Laws.Steps.{line_refused, late_refused}
use Rattle.load.proofs.schema_lines.load_t.Goals as goal

pub returns-in_err-q : goal.returns-in_err-q
returns-in_err-q c elements model g =
    let same : c.from_residual.result ≡ Err c.in_err-q.field-0.0 = search rules in
    rw same (late_refused g c.in_err-q.ensures.refused.1 (t-late _ _ _ c.in_err-q.ensures.refused.0))

pub returns-then-t-type_count : goal.returns-then-t-type_count
returns-then-t-type_count c elements model g =
    let early = c.in_ok-q.ensures.taken.0 in
    line_refused g
    (t-order _ _ _ early (λ e. c.if-t-type_count.true (e ∙ sym c.type_count.ensures)))

pub returns-then-t-ge-TYPE_LIMIT : goal.returns-then-t-ge-TYPE_LIMIT
returns-then-t-ge-TYPE_LIMIT c elements model g =
    let early = c.in_ok-q.ensures.taken.0 in
    line_refused g
    (t-limit _ _ _ early (c.if-t-type_count.false ∙ c.type_count.ensures) c.if-t-ge-TYPE_LIMIT.true)

pub returns : goal.returns
returns c elements model g =
    let early = c.in_ok-q.ensures.taken.0 in
    let xs = c.args.schema.now in
    step-schema T (add_type (schema_of xs) (type_is c.args.c))
    c.in_ok-q.ensures.taken.1
    g
    c.add_type.ensures
    (fits-type _ g.fits _ early)
    (t-taken _ _ _ early (c.if-t-type_count.false ∙ c.type_count.ensures) c.if-t-ge-TYPE_LIMIT.false)
