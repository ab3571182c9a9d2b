use Rattle.std.specs.Prelude.{Err}
use mathlib.Core.Path.{◌≡◌, sym, ◌∙◌}
use borrow.Author.Rules.{rules}
use Rattle.load.specs.declared.progress.Kind.TheVariants.{F}
use Rattle.tables.specs.Limits.{file_limit}
use Rattle.tables.specs.Records.{File, add_file}
use Rattle.tables.specs.SchemaTable.{schema_of}
use Rattle.deck.specs.Answers.{file_is}
use Rattle.load.proofs.Laws.SchemaLines.{step-schema, f-late, f-order, f-taken, below_new, fits-file}
use Rattle.load.proofs.Laws.Steps.{line_refused, late_refused}
use Rattle.load.proofs.Laws.Taken.{taken-room}
use Rattle.load.proofs.schema_lines.load_f.Goals as goal

pub returns-in_err-q : goal.returns-in_err-q
returns-in_err-q c elements model g =
    let same : c.from_residual.result ≡ Err c.in_err-q.field-0.0 = search rules in
    rw same (late_refused g c.in_err-q.ensures.refused.1 (f-late _ _ c.in_err-q.ensures.refused.0))

pub returns-then-not-files_below : goal.returns-then-not-files_below
returns-then-not-files_below c elements model g =
    let early = c.in_ok-q.ensures.taken.0 in
    line_refused g
    (f-order _ _ early (sym c.files_below.ensures ∙ c.if-not-files_below.true))

pub add_file-requires : goal.add_file-requires
add_file-requires c =
    let xs = c.args.schema.now in
    let below = sym c.files_below.ensures ∙ c.if-not-files_below.false in
    let new = below_new (λ (d : File). d.file) _ (schema_of xs).files below in
    record {
      good_schema = c.requires.good_schema;
      schema_len_bound = taken-room (λ (d : File). d.file) file_limit (schema_of xs).files (file_is c.args.c)
          c.requires.file_lt_file_limit.0 new c.requires.schema_len;
    }

pub returns : goal.returns
returns c elements model g =
    let early = c.in_ok-q.ensures.taken.0 in
    let xs = c.args.schema.now in
    let below = sym c.files_below.ensures ∙ c.if-not-files_below.false in
    let new = below_new (λ (d : File). d.file) _ (schema_of xs).files below in
    step-schema F (add_file (schema_of xs) (file_is c.args.c))
    c.in_ok-q.ensures.taken.1
    g
    c.add_file.ensures
    (fits-file _ g.fits _ c.requires.file_lt_file_limit.0 new)
    (f-taken _ _ early below)
