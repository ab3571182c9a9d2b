use mathlib.Core.Path.{◌≡◌}
use Rattle.imports.proofs.Laws.Imports.{not-done, imports-end, imports-stop, imports-more}
use borrow.Author.Rules.{rules}
use Rattle.imports.proofs.import.import_new_items.Goals as goal

pub loop-i-preserved : goal.loop-i-preserved
loop-i-preserved c =
    imports-more c.args.schema.now c.args.elements.now c.args.work.now c.args.rows.first c.args.rows.new c.args.f.0 c.args.v c.args.p.0 c.args.model.now c.args.log.now c.loop-i.model c.loop-i.log c.loop-i.i c.loop-i.invariant c.rows_together-k.result c.rows_together-k.ensures.within c.import_rows.new.model c.import_rows.new.log c.import_rows.result c.import_rows.ensures.by_index c.in_ok-import_rows.was c.import_rows.ensures.keeps_state

pub returns-in_err-import_rows : goal.returns-in_err-import_rows
returns-in_err-import_rows c =
    let same : c.from_residual.result ≡ c.import_rows.result = search rules in
    record { by_index = λ deck. rw same (imports-stop c.args.schema.now c.args.elements.now c.args.work.now c.args.rows.first c.args.rows.new c.args.f.0 c.args.v c.args.p.0 c.args.model.now c.args.log.now c.loop-i.model c.loop-i.log c.loop-i.i c.loop-i.invariant c.rows_together-k.result c.rows_together-k.ensures.within c.import_rows.new.model c.import_rows.new.log c.import_rows.result c.import_rows.ensures.by_index (not-done c.in_err-import_rows.was) deck); keeps_state = λ n texts q. c.import_rows.ensures.keeps_state n texts (c.loop-i.invariant.keeps n texts q) }

pub returns-clause-by_index : goal.returns-clause-by_index
returns-clause-by_index c =
    imports-end c.args.schema.now c.args.elements.now c.args.work.now c.args.rows.first c.args.rows.new c.args.f.0 c.args.v c.args.p.0 c.args.model.now c.args.log.now c.loop-i.model c.loop-i.log c.loop-i.i c.loop-i.invariant c.loop-i-test.false
