use mathlib.Core.Path.{◌≡◌, ◌∙◌}
use borrow.Author.Rules.{rules}
use Rattle.imports.proofs.Laws.Imports.{not-done}
use Rattle.tables.specs.SetCells.{set_is}
use Rattle.state_test.specs.StateTest.{fixed_in, state_in}
use Rattle.pairs.proofs.Laws.Settle.{fallen-on, fallen-stop}
use Rattle.pairs.proofs.settle.fall_back.Goals as goal

pub restrict-requires : goal.restrict-requires
restrict-requires c =
    let g = c.rollback_merge.ensures.keeps_state _ _ c.requires.state_over in record { good_model = g.model_fits.good; good_log = g.log_fits.good; e_bound = rw g.model_fits.same c.requires.a_in_bounds }

pub import_instead-requires-clause-state_over : goal.import_instead-requires-clause-state_over
import_instead-requires-clause-state_over c =
    c.restrict.ensures.keeps_state _ _ (c.rollback_merge.ensures.keeps_state _ _ c.requires.state_over)

pub returns : goal.returns
returns c = record { by_index = λ deck. c.import_instead.ensures.by_index deck ∙ fallen-on (fixed_in deck c.args.schema.now c.args.elements.now) c.args.f.0 c.args.v c.args.p.0 (record { a = c.args.a.0; b = c.args.b.0 }) c.args.e.0 (state_in c.args.model.now c.args.log.now) (set_is c.args.files) c.args.mark (state_in c.rollback_merge.new.model c.rollback_merge.new.log) (state_in c.restrict.new.model c.restrict.new.log) c.restrict.result c.rollback_merge.ensures.log_after c.restrict.ensures.log_after c.in_ok-restrict.was; keeps_state = λ n texts s. c.import_instead.ensures.keeps_state n texts (c.restrict.ensures.keeps_state n texts (c.rollback_merge.ensures.keeps_state n texts s)) }

pub returns-in_err-restrict : goal.returns-in_err-restrict
returns-in_err-restrict c =
    let same : c.from_residual.result ≡ c.restrict.result = search rules in
    record { by_index = λ deck. rw same (fallen-stop (fixed_in deck c.args.schema.now c.args.elements.now) c.args.f.0 c.args.v c.args.p.0 (record { a = c.args.a.0; b = c.args.b.0 }) c.args.e.0 (state_in c.args.model.now c.args.log.now) (set_is c.args.files) c.args.mark (state_in c.rollback_merge.new.model c.rollback_merge.new.log) (state_in c.restrict.new.model c.restrict.new.log) c.restrict.result c.rollback_merge.ensures.log_after c.restrict.ensures.log_after (not-done c.in_err-restrict.was)); keeps_state = λ n texts s. c.restrict.ensures.keeps_state n texts (c.rollback_merge.ensures.keeps_state n texts s) }
