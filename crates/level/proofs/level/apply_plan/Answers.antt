use mathlib.Core.Path.{◌≡◌, ◌∙◌}
use borrow.Author.Rules.{rules}
use Rattle.tables.specs.SetCells.{set_is}
use Rattle.state_test.specs.StateTest.{fixed_in, state_in}
use Rattle.pairing.specs.Plans.{plan_in}
use Rattle.imports.proofs.Laws.Imports.{not-done}
use Rattle.level.proofs.Laws.Level.{new-low}
use Rattle.level.proofs.Laws.Restrictions.{apply-stop, apply-imports}
use Rattle.level.proofs.level.apply_plan.Goals as goal

pub returns-in_err-restrict_elements-clause-by_index : goal.returns-in_err-restrict_elements-clause-by_index
returns-in_err-restrict_elements-clause-by_index c =
    let same : c.from_residual.result ≡ c.restrict_elements.result = search rules in
    λ deck. rw same (apply-stop (fixed_in deck c.args.schema.now c.args.elements.now) c.args.d.file.0 (set_is c.args.d.files) c.args.a.0 (plan_in c.args.rows.first c.args.rows.new c.args.work.now) (state_in c.args.model.now c.args.log.now) (state_in c.restrict_elements.new.model c.restrict_elements.new.log) c.restrict_elements.result c.restrict_elements.ensures.log_after (not-done c.in_err-restrict_elements.was))

pub import_new_items-requires-clause-model_over : goal.import_new_items-requires-clause-model_over
import_new_items-requires-clause-model_over c =
    (c.restrict_elements.ensures.keeps_state _ _ c.requires.state_over).model_fits

pub import_new_items-requires-clause-log_fits : goal.import_new_items-requires-clause-log_fits
import_new_items-requires-clause-log_fits c =
    (c.restrict_elements.ensures.keeps_state _ _ c.requires.state_over).log_fits

pub import_new_items-requires-clause-v_lt_version_limit : goal.import_new_items-requires-clause-v_lt_version_limit
import_new_items-requires-clause-v_lt_version_limit c =
    new-low c.args.schema.now c.args.d.file.0 c.args.d.version c.requires.version_value c.requires.tested_schema

pub returns : goal.returns
returns c = record {
  by_index = λ deck. c.import_new_items.ensures.by_index deck ∙ apply-imports (fixed_in deck c.args.schema.now c.args.elements.now) c.args.d.file.0 (set_is c.args.d.files) c.args.a.0 (plan_in c.args.rows.first c.args.rows.new c.args.work.now) (state_in c.args.model.now c.args.log.now) (state_in c.restrict_elements.new.model c.restrict_elements.new.log) c.restrict_elements.result c.restrict_elements.ensures.log_after c.in_ok-restrict_elements.was c.args.d.version c.requires.version_value;
  keeps_state = λ n texts q. c.import_new_items.ensures.keeps_state n texts (c.restrict_elements.ensures.keeps_state n texts q);
}
