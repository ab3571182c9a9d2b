use Rattle.state_test.specs.StateTest.{fixed_in, state_in}
use mathlib.Core.Path.{◌∙◌}
use borrow.Author.Rules.{rules}
use Rattle.imports.proofs.Laws.Imports.{clamp-within, single-places, single-no-row, single-conflict}
use Rattle.imports.proofs.import.import_single_item.Goals as goal

pub import_at-requires-clause-at_in_bounds : goal.import_at-requires-clause-at_in_bounds
import_at-requires-clause-at_in_bounds c =
    clamp-within c.args.wanted _ c.in-Ok.places c.calc_element_insert_range-r.result c.calc_element_insert_range-r.ensures.within c.in-Ok.is c.clamp-at.result c.clamp-at.ensures

pub returns-in-Ok-clause-by_index : goal.returns-in-Ok-clause-by_index
returns-in-Ok-clause-by_index c =
    λ deck. c.import_at.ensures.log_after ∙ single-places (fixed_in deck c.args.schema.now c.args.elements.now) (state_in c.args.model.now c.args.log.now) c.args.f.0 c.args.v c.args.p.0 c.args.e.0 c.args.wanted c.calc_element_insert_range-r.result (rw (← c.element_name-n.ensures) (c.calc_element_insert_range-r.ensures.is deck)) c.in-Ok.places c.clamp-at.result c.in-Ok.is c.clamp-at.ensures

pub returns-in-Err-NoRow-clause-by_index : goal.returns-in-Err-NoRow-clause-by_index
returns-in-Err-NoRow-clause-by_index c =
    λ deck. rw (c.into.ensures, c.element_name-n.ensures) (single-no-row (fixed_in deck c.args.schema.now c.args.elements.now) (state_in c.args.model.now c.args.log.now) c.args.f.0 c.args.v c.args.p.0 c.args.e.0 c.args.wanted c.calc_element_insert_range-r.result (rw (← c.element_name-n.ensures) (c.calc_element_insert_range-r.ensures.is deck)) (search rules))

pub returns-in-Err-Conflicting-clause-by_index : goal.returns-in-Err-Conflicting-clause-by_index
returns-in-Err-Conflicting-clause-by_index c =
    λ deck. single-conflict (fixed_in deck c.args.schema.now c.args.elements.now) (state_in c.args.model.now c.args.log.now) c.args.f.0 c.args.v c.args.p.0 c.args.e.0 c.args.wanted c.calc_element_insert_range-r.result (rw (← c.element_name-n.ensures) (c.calc_element_insert_range-r.ensures.is deck)) (search rules)
