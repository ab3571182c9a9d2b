use mathlib.Core.Path.{◌∙◌}
use Rattle.state_test.specs.StateTest.{fixed_in, state_in}
use Rattle.imports.proofs.Laws.Imports.{clamp-within}
use Rattle.pairs.proofs.Laws.Settle.{instead-at, instead-conflict}
use Rattle.pairs.proofs.settle.import_instead.Goals as goal

pub returns-in_default-clause-by_index : goal.returns-in_default-clause-by_index
returns-in_default-clause-by_index c =
    λ deck. instead-conflict (fixed_in deck c.args.schema.now c.args.elements.now) c.args.f.0 c.args.v c.args.p.0 (record { a = c.args.a.0; b = c.args.b.0 }) c.args.e.0 (state_in c.args.model.now c.args.log.now) c.calc_element_insert_range.result (rw (← c.element_name-n.ensures) (c.calc_element_insert_range.ensures.is deck)) c.in_default.not-Ok

pub import_at-requires-clause-at_in_bounds : goal.import_at-requires-clause-at_in_bounds
import_at-requires-clause-at_in_bounds c =
    clamp-within c.place_behind-wanted.result _ c.in-Ok.places c.calc_element_insert_range.result c.calc_element_insert_range.ensures.within c.in-Ok.is c.clamp-at.result c.clamp-at.ensures

pub returns-clause-by_index : goal.returns-clause-by_index
returns-clause-by_index c =
    λ deck. c.import_at.ensures.log_after ∙ instead-at (fixed_in deck c.args.schema.now c.args.elements.now) c.args.f.0 c.args.v c.args.p.0 (record { a = c.args.a.0; b = c.args.b.0 }) c.args.e.0 (state_in c.args.model.now c.args.log.now) c.in-Ok.places c.place_behind-wanted.result c.clamp-at.result c.calc_element_insert_range.result (rw (← c.element_name-n.ensures) (c.calc_element_insert_range.ensures.is deck)) c.in-Ok.is c.place_behind-wanted.ensures c.clamp-at.ensures
