use mathlib.Core.Path.{◌∙◌}
use Rattle.tables.specs.SetCells.{set_is}
use Rattle.state_test.specs.StateTest.{fixed_in, state_in}
use Rattle.pairing.proofs.Laws.Keys.{element-type-in}
use Rattle.pairs.proofs.Laws.Settle.{conflict-keyed, conflict-up, conflict-falls}
use Rattle.pairs.proofs.settle.settle_conflict.Goals as goal

pub invariant_of-tables : goal.invariant_of-tables
invariant_of-tables c = record { good_fixed = c.requires.good_fixed; model_over = c.requires.state_over.model_fits }

pub returns-then-is_keyed : goal.returns-then-is_keyed
returns-then-is_keyed c =
    let x = fixed_in c.args.deck.now c.args.schema.now c.args.elements.now in record { log_after = rw c.into.ensures (conflict-keyed x c.args.f.0 c.args.v c.args.p.0 (record { a = c.args.a.0; b = c.args.b.0 }) (set_is c.args.files) c.args.mark c.args.e.0 (state_in c.args.model.now c.args.log.now) c.is_keyed.ensures c.if-is_keyed.true); keeps_state = λ n texts s. s }

pub splittable_in-requires : goal.splittable_in-requires
splittable_in-requires c = record { good_schema = c.requires.good_fixed.schema_tested.good; t_in_bounds = element-type-in c.requires.good_fixed c.args.p.0 c.requires.p_in_bounds c.element_type-t.ensures; v_lt_version_limit = c.requires.v_lt_version_limit }

pub returns-then-not-splittable_in : goal.returns-then-not-splittable_in
returns-then-not-splittable_in c =
    let x = fixed_in c.args.deck.now c.args.schema.now c.args.elements.now in record { log_after = conflict-up x c.args.f.0 c.args.v c.args.p.0 (record { a = c.args.a.0; b = c.args.b.0 }) (set_is c.args.files) c.args.mark c.args.e.0 (state_in c.args.model.now c.args.log.now) c.is_keyed.ensures c.if-is_keyed.false c.element_type-t.ensures c.splittable_in.ensures c.if-not-splittable_in.true; keeps_state = λ n texts s. s }

pub fall_back-requires : goal.fall_back-requires
fall_back-requires c = record { good_schema = c.requires.good_fixed.schema_tested.good; good_elements = c.requires.good_fixed.elements_good; each = c.requires.good_fixed.types_in; state_over = c.requires.state_over; f_lt_file_limit = c.requires.f_lt_file_limit; v_lt_version_limit = c.requires.v_lt_version_limit; p_in_bounds = c.requires.p_in_bounds; a_in_bounds = c.requires.a_in_bounds; b_in_bounds = c.requires.b_in_bounds }

pub returns : goal.returns
returns c =
    let x = fixed_in c.args.deck.now c.args.schema.now c.args.elements.now in record { log_after = c.fall_back.ensures.by_index c.args.deck.now ∙ conflict-falls x c.args.f.0 c.args.v c.args.p.0 (record { a = c.args.a.0; b = c.args.b.0 }) (set_is c.args.files) c.args.mark c.args.e.0 (state_in c.args.model.now c.args.log.now) c.is_keyed.ensures c.if-is_keyed.false c.element_type-t.ensures c.splittable_in.ensures c.if-not-splittable_in.false; keeps_state = c.fall_back.ensures.keeps_state }
