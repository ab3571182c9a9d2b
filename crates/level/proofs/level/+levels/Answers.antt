use mathlib.Core.Path.{◌≡◌, ◌∙◌}
use Prim.Native.Nat.{◌-◌, ◌*◌}
use native.Mathlib.Omega.{arith}
use borrow.Author.Rules.{rules}
use Rattle.imports.proofs.Laws.Imports.{not-done}
use Rattle.std.proofs.lemmas.Option.{MatchOption-at_some, MatchOption-at_none}
use borrow.Rule.Slice.PartMut.{put_mid, take_put, same_len_mid}
use lib.ListN.{length}
use Rattle.tables.specs.ModelTable.{model_of}
use Rattle.pairing.specs.declared.plan.Unplanned.TheVariants.{UsedTwice}
use Rattle.tables.specs.SetCells.{set_is}
use Rattle.state_test.specs.StateTest.{state_in}
use Rattle.level.proofs.Laws.Level.{level-version-is, pair-version-is, level-version-low, level-none, level-twice, level-stuck, level-stop, level-pairs, room_most, rows-first, plan-rows, pair-settled, pair-done, pair-bare, pairs_end, first-in, mate-in, pairs-skip, pairs-stop, pairs-more}
use Rattle.level.proofs.level.+levels.Goals as goal

pub merge_apart-merge_element-requires : goal.merge_apart-merge_element-requires
merge_apart-merge_element-requires t c =
    let fits = c.requires.state_over.model_fits in
    let z = fits.same in
    let room = room_most c.args.model.now fits.good c.args.a.0 c.args.b.0 (rw z c.requires.a_in_bounds) (rw z c.requires.b_in_bounds) in
    (omega arith, (c.requires.state_over, (c.requires.f_lt_file_limit, (c.requires.version_value, (c.least_version-v.ensures ∙ level-version-is c.args.fixed.now.schema.now c.args.d.file.0 c.args.d.version c.requires.version_value c.args.fixed.now.deck.now c.args.fixed.now.elements.now (set_is c.args.d.files), (c.requires.a_in_bounds, (c.requires.b_in_bounds, room)))))))

pub merge_element-returns-then-depth-eq0-clause-log_after : goal.merge_element-returns-then-depth-eq0-clause-log_after
merge_element-returns-then-depth-eq0-clause-log_after t c = rw c.into.ensures (level-none _ _ _ _ _ _ _ c.if-depth-eq0.true)

pub merge_element-plan_level-requires-clause-v_lt_version_limit : goal.merge_element-plan_level-requires-clause-v_lt_version_limit
merge_element-plan_level-requires-clause-v_lt_version_limit t c = level-version-low _ _ _ _ _ _ c.requires.v_value c.args.fixed.now.good_fixed.schema_tested

pub merge_element-returns-in-Err-UsedTwice-clause-log_after : goal.merge_element-returns-in-Err-UsedTwice-clause-log_after
merge_element-returns-in-Err-UsedTwice-clause-log_after t c =
    let twice : c.in-Err-UsedTwice.field-0 ≡ UsedTwice c.in-Err-UsedTwice.c = search rules in
    rw (c.into-in-Err-UsedTwice.ensures, twice) (level-twice _ _ _ _ _ _ _ c.if-depth-eq0.false _ c.requires.v_value c.plan_level.result c.plan_level.new.work c.plan_level.ensures.work_after c.in-Err-UsedTwice.c (search rules))

pub merge_element-returns-in-Err-Unmergeable-clause-log_after : goal.merge_element-returns-in-Err-Unmergeable-clause-log_after
merge_element-returns-in-Err-Unmergeable-clause-log_after t c = rw c.into-in-Err-Unmergeable.ensures (level-stuck _ _ _ _ _ _ _ c.if-depth-eq0.false _ c.requires.v_value c.plan_level.result c.plan_level.new.work c.plan_level.ensures.work_after (search rules))

pub merge_element-returns-in_err-apply_plan-clause-log_after : goal.merge_element-returns-in_err-apply_plan-clause-log_after
merge_element-returns-in_err-apply_plan-clause-log_after t c =
    let same : c.from_residual.result ≡ c.apply_plan.result = search rules in
    rw same (level-stop _ _ _ _ _ _ _ c.if-depth-eq0.false _ c.requires.v_value c.plan_level.result c.plan_level.new.work c.plan_level.ensures.work_after c.in-Ok.rows c.in-Ok.is (state_in c.apply_plan.new.model c.apply_plan.new.log) c.apply_plan.result (c.apply_plan.ensures.by_index c.args.fixed.now.deck.now) (not-done c.in_err-apply_plan.was))

pub merge_element-merge_sub_elements-requires : goal.merge_element-merge_sub_elements-requires
merge_element-merge_sub_elements-requires t c =
    let deep : c.args.depth ≡ 0 → ⊥ = c.if-depth-eq0.false in
    let rows = rows-first _ c.plan_level.new.work c.in-Ok.rows.first c.in-Ok.rows.new (plan-rows _ c.plan_level.result c.plan_level.new.work c.in-Ok.rows c.plan_level.ensures.plan_in c.in-Ok.is) in
    (omega arith, (c.apply_plan.ensures.keeps_state _ _ c.requires.state_over, (c.requires.f_lt_file_limit, (c.requires.version_value, (c.requires.v_value, (c.requires.a_in_bounds, rows))))))

pub merge_element-returns-in_err-merge_sub_elements : goal.merge_element-returns-in_err-merge_sub_elements
merge_element-returns-in_err-merge_sub_elements t c =
    let same : c.from_residual-in_err-merge_sub_elements.result ≡ c.merge_sub_elements.result = search rules in record {
      log_after = rw same (c.merge_sub_elements.ensures.log_after
          ∙ level-pairs _ _ _ _ _ _ _ c.if-depth-eq0.false _ c.requires.v_value c.plan_level.result c.plan_level.new.work c.plan_level.ensures.work_after c.in-Ok.rows c.in-Ok.is (state_in c.apply_plan.new.model c.apply_plan.new.log) c.apply_plan.result (c.apply_plan.ensures.by_index c.args.fixed.now.deck.now) c.in_ok-apply_plan.was);
      keeps_state = λ n texts f. c.merge_sub_elements.ensures.keeps_state n texts (c.apply_plan.ensures.keeps_state n texts f);
    }

pub merge_element-returns : goal.merge_element-returns
merge_element-returns t c = record {
  log_after = rw c.in_ok-merge_sub_elements.was at (c.merge_sub_elements.ensures.log_after
      ∙ level-pairs _ _ _ _ _ _ _ c.if-depth-eq0.false _ c.requires.v_value c.plan_level.result c.plan_level.new.work c.plan_level.ensures.work_after c.in-Ok.rows c.in-Ok.is (state_in c.apply_plan.new.model c.apply_plan.new.log) c.apply_plan.result (c.apply_plan.ensures.by_index c.args.fixed.now.deck.now) c.in_ok-apply_plan.was);
  keeps_state = λ n texts f. c.merge_sub_elements.ensures.keeps_state n texts (c.apply_plan.ensures.keeps_state n texts f);
}

pub merge_pair-returns-then-is_bare-clause-log_after : goal.merge_pair-returns-then-is_bare-clause-log_after
merge_pair-returns-then-is_bare-clause-log_after t c =
    c.extend_pair.ensures.log_after ∙ pair-bare _ _ _ _ _ _ _ _ (c.is_bare.ensures c.if-is_bare.true)

pub merge_pair-merge_element-below-requires : goal.merge_pair-merge_element-below-requires
merge_pair-merge_element-below-requires t c =
    let version = pair-version-is c.args.fixed.now.schema.now c.args.d.file.0 c.args.d.version c.requires.version_value c.args.fixed.now.deck.now c.args.fixed.now.elements.now (set_is c.args.d.files) c.args.v c.requires.v_value (model_of c.args.model.now) c.args.a.0 c.pair_version-own_version.result c.pair_version-own_version.ensures (set_is c.files_of_pair-own.result) c.files_of_pair-own.ensures in
    (omega arith, (c.requires.state_over, (c.requires.f_lt_file_limit, (c.requires.version_value, (version, (c.requires.a_in_bounds, (c.requires.b_in_bounds, omega (arith, c.level_room.ensures, c.if-level_room-work.true))))))))

pub merge_pair-extend_pair-requires-then-is_ok : goal.merge_pair-extend_pair-requires-then-is_ok
merge_pair-extend_pair-requires-then-is_ok t c =
    let state = c.merge_element-below.ensures.keeps_state _ _ c.requires.state_over in record { good_model = state.model_fits.good; good_log = state.log_fits.good; a_bound = rw state.model_fits.same c.requires.a_in_bounds; f_lt_file_limit = c.requires.f_lt_file_limit }

pub merge_pair-returns-then-is_ok : goal.merge_pair-returns-then-is_ok
merge_pair-returns-then-is_ok t c = record { log_after = c.extend_pair-then-is_ok.ensures.log_after ∙ pair-done _ _ _ _ _ _ _ _ (set_is c.files_of_pair-own.result) c.log_length-mark.result c.files_of_pair-own.ensures c.log_length-mark.ensures (state_in c.merge_element-below.new.model c.merge_element-below.new.log) c.merge_element-below.result c.merge_element-below.ensures.log_after (search rules); keeps_state = λ n texts q. c.extend_pair-then-is_ok.ensures.keeps_state n texts (c.merge_element-below.ensures.keeps_state n texts q) }

pub merge_pair-settle-requires-clause-state_over : goal.merge_pair-settle-requires-clause-state_over
merge_pair-settle-requires-clause-state_over t c =
    c.merge_element-below.ensures.keeps_state _ _ c.requires.state_over

pub merge_pair-settle-requires-clause-v_lt_version_limit : goal.merge_pair-settle-requires-clause-v_lt_version_limit
merge_pair-settle-requires-clause-v_lt_version_limit t c =
    level-version-low _ _ _ _ _ _ c.requires.v_value c.args.fixed.now.good_fixed.schema_tested

pub merge_pair-returns-then-level_room-work : goal.merge_pair-returns-then-level_room-work
merge_pair-returns-then-level_room-work t c = record { log_after = c.settle.ensures.log_after ∙ pair-settled _ _ _ _ _ _ _ _ (set_is c.files_of_pair-own.result) c.log_length-mark.result c.files_of_pair-own.ensures c.log_length-mark.ensures (state_in c.merge_element-below.new.model c.merge_element-below.new.log) c.merge_element-below.result c.merge_element-below.ensures.log_after; keeps_state = λ n texts q. c.settle.ensures.keeps_state n texts (c.merge_element-below.ensures.keeps_state n texts q) }

pub merge_pair-settle-requires-2-clause-state_over : goal.merge_pair-settle-requires-2-clause-state_over
merge_pair-settle-requires-2-clause-state_over t c =
    c.merge_apart-below.ensures.keeps_state _ _ c.requires.state_over

pub merge_pair-settle-requires-2-clause-v_lt_version_limit : goal.merge_pair-settle-requires-2-clause-v_lt_version_limit
merge_pair-settle-requires-2-clause-v_lt_version_limit t c =
    level-version-low _ _ _ _ _ _ c.requires.v_value c.args.fixed.now.good_fixed.schema_tested

pub merge_pair-returns : goal.merge_pair-returns
merge_pair-returns t c = record { log_after = c.settle-2.ensures.log_after ∙ pair-settled _ _ _ _ _ _ _ _ (set_is c.files_of_pair-own.result) c.log_length-mark.result c.files_of_pair-own.ensures c.log_length-mark.ensures (state_in c.merge_apart-below.new.model c.merge_apart-below.new.log) c.merge_apart-below.result c.merge_apart-below.ensures.log_after; keeps_state = λ n texts q. c.settle-2.ensures.keeps_state n texts (c.merge_apart-below.ensures.keeps_state n texts q) }

pub merge_sub_elements-loop-i-preserved-in_default : goal.merge_sub_elements-loop-i-preserved-in_default
merge_sub_elements-loop-i-preserved-in_default t c =
    pairs-skip c.loop-i.invariant c.loop-i-test.true (MatchOption-at_none _ _ c.in_default.is c.mate.ensures.alone)

pub merge_sub_elements-merge_pair-requires : goal.merge_sub_elements-merge_pair-requires
merge_sub_elements-merge_pair-requires t c =
    let k = c.loop-i.invariant in
    let h = c.loop-i-test.true in
    (omega arith, (k.fits, (c.requires.f_lt_file_limit, (c.requires.version_value, (c.requires.v_value, (c.requires.p_in_bounds, (first-in k h c.requires.rows_in, mate-in k h c.requires.rows_in (MatchOption-at_some _ _ _ c.in-Some.is c.mate.ensures.paired))))))))

pub merge_sub_elements-loop-i-preserved : goal.merge_sub_elements-loop-i-preserved
merge_sub_elements-loop-i-preserved t c =
    let rows = 2 * c.args.na in
    let rest = length c.loop-i.work - rows in
    pairs-more c.loop-i.invariant c.loop-i-test.true _ (MatchOption-at_some _ _ _ c.in-Some.is c.mate.ensures.paired) c.merge_pair.new.model c.merge_pair.new.log c.merge_pair.result c.merge_pair.ensures.log_after (put_mid rows rest c.loop-i.work c.merge_pair.new.work) (take_put rows rest c.loop-i.work c.merge_pair.new.work (omega (arith, c.loop-i.invariant.size, c.requires.rows_in.room))) (same_len_mid rows rest c.loop-i.work c.merge_pair.new.work c.merge_pair.auto.work) c.merge_pair.auto.model c.merge_pair.auto.log c.in_ok-merge_pair.was c.merge_pair.ensures.keeps_state

pub merge_sub_elements-returns-in_err-merge_pair : goal.merge_sub_elements-returns-in_err-merge_pair
merge_sub_elements-returns-in_err-merge_pair t c =
    let k = c.loop-i.invariant in
    let same : c.from_residual.result ≡ c.merge_pair.result = search rules in record {
      log_after = rw same (pairs-stop k c.loop-i-test.true _ (MatchOption-at_some _ _ _ c.in-Some.is c.mate.ensures.paired) c.merge_pair.new.model c.merge_pair.new.log c.merge_pair.result c.merge_pair.ensures.log_after (not-done c.in_err-merge_pair.was));
      keeps_state = λ n texts q. c.merge_pair.ensures.keeps_state n texts (k.keeps n texts q);
    }

pub merge_sub_elements-returns-clause-log_after : goal.merge_sub_elements-returns-clause-log_after
merge_sub_elements-returns-clause-log_after t c =
    pairs_end c.loop-i.invariant c.loop-i-test.false
