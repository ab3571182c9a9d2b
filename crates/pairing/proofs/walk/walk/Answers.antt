use mathlib.Core.Bool.{false≢true}
use mathlib.Core.Path.{◌≡◌, refl, ◌∙◌}
use native.Mathlib.Omega.{arith}
use Rattle.merge_rules.specs.Pairing.{action_of}
use Rattle.pairing.specs.Walks.{second_children}
use Rattle.pairing.proofs.Laws.Levels.{step_in, walk_start, walk_turn, next-kept, walk_kept, walk_refused, walk-answer}
use Rattle.pairing.proofs.Laws.Marks.{marked-kept}
use borrow.Author.Rules.{rules}
use Rattle.pairing.specs.Lent.{fixed_of, model_in, element_count}
use Rattle.pairing.proofs.walk.walk.Goals as goal

pub loop-c-init : goal.loop-c-init
loop-c-init c =
    let x = fixed_of c.args.tables.now in
    let m = model_in c.args.tables.now in
    let act = action_of x m c.args.t.0 c.args.splittable in
    let n = element_count c.args.tables.now in
    (walk_start act n c.args.s c.args.work.now c.requires.work_room c.requires.ranged, (λ e. absurd (false≢true e)), refl)

pub next_action-next-requires : goal.next_action-next-requires
next_action-next-requires c =
    let s = c.args.s in record { t_in_bounds = c.requires.t_in_bounds; work_room = c.loop-c.invariant.0.room; ranged = c.loop-c.invariant.0.ranged; marked_if = c.loop-c.invariant.1; a_lt_rows = c.loop-c-test.true }

pub shape_of-work-then-eq : goal.shape_of-work-then-eq
shape_of-work-then-eq c =
    c.next_action-next.auto.work ∙ c.loop-c.invariant.2

pub returns-then-eq : goal.returns-then-eq
returns-then-eq c =
    let s = c.args.s in
    let x = fixed_of c.args.tables.now in
    let m = model_in c.args.tables.now in
    let act = action_of x m c.args.t.0 c.args.splittable in
    let n = element_count c.args.tables.now in record { work_after = walk_refused act n s c.args.work.now c.loop-c.work c.loop-c.uses c.loop-c.c.a c.loop-c.c.b c.loop-c.c.new c.loop-c.invariant.0 c.args.end c.next_action-next.result.act c.loop-c-test.true c.next_action-next.ensures.acts (search rules); plan_in = tt }

pub advance-c-requires : goal.advance-c-requires
advance-c-requires c =
    let s = c.args.s in
    let x = fixed_of c.args.tables.now in
    let m = model_in c.args.tables.now in
    let act = action_of x m c.args.t.0 c.args.splittable in
    let n = element_count c.args.tables.now in
    let size = c.next_action-next.auto.work in
    let l = c.loop-c in
    let next = c.next_action-next in
    let i = l.c.a in
    let j = l.c.b in
    let new = l.c.new in
    let k =
    walk_kept act n s c.args.work.now l.work l.uses i j new l.invariant.0 next.new.work size next.ensures.work_unchanged in
    record {
      work_room = k.room;
      counted = k.counted;
      a_lt_rows = c.loop-c-test.true;
      step_in =
          step_in n (act (second_children s l.work)) s l.work i j new next.result.act
          c.args.tables.now.good_fixed.elements_good.sized.count l.invariant.0.room (search rules) next.ensures.acts;
    }

pub loop-c-smaller : goal.loop-c-smaller
loop-c-smaller c =
    let s = c.args.s in
    omega (arith, c.advance-c.ensures.b_bound, c.advance-c.ensures.advances.room.first, c.advance-c.ensures.advances.room.second, c.loop-c-test.true, c.loop-c.invariant.0.room.second)

pub loop-c-preserved : goal.loop-c-preserved
loop-c-preserved c =
    let s = c.args.s in
    let x = fixed_of c.args.tables.now in
    let m = model_in c.args.tables.now in
    let act = action_of x m c.args.t.0 c.args.splittable in
    let n = element_count c.args.tables.now in
    let size = c.next_action-next.auto.work in
    let k = walk_kept act n s c.args.work.now c.loop-c.work c.loop-c.uses c.loop-c.c.a c.loop-c.c.b c.loop-c.c.new c.loop-c.invariant.0 c.next_action-next.new.work size c.next_action-next.ensures.work_unchanged in
    (walk_turn act n s c.args.work.now c.next_action-next.new.work c.loop-c.uses c.loop-c.c.a c.loop-c.c.b c.loop-c.c.new k c.next_action-next.result.act (next-kept act n s c.args.work.now c.loop-c.work c.loop-c.uses c.loop-c.c.a c.loop-c.c.b c.loop-c.c.new c.loop-c.invariant.0 c.next_action-next.new.work size c.next_action-next.ensures.work_unchanged c.next_action-next.result.act c.next_action-next.ensures.acts) c.advance-c.new.work c.advance-c.new.uses c.advance-c.result c.advance-c.ensures.advances, (λ e. marked-kept x m s c.next_action-next.new.work c.advance-c.new.work (omega (arith, c.loop-c.invariant.0.room.second)) c.advance-c.ensures.advances.behind (c.next_action-next.ensures.marked_if_2 e)), c.advance-c.auto.work ∙ size ∙ c.loop-c.invariant.2)

pub import_rest-new-requires : goal.import_rest-new-requires
import_rest-new-requires c =
    let s = c.args.s in
    let room = c.loop-c.invariant.0.room in
    record {
      work_room = room;
      counted = c.loop-c.invariant.0.counted;
      a_value = omega (arith, room.first, c.loop-c-test.false);
      position_le_item_limit = c.requires.end_le_item_limit;
    }

pub used_twice-requires : goal.used_twice-requires
used_twice-requires c =
    let s = c.args.s in
    let all : c.loop-c.c.a ≡ s.rows = omega (arith, c.loop-c.invariant.0.room.first, c.loop-c-test.false) in record { work_room = rw all at c.import_rest-new.ensures.room; counted = rw all at c.import_rest-new.ensures.counted }

pub shape_of-work : goal.shape_of-work
shape_of-work c =
    c.import_rest-new.auto.work ∙ c.loop-c.invariant.2

pub returns : goal.returns
returns c =
    let s = c.args.s in
    let x = fixed_of c.args.tables.now in
    let m = model_in c.args.tables.now in
    let act = action_of x m c.args.t.0 c.args.splittable in
    let n = element_count c.args.tables.now in
    let all : c.loop-c.c.a ≡ s.rows = omega (arith, c.loop-c.invariant.0.room.first, c.loop-c-test.false) in record { work_after = walk-answer act n s c.args.work.now c.loop-c.work c.loop-c.uses c.loop-c.c.a c.loop-c.c.b c.loop-c.c.new c.loop-c.invariant.0 c.args.end c.import_rest-new.new.work c.import_rest-new.new.uses c.import_rest-new.result c.import_rest-new.ensures all c.used_twice.result c.used_twice.ensures.work_value; plan_in = c.used_twice.ensures.by_index n (c.import_rest-new.ensures.ranged n c.requires.end_le_item_limit c.loop-c.invariant.0.ranged).rows }
