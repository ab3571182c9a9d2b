use mathlib.Core.Path.{◌∙◌}
use native.Mathlib.Omega.{arith}
use Rattle.pairing.proofs.Laws.Laying.{list-few, laid-first, laid-level}
use Rattle.pairing.proofs.Laws.Alone.{rows-alone, level-alone}
use Rattle.pairing.specs.Lent.{fixed_of, model_in}
use Rattle.pairing.proofs.walk.plan_level.Goals as goal

pub returns-then-s : goal.returns-then-s
returns-then-s c = record { work_after = laid-first (fixed_of c.args.tables.now) (model_in c.args.tables.now) c.args.v c.args.a.0 c.args.b.0 c.copy_sides-s.result c.copy_sides-s.new.work c.copy_sides-s.ensures c.if-s.true; plan_in = rw c.args.tables.now.model_over.same at c.copy_sides-s.ensures.ranged.rows }

pub returns-then-pair_alone : goal.returns-then-pair_alone
returns-then-pair_alone c =
    let x = fixed_of c.args.tables.now in
    let al = c.pair_alone.ensures c.if-pair_alone.true in record { work_after = rw c.pair_first.ensures (level-alone x (model_in c.args.tables.now) c.copy_sides-s.result c.copy_sides-s.new.work c.element_type-t.result.0 al c.args.v c.args.a.0 c.args.b.0 c.copy_sides-s.ensures c.element_type-t.ensures); plan_in = rw c.pair_first.ensures (rows-alone x (model_in c.args.tables.now) c.copy_sides-s.result c.copy_sides-s.new.work c.element_type-t.result.0 al c.copy_sides-s.ensures.room _ (rw c.args.tables.now.model_over.same at c.copy_sides-s.ensures.ranged)) }

pub returns : goal.returns
returns c = record { work_after = c.walk.ensures.work_after ∙ laid-level (fixed_of c.args.tables.now) (model_in c.args.tables.now) c.args.v c.args.a.0 c.args.b.0 c.copy_sides-s.result c.copy_sides-s.new.work c.element_type-t.result.0 c.list_length-end.result c.splittable_in-splittable.result c.copy_sides-s.ensures c.element_type-t.ensures c.splittable_in-splittable.ensures c.list_length-end.ensures; plan_in = c.walk.ensures.plan_in }

pub walk-requires-clause-end_le_item_limit : goal.walk-requires-clause-end_le_item_limit
walk-requires-clause-end_le_item_limit c =
    omega (arith, c.list_length-end.ensures, list-few c.args.tables.now.model.now c.args.tables.now.model_over.good c.args.a.0 (omega (arith, c.args.tables.now.model_over.same, c.requires.a_in_bounds)))
