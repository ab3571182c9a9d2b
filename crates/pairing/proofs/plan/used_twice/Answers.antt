use mathlib.Core.Path.{refl, sym, ◌∙◌}
use lib.ListN.{get_or}
use Rattle.merge_rules.specs.Pairing.{first_used_twice}
use Rattle.pairing.specs.Plans.{plan_in}
use Rattle.pairing.specs.Walks.{second_children}
use Rattle.pairing.proofs.Laws.Steps.{twice-more, twice-stop, twice-end}
use Rattle.pairing.proofs.Laws.Uses.{counted-twice, counted-once}
use Rattle.pairing.proofs.plan.used_twice.Goals as goal

pub loop-b-init : goal.loop-b-init
unfolding first_used_twice
loop-b-init c = refl

pub returns-then-is_repeated-clause-work_value : goal.returns-then-is_repeated-clause-work_value
returns-then-is_repeated-clause-work_value c =
    let bs = second_children c.args.s c.args.work.now in
    let p = plan_in c.args.s.rows c.args.new c.args.work.now in
    let small = c.requires.work_room.small c.loop-b.b-index c.loop-b-test.true in
    let twice = counted-twice p c.args.uses.now c.requires.counted (get_or bs c.loop-b.b-index 0) small (sym c.is_repeated.ensures ∙ c.if-is_repeated.true) in
    twice-stop bs p c.loop-b.b-index c.loop-b-test.true twice _ c.loop-b.invariant

pub loop-b-preserved : goal.loop-b-preserved
loop-b-preserved c =
    let bs = second_children c.args.s c.args.work.now in
    let p = plan_in c.args.s.rows c.args.new c.args.work.now in
    let small = c.requires.work_room.small c.loop-b.b-index c.loop-b-test.true in
    let once = counted-once p c.args.uses.now c.requires.counted (get_or bs c.loop-b.b-index 0) small (sym c.is_repeated.ensures ∙ c.if-is_repeated.false) in
    twice-more bs p c.loop-b.b-index c.loop-b-test.true once _ c.loop-b.invariant

pub returns-clause-work_value : goal.returns-clause-work_value
returns-clause-work_value c =
    let bs = second_children c.args.s c.args.work.now in
    let p = plan_in c.args.s.rows c.args.new c.args.work.now in
    twice-end bs p c.loop-b.b-index c.loop-b-test.false _ c.loop-b.invariant
