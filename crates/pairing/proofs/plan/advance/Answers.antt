use mathlib.Core.Path.{refl}
use native.Mathlib.Omega.{arith}
use Rattle.pairing.proofs.Laws.Steps.{step-equal, step-unequal, step-never, walks-second}
use Rattle.pairing.proofs.Laws.Ways.{walks-equal, walks-unequal, walks-first}
use Rattle.pairing.proofs.plan.advance.Goals as goal

pub returns-in-MergeEqual : goal.returns-in-MergeEqual
returns-in-MergeEqual c =
    let s = c.args.s in
    let i = c.args.c.a in
    let j = c.args.c.b in
    let k = c.args.c.new in record { advances = rw (c.in-MergeEqual.is, c.pair_row.ensures.work_after, c.pair_row.ensures.uses_after) (walks-equal s c.args.work.now c.args.uses.now i j k c.requires.work_room c.requires.counted c.requires.a_lt_rows (step-equal s j c.args.act c.requires.step_in c.in-MergeEqual.is) _ refl); b_bound = omega arith }

pub returns-in-MergeUnequal : goal.returns-in-MergeUnequal
returns-in-MergeUnequal c =
    let s = c.args.s in
    let i = c.args.c.a in
    let j = c.args.c.b in
    let k = c.args.c.new in record { advances = rw (c.in-MergeUnequal.is, c.pair_row-in-MergeUnequal.ensures.work_after, c.pair_row-in-MergeUnequal.ensures.uses_after) (walks-unequal s c.args.work.now c.args.uses.now i j k c.requires.work_room c.requires.counted c.requires.a_lt_rows _ (step-unequal s j c.args.act c.requires.step_in _ c.in-MergeUnequal.is)); b_bound = omega arith }

pub returns-in-AOnly : goal.returns-in-AOnly
returns-in-AOnly c =
    let s = c.args.s in
    let i = c.args.c.a in
    let j = c.args.c.b in
    let k = c.args.c.new in record { advances = rw c.in-AOnly.is (walks-first s c.args.work.now c.args.uses.now i j k c.requires.work_room c.requires.counted c.requires.a_lt_rows); b_bound = omega arith }

pub returns-in-BOnly : goal.returns-in-BOnly
returns-in-BOnly c =
    let s = c.args.s in
    let i = c.args.c.a in
    let j = c.args.c.b in
    let k = c.args.c.new in record { advances = rw c.in-BOnly.is (walks-second s c.args.work.now i j k c.requires.work_room _ _ _ c.requires.a_lt_rows c.import_next-new.ensures); b_bound = omega arith }

pub returns-in-UnmergeableParent : goal.returns-in-UnmergeableParent
returns-in-UnmergeableParent c =
    let s = c.args.s in
    let i = c.args.c.a in
    let j = c.args.c.b in
    let k = c.args.c.new in
    absurd (step-never s j c.args.act c.requires.step_in c.in-UnmergeableParent.is)
