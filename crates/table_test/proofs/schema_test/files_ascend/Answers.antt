use native.Mathlib.Omega.{arith}
use mathlib.Core.Path.{◌≡◌}
use Prim.Native.Nat.{◌+◌, ◌-◌}
use Rattle.table_test.proofs.Laws.SchemaTest.{ascend-stop, ascend-more, ascend-end}
use Rattle.table_test.proofs.schema_test.files_ascend.Goals as goal

pub returns-then-area-b : goal.returns-then-area-b
returns-then-area-b c =
    ascend-stop c.args.count c.args.area.now c.loop-i.i c.loop-i.auto.i c.loop-i-test.true c.if-area-b.true c.loop-i.invariant

pub loop-i-preserved : goal.loop-i-preserved
loop-i-preserved c =
    let z : c.loop-i.i + 1 - 1 ≡ c.loop-i.i = omega arith in
    rw z (ascend-more c.args.count c.args.area.now c.loop-i.i c.loop-i.auto.i c.loop-i-test.true c.if-area-b.false c.loop-i.invariant)

pub returns : goal.returns
returns c = ascend-end c.args.count c.args.area.now c.loop-i.i c.loop-i-test.false c.loop-i.invariant
