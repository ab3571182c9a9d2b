use mathlib.Core.Path.{◌∙◌}
use Prim.Native.Nat.{◌<◌}
use native.Mathlib.Omega.{arith}
use Rattle.tables.specs.ModelTable.{model_of, count_of}
use Rattle.table_test.proofs.Laws.ModelTest.{once-start, once-few, once-stop, once_more, once-end, list-fits}
use Rattle.table_test.proofs.model_test.lists_once.Goals as goal

pub loop-e-init : goal.loop-e-init
loop-e-init c = once-start c.args.t.now

pub overflow_add-a : goal.overflow_add-a
overflow_add-a c =
    let xs = c.args.t.now in
    let f = list-fits xs c.requires c.loop-e.e (omega arith) in
    omega arith

pub loop-e-preserved-then-size-lt2 : goal.loop-e-preserved-then-size-lt2
loop-e-preserved-then-size-lt2 c =
    let h : c.loop-e.e < count_of (model_of c.args.t.now) = omega arith in
    once-few c.args.t.now c.loop-e.marks c.loop-e.e c.list_length-size.result c.requires c.loop-e.invariant h c.list_length-size.ensures c.if-size-lt2.true

pub overflow_add-b : goal.overflow_add-b
overflow_add-b c =
    let xs = c.args.t.now in
    let f = list-fits xs c.requires c.loop-e.e (omega arith) in
    omega arith

pub offset_bounds-t-a : goal.offset_bounds-t-a
offset_bounds-t-a c =
    let xs = c.args.t.now in
    let f = list-fits xs c.requires c.loop-e.e (omega arith) in
    omega arith

pub slice_bounds-once-end : goal.slice_bounds-once-end
slice_bounds-once-end c =
    let xs = c.args.t.now in
    let f = list-fits xs c.requires c.loop-e.e (omega arith) in
    omega arith

pub returns-then-not-once : goal.returns-then-not-once
returns-then-not-once c =
    let h : c.loop-e.e < count_of (model_of c.args.t.now) = omega arith in
    once-stop c.args.t.now c.loop-e.marks c.loop-e.e c.list_length-size.result c.requires c.loop-e.invariant h c.list_length-size.ensures
    c.once.result c.once.ensures.value (c.if-not-once.true)

pub loop-e-preserved : goal.loop-e-preserved
loop-e-preserved c =
    let h : c.loop-e.e < count_of (model_of c.args.t.now) = omega arith in
    once_more c.args.t.now c.loop-e.marks c.loop-e.e c.list_length-size.result c.requires c.loop-e.invariant h c.list_length-size.ensures
    c.once.result c.once.new.marks c.once.ensures.value (c.if-not-once.false) (c.once.auto.marks ∙ c.loop-e.invariant.size) c.once.ensures.by_index_2

pub returns : goal.returns
returns c =
    once-end c.args.t.now c.loop-e.marks c.loop-e.e c.requires c.loop-e.invariant (omega arith)
