use mathlib.Core.Path.{sym, ◌∙◌}
use Prim.Native.Nat.{◌<◌}
use native.Mathlib.Omega.{arith}
use lib.ListN.{length}
use Rattle.tables.specs.ElementsTable.{elements_of}
use Rattle.printing.proofs.Laws.Trees.{merged-turn, waiting-turn, waiting-end}
use Rattle.printing.proofs.trees.append_waiting.Goals as goal

pub loop-t-preserved-then-holds : goal.loop-t-preserved-then-holds
loop-t-preserved-then-holds c =
    let h : c.loop-t.t < length (elements_of c.args.elements.now).trees = omega (arith, c.tree_count-t-end.ensures) in
    let e = sym c.holds.ensures ∙ c.if-holds.true in
    λ schema. merged-turn _ _ _ c.loop-t.t h (c.loop-t.invariant schema) c.set_of-loaded.ensures c.tree_file.ensures e

pub loop-t-preserved : goal.loop-t-preserved
loop-t-preserved c =
    let h : c.loop-t.t < length (elements_of c.args.elements.now).trees = omega (arith, c.tree_count-t-end.ensures) in
    let e = sym c.holds.ensures ∙ c.if-holds.false in
    λ schema. waiting-turn _ _ _ c.loop-t.t h (c.loop-t.invariant schema) c.set_of-loaded.ensures c.tree_file.ensures e (c.append_tree-k.ensures schema)

pub returns : goal.returns
returns c = λ schema. waiting-end _ _ _ c.loop-t.t (omega (arith, c.tree_count-t-end.ensures)) (c.loop-t.invariant schema)
