use mathlib.Core.Bool.{◌&&◌}
use mathlib.Core.List.{List}
use mathlib.Core.Path.{◌≡◌, sym, ap, ◌∙◌}
use Prim.Native.Nat.{ℕ}
use native.Mathlib.Omega.{arith}
use lib.Dec.{eqb}
use Rattle.tables.specs.Lists.{all_of}
use Rattle.table_test.specs.ModelTest.{is_zero}
use Rattle.table_test.proofs.Laws.Scans.{zeros-last, zeros-block, behind_blocks, behind-block, behind-none}
use Rattle.table_test.proofs.scan.all_zero.Goals as goal

pub loop-block-preserved : goal.loop-block-preserved
loop-block-preserved c =
    let (size, (left, wide), same) = c.in-Some.ensures.steps in
    let i = c.loop-block.invariant in (
      zeros-block c.loop-block.any c.bits_of-any.result c.in-Some.block.now c.bits_of-any.ensures c.next.new.self.rest.now
          ∙ ap (λ (l : List ℕ). eqb c.loop-block.any 0 && all_of is_zero l) (sym left)
          ∙ i.0,
      size ∙ i.1,
      i.2 ∙ ap behind_blocks left ∙ behind-block c.in-Some.block.now c.next.new.self.rest.now (wide ∙ i.1),
    )

pub returns : goal.returns
returns c =
    let (size, (few, ended), same) = c.in-None.ensures.steps in
    let i = c.loop-block.invariant in
    let left = c.loop-block.block-iterator.rest.now in
    let all : c.remainder-rest.result.now ≡ left = i.2 ∙ behind-none left (omega (arith, few, i.1)) in
    zeros-last c.loop-block.any c.bits_of.result left (c.bits_of.ensures ∙ ap (all_of is_zero) all) ∙ i.0
