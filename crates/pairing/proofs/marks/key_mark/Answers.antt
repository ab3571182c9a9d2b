use mathlib.Core.Path.{◌≡◌, sym, ◌∙◌}
use Prim.Native.Nat.{◌+◌, ◌-◌}
use native.Mathlib.Omega.{arith}
use Rattle.pairing.proofs.Laws.Marks.{mark-more, mark-end, span-mark}
use lib.ListN.{take, drop}
use Rattle.pairing.proofs.marks.key_mark.Goals as goal

pub loop-b-preserved : goal.loop-b-preserved
loop-b-preserved c =
    let p = c.span_of-span.result in
    let bytes = take (p.start + p.size - p.start) (drop p.start c.args.deck.now) in
    (omega arith, sym (mark-more bytes c.loop-b.h c.loop-b.b-index c.loop-b-test.true) ∙ c.loop-b.invariant.1)

pub returns : goal.returns
returns c =
    let p = c.span_of-span.result in
    let bytes = take (p.start + p.size - p.start) (drop p.start c.args.deck.now) in
    let e : p.start + p.size - p.start ≡ p.size = omega arith in
    rw e at (sym (mark-end bytes c.loop-b.h c.loop-b.b-index c.loop-b-test.false) ∙ c.loop-b.invariant.1) ∙ span-mark c.args.deck.now c.args.key c.span_of-span.ensures
