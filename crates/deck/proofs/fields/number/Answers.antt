use mathlib.Core.Path.{sym, ◌∙◌}
use native.Mathlib.Omega.{arith}
use Rattle.deck.specs.Answers.{num_is}
use Rattle.deck.proofs.Laws.Numbers.{rest-bad, rest-past, rest_more, rest_end, number-none, number-plain, over, within}
use borrow.Author.Rules.{rules}
use Rattle.deck.proofs.fields.number.Goals as goal
use Rattle.deck.proofs.fields.number.Goals.{then-radix-d-via-then-radix-d, then-radix-d-via-else-radix-d+then-most-d, then-radix-d-via-else-radix-d+else-most-d+then-most-d-2}

pub returns-then-not-plain : goal.returns-then-not-plain
unfolding num_is
returns-then-not-plain c = sym (number-none c.args.radix c.args.most c.args.s.now (sym c.plain.ensures ∙ c.if-not-plain.true))

pub loop-b-init : goal.loop-b-init
loop-b-init c = record { place = search rules; small = search rules; left = number-plain c.args.radix c.args.most c.args.s.now (sym c.plain.ensures ∙ c.if-not-plain.false) }

pub returns-then-radix-d : goal.returns-then-radix-d
unfolding num_is
returns-then-radix-d c =
    let r = c.args.radix in
    let m = c.args.most in
    let v = c.loop-b.value in
    let s = c.args.s.now in
    let i = c.loop-b.b-index in
    elim c.then-radix-d.branch [
      | then-radix-d-via-then-radix-d w ↦ sym (c.loop-b.invariant.left ∙ rest-bad r m v s i c.loop-b-test.true (omega arith))
      | then-radix-d-via-else-radix-d+then-most-d w ↦
          sym (c.loop-b.invariant.left ∙ rest-past r m v s i (omega arith) c.loop-b-test.true (omega arith) (omega arith))
      | then-radix-d-via-else-radix-d+else-most-d+then-most-d-2 w ↦
          sym (c.loop-b.invariant.left ∙ rest-past r m v s i (omega arith) c.loop-b-test.true (omega arith) (omega (arith, over r m v c.digit-d.result (omega arith) (omega arith) (omega arith))))
    ]

pub loop-b-preserved : goal.loop-b-preserved
loop-b-preserved c =
    record { place = search rules; small = within c.args.radix c.args.most c.loop-b.value c.digit-d.result (omega arith) (omega arith) (omega arith); left = rw c.digit-d.ensures (c.loop-b.invariant.left ∙ rest_more c.args.radix c.args.most c.loop-b.value c.args.s.now c.loop-b.b-index c.loop-b-test.true (omega arith)) }

pub returns : goal.returns
unfolding num_is
returns c =
    sym (c.loop-b.invariant.left ∙ rest_end c.args.radix c.args.most c.loop-b.value c.args.s.now c.loop-b.b-index (omega arith) (omega arith))
