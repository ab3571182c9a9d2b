use mathlib.Core.Path.{sym, ◌∙◌}
use native.Mathlib.Omega.{arith}
use lib.ListN.{get_or}
use Rattle.deck.specs.Deck.{printable}
use Rattle.tables.proofs.Laws.Scans.{all-stop, all_more, all_end}
use Rattle.deck.proofs.Laws.Texts.{printable-low, printable-high, printable-is}
use Rattle.deck.proofs.fields.all_printable.Goals as goal
use Rattle.deck.proofs.fields.all_printable.Goals.{then-b-lt32-via-then-b-lt32, then-b-lt32-via-else-b-lt32+then-b-gt126}

pub returns-then-b-lt32 : goal.returns-then-b-lt32
returns-then-b-lt32 c =
    let s = c.args.s.now in
    let i = c.loop-b.b-index in
    elim c.then-b-lt32.branch [
      | then-b-lt32-via-then-b-lt32 w ↦ sym (all-stop printable s i 0 (omega arith) (printable-low (get_or s i 0) (omega arith))) ∙ c.loop-b.invariant
      | then-b-lt32-via-else-b-lt32+then-b-gt126 w ↦ sym (all-stop printable s i 0 (omega arith) (printable-high (get_or s i 0) (omega arith))) ∙ c.loop-b.invariant
    ]

pub loop-b-preserved : goal.loop-b-preserved
loop-b-preserved c =
    all_more printable c.args.s.now c.loop-b.b-index 0 (omega arith) (printable-is (get_or c.args.s.now c.loop-b.b-index 0) (omega arith) (omega arith)) ∙ c.loop-b.invariant

pub returns : goal.returns
returns c = sym (all_end printable c.args.s.now c.loop-b.b-index (omega arith)) ∙ c.loop-b.invariant
