use mathlib.Core.Path.{◌≡◌}
use Prim.Native.Nat.{◌-◌}
use lib.ListN.{length}
use Rattle.deck.specs.Deck.{lines}
use Rattle.state_test.specs.StateTest.{fixed_in, state_in}
use Rattle.merge_rules.specs.CallLists.{call_lines}
use Rattle.printing.specs.Buffers.{buffer_is}
use Rattle.output.proofs.Laws.Runs.{CallsLeft}
use Rattle.output.proofs.print.answer_calls.Given as goal

abbrev pub invariant-loop-at : goal.invariant-loop-at
invariant-loop-at l =
    CallsLeft l.deck l.schema l.elements l.calls (buffer_is l.initial.k l.initial.out) (call_lines (fixed_in l.deck l.schema l.elements) 0 (lines l.calls) (state_in l.initial.model l.initial.log)) (buffer_is l.k l.out) l.at l.n l.model l.log
    × (length l.model ≡ length l.initial.model) × (length l.log ≡ length l.initial.log)

abbrev pub decreases-loop-at : goal.decreases-loop-at
decreases-loop-at l = length l.calls - l.at
