use mathlib.Core.Path.{sym, ◌∙◌}
use Rattle.answer_numbers.specs.Numbers.{rollback_numbers}
use Rattle.answer_numbers.proofs.Laws.Numbers.{wrong_size, right-size}
use Rattle.zapelaritz_c.specs.NumberedCalls.{numbered_rollback}
use Rattle.zapelaritz_c.proofs.Laws.NumberedCalls.{call-left}
use Rattle.zapelaritz_c.proofs.calls.zapelaritz_rollback.Goals as goal

pub returns-then-answer-ne-ANSWER_SIZE : goal.returns-then-answer-ne-ANSWER_SIZE
unfolding numbered_rollback
returns-then-answer-ne-ANSWER_SIZE c = wrong_size c.args.answer.now _ _ c.if-answer-ne-ANSWER_SIZE.true

pub returns : goal.returns
unfolding numbered_rollback
returns c =
    let answer = c.args.answer.now in
    let h = c.if-answer-ne-ANSWER_SIZE.false in
    let p = c.write_numbers.ensures ∙ sym (right-size answer h _ _) ∙ c.rollback_numbers-n.ensures in
    call-left rollback_numbers p c.rollback.ensures ∙ right-size answer h _ _
