use mathlib.Core.Path.{sym, ◌∙◌}
use Rattle.answer_numbers.specs.Numbers.{merge_numbers}
use Rattle.answer_numbers.proofs.Laws.Numbers.{wrong_size, right-size}
use Rattle.zapelaritz_c.specs.NumberedCalls.{numbered_merge}
use Rattle.zapelaritz_c.proofs.Laws.NumberedCalls.{call-left}
use Rattle.zapelaritz_c.proofs.calls.zapelaritz_merge.Goals as goal

pub returns-then-answer-ne-ANSWER_SIZE : goal.returns-then-answer-ne-ANSWER_SIZE
unfolding numbered_merge
returns-then-answer-ne-ANSWER_SIZE c = wrong_size c.args.answer.now _ _ c.if-answer-ne-ANSWER_SIZE.true

pub returns : goal.returns
unfolding numbered_merge
returns c =
    let answer = c.args.answer.now in
    let h = c.if-answer-ne-ANSWER_SIZE.false in
    let p = c.write_numbers.ensures ∙ sym (right-size answer h _ _) ∙ c.merge_numbers-n.ensures in
    call-left merge_numbers p c.merge.ensures ∙ right-size answer h _ _
