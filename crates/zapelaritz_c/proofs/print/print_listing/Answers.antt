use mathlib.Core.Path.{sym, ap, ◌∙◌}
use Rattle.answer_numbers.proofs.Laws.Numbers.{wrong_size, right-size}
use Rattle.zapelaritz_c.specs.PrintedTexts.{PrintLeft, numbered_text}
use Rattle.zapelaritz_c.proofs.print.print_listing.Goals as goal

pub returns-then-answer-ne-ANSWER_SIZE : goal.returns-then-answer-ne-ANSWER_SIZE
unfolding numbered_text
returns-then-answer-ne-ANSWER_SIZE c = wrong_size c.args.answer.now _ _ c.if-answer-ne-ANSWER_SIZE.true

pub returns : goal.returns
unfolding numbered_text
returns c =
    let answer = c.args.answer.now in
    let h = c.if-answer-ne-ANSWER_SIZE.false in
    let p = c.write_numbers.ensures ∙ sym (right-size answer h _ _) ∙ ap (λ (q : PrintLeft). q.answer) c.listing_numbers-n.ensures in
    (λ i. record { answer = p i; buffer = (c.listing_numbers-n.ensures i).buffer }) ∙ right-size answer h _ _
