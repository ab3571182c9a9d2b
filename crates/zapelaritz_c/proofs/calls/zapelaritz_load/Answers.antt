use mathlib.Core.Path.{sym, ap, ◌∙◌}
use Rattle.load.specs.LoadCall.{LoadResult}
use Rattle.answer_numbers.specs.Numbers.{load_numbers}
use Rattle.answer_numbers.proofs.Laws.Numbers.{right-size}
use Rattle.zapelaritz_c.specs.NumberedCalls.{numbered_load}
use Rattle.zapelaritz_c.proofs.Laws.NumberedCalls.{load-zeros}
use Rattle.zapelaritz_c.proofs.calls.zapelaritz_load.Goals as goal

pub returns-then-answer-ne-ANSWER_SIZE : goal.returns-then-answer-ne-ANSWER_SIZE
returns-then-answer-ne-ANSWER_SIZE c =
    load-zeros c.args.deck.now c.args.schema.now c.args.elements.now c.args.model.now c.args.log.now c.args.answer.now c.clear_lent.ensures.schema_after c.clear_lent.ensures.elements_after c.clear_lent.ensures.model_after c.clear_lent.ensures.log_after c.clear_lent.ensures.answer_after
    c.if-answer-ne-ANSWER_SIZE.true

pub returns : goal.returns
unfolding numbered_load
returns c =
    let answer = c.args.answer.now in
    let h = c.if-answer-ne-ANSWER_SIZE.false in
    let p =
    c.write_numbers.ensures ∙ sym (right-size answer h _ _) ∙ c.loaded_numbers-n.ensures ∙ ap (λ (r : LoadResult). load_numbers r.answer) c.load.ensures
    in
    (λ i. record { answer = p i; tables = (c.load.ensures i).tables }) ∙ right-size answer h _ _
