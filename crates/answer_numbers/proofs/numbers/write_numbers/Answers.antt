use Rattle.answer_numbers.proofs.Laws.Numbers.{wrong_size, filled}
use Rattle.answer_numbers.proofs.numbers.write_numbers.Goals as goal

pub returns-then-answer-ne-ANSWER_SIZE : goal.returns-then-answer-ne-ANSWER_SIZE
returns-then-answer-ne-ANSWER_SIZE c = wrong_size c.args.answer.now _ _ c.if-answer-ne-ANSWER_SIZE.true

pub returns : goal.returns
returns c =
    filled c.args.answer.now c.if-answer-ne-ANSWER_SIZE.false c.args.n c.copy_from_slice.ensures.after
