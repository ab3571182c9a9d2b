use mathlib.Core.Path.{ap, ◌∙◌}
use Rattle.answer_numbers.specs.Numbers.{Numbered, by_answer, refused_by0, range_numbers}
use Rattle.zapelaritz_c.specs.NumberedCalls.{numbered_range}
use Rattle.zapelaritz_c.proofs.calls.zapelaritz_range.Goals as goal

pub returns : goal.returns
unfolding numbered_range
returns c =
    let answer = c.args.answer.now in
    let e = c.range_numbers-n.ensures ∙ ap range_numbers c.range.ensures in
    c.write_numbers.ensures ∙ ap (λ (n : Numbered). by_answer answer n (refused_by0 answer)) e
