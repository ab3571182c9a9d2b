use mathlib.Core.Path.{ap, ◌∙◌}
use Rattle.answer_numbers.specs.Numbers.{Numbered, by_answer, refused_by0}
use Rattle.zapelaritz_c.specs.NumberedCalls.{numbered_mark}
use Rattle.zapelaritz_c.proofs.calls.zapelaritz_mark.Goals as goal

pub returns : goal.returns
unfolding numbered_mark
returns c =
    let answer = c.args.answer.now in
    c.write_numbers.ensures ∙ ap (λ (n : Numbered). by_answer answer n (refused_by0 answer)) c.mark_numbers-n.ensures
