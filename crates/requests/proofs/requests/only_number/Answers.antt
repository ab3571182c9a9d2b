use mathlib.Core.Path.{refl, ◌∙◌}
use Rattle.deck.specs.Answers.{num_is}
use Rattle.requests.specs.Requests.{only_number}
use Rattle.requests.proofs.Laws.Requests.{word-missing, word-read, count-due}
use Rattle.requests.proofs.requests.only_number.Goals as goal

pub returns-in_err-n : goal.returns-in_err-n
unfolding only_number num_is
returns-in_err-n c = rw c.from_residual.ensures (word-missing _ _ c.word_at.ensures _ c.in_err-n.was)

pub returns : goal.returns
unfolding only_number num_is
returns c =
    count-due num_is refl c.args.calls.now c.args.f c.requires 2 c.then_some.ensures refl ∙ word-read _ _ c.word_at.ensures _ _ c.in_ok-n.was
