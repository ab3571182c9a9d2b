use mathlib.Core.Path.{refl, ◌∙◌}
use Rattle.merge_rules.specs.CallLists.{line_range}
use Rattle.requests.specs.Requests.{request_is}
use Rattle.requests.proofs.Laws.Requests.{word-missing, word-read, count-due}
use Rattle.requests.proofs.requests.line_range.Goals as goal

pub returns-in_err-element : goal.returns-in_err-element
unfolding line_range
returns-in_err-element c = rw c.from_residual.ensures (word-missing _ _ c.word_at.ensures _ c.in_err-element.was)

pub returns-in_err-name : goal.returns-in_err-name
unfolding line_range
returns-in_err-name c =
    rw c.from_residual-in_err-name.ensures
    (word-missing _ _ c.word_at-2.ensures _ c.in_err-name.was ∙ word-read _ _ c.word_at.ensures _ _ c.in_ok-element.was)

pub returns-in_err-version : goal.returns-in_err-version
unfolding line_range
returns-in_err-version c =
    rw c.from_residual-in_err-version.ensures
    (word-missing _ _ c.word_at-3.ensures _ c.in_err-version.was
    ∙ word-read _ _ c.word_at-2.ensures _ _ c.in_ok-name.was
    ∙ word-read _ _ c.word_at.ensures _ _ c.in_ok-element.was)

pub returns : goal.returns
unfolding line_range
returns c =
    count-due request_is refl c.args.calls.now c.args.f c.requires 4 c.then_some.ensures refl
    ∙ word-read _ _ c.word_at-3.ensures _ _ c.in_ok-version.was
    ∙ word-read _ _ c.word_at-2.ensures _ _ c.in_ok-name.was
    ∙ word-read _ _ c.word_at.ensures _ _ c.in_ok-element.was
