use mathlib.Core.Path.{◌∙◌}
use Rattle.deck.specs.Answers.{part_at}
use Rattle.requests.proofs.Laws.Requests.{request-read}
use Rattle.requests.proofs.requests.read_request.Goals as goal

pub by_word-requires : goal.by_word-requires
by_word-requires c = c.split-f.ensures.placed

pub returns : goal.returns
returns c =
    c.by_word.ensures
    ∙ request-read c.args.calls.now (part_at c.args.calls.now c.args.start c.args.end) c.split-f.result c.split-f.ensures
