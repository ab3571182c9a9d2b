use mathlib.Core.Path.{◌∙◌}
use Rattle.requests.proofs.Laws.Requests.{equal-same}
use Rattle.requests.proofs.requests.same_word.Goals as goal

pub returns : goal.returns
returns c = c.eq.ensures ∙ equal-same c.args.s.now c.args.word.now
