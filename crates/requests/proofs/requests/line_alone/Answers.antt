use mathlib.Core.Path.{refl}
use Rattle.merge_rules.specs.CallLists.{line_alone}
use Rattle.requests.specs.Requests.{request_is}
use Rattle.requests.proofs.Laws.Requests.{count-due}
use Rattle.requests.proofs.requests.line_alone.Goals as goal

pub returns : goal.returns
unfolding line_alone
returns c = λ calls w q e. count-due request_is refl calls c.args.f w 1 c.then_some.ensures e
