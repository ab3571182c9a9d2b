use Rattle.tables.proofs.Laws.Texts.{same-nan, same-other}
use Rattle.tables.proofs.text.same_float.Goals as goal

pub returns-then-x : goal.returns-then-x
returns-then-x c = same-nan c.args.x c.args.y c.if-x.true

pub returns : goal.returns
returns c = same-other c.args.x c.args.y c.if-x.false
