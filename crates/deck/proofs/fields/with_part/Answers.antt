use native.Mathlib.Omega.{arith}
use Rattle.deck.proofs.Laws.PathFields.{put-0, put_1, put_2, put_3}
use Rattle.deck.proofs.fields.with_part.Goals as goal

pub returns-in-0 : goal.returns-in-0
returns-in-0 c = put-0 c.args.v c.args.p (omega arith)

pub returns-in-1 : goal.returns-in-1
returns-in-1 c = put_1 c.args.v c.args.p (omega arith)

pub returns-in-2 : goal.returns-in-2
returns-in-2 c = put_2 c.args.v c.args.p (omega arith)

pub returns-in_default : goal.returns-in_default
returns-in_default c = put_3 c.args.v c.args.p (omega arith)
