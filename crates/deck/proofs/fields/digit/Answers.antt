use native.Mathlib.Omega.{arith}
use Rattle.deck.proofs.Laws.Numbers.{digit-below, digit-decimal, digit-between, digit-letter, digit-above}
use Rattle.deck.proofs.fields.digit.Goals as goal

pub returns-in-48-to-57 : goal.returns-in-48-to-57
returns-in-48-to-57 c = omega (arith, digit-decimal c.args.b (omega arith) (omega arith))

pub returns-in-97-to-102 : goal.returns-in-97-to-102
returns-in-97-to-102 c = omega (arith, digit-letter c.args.b (omega arith) (omega arith))

pub returns-in_default : goal.returns-in_default
returns-in_default c = omega (arith, digit-below c.args.b (omega arith))

pub returns-in_default-2 : goal.returns-in_default-2
returns-in_default-2 c = omega (arith, digit-between c.args.b (omega arith) (omega arith))

pub returns-in_default-3 : goal.returns-in_default-3
returns-in_default-3 c = omega (arith, digit-above c.args.b (omega arith))
