use mathlib.Core.Path.{sym}
use native.Mathlib.Omega.{arith}
use borrow.Author.Rules.{rules}
use Rattle.deck.proofs.Laws.Numbers.{plain-empty, plain-one, plain-zero, plain_other}
use Rattle.deck.proofs.fields.plain.Goals as goal

pub returns-in-empty : goal.returns-in-empty
returns-in-empty c = sym (plain-empty c.args.s.now (search rules))

pub returns-in-empty-2 : goal.returns-in-empty-2
returns-in-empty-2 c = sym (plain-zero c.args.s.now (search rules) (search rules) (search rules))

pub returns-in_default : goal.returns-in_default
returns-in_default c = sym (plain-one c.args.s.now (search rules))

pub returns-in_default-2 : goal.returns-in_default-2
returns-in_default-2 c = sym (plain_other c.args.s.now (search rules) (search rules) (search rules))
