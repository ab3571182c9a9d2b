use mathlib.Core.Path.{sym, ◌∙◌}
use Rattle.tables.proofs.Laws.Texts.{nan_pattern, other-pattern, zero_by_zero}
use Rattle.tables.proofs.text.float_of.Goals as goal

pub float_from_bits-result : goal.float_from_bits-result
float_from_bits-result c = other-pattern c.args.bits c.if-bits-gt9218868437227405312.false

pub returns-then-bits-gt9218868437227405312 : goal.returns-then-bits-gt9218868437227405312
returns-then-bits-gt9218868437227405312 c = zero_by_zero ∙ sym (nan_pattern c.args.bits c.if-bits-gt9218868437227405312.true)
