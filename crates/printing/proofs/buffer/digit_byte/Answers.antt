use borrow.Author.Tests.{lt-ltb, le-ltb}
use Rattle.merge_rules.specs.Program.{digit_byte}
use Rattle.printing.proofs.buffer.digit_byte.Goals as goal

pub returns-then-d-lt10 : goal.returns-then-d-lt10
unfolding digit_byte
returns-then-d-lt10 c = rw (digit_byte, lt-ltb c.args.d 10 c.if-d-lt10.true)

pub returns : goal.returns
unfolding digit_byte
returns c = rw (digit_byte, le-ltb c.args.d 10 c.if-d-lt10.false)
