use Rattle.tables.specs.Texts.{value_of}
use Rattle.tables.proofs.text.text_of.Goals as goal

pub returns-in-Number : goal.returns-in-Number
unfolding value_of
returns-in-Number c = rw c.in-Number.is

pub returns-in-Str : goal.returns-in-Str
unfolding value_of
returns-in-Str c = rw c.in-Str.is

pub returns-in-Whole : goal.returns-in-Whole
unfolding value_of
returns-in-Whole c = rw c.in-Whole.is

pub returns-in-Float : goal.returns-in-Float
unfolding value_of
returns-in-Float c = rw (c.in-Float.is, c.float_of.ensures)
