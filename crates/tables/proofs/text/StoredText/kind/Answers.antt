use Rattle.tables.specs.Texts.{text_kind}
use Rattle.tables.proofs.text.StoredText.kind.Goals as goal

pub returns-in-Number : goal.returns-in-Number
unfolding text_kind
returns-in-Number c = rw c.in-Number.is

pub returns-in-Str : goal.returns-in-Str
unfolding text_kind
returns-in-Str c = rw c.in-Str.is

pub returns-in-Whole : goal.returns-in-Whole
unfolding text_kind
returns-in-Whole c = rw c.in-Whole.is

pub returns-in-Float : goal.returns-in-Float
unfolding text_kind
returns-in-Float c = rw c.in-Float.is
