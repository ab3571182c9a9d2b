use Rattle.printing.proofs.Laws.Buffers.{reads}
use Rattle.printing.proofs.Laws.Lines.{value-enum, value-string, value-whole, value-float}
use Rattle.printing.proofs.lines.append_value.Goals as goal

pub returns-in-Number : goal.returns-in-Number
returns-in-Number c = λ x d. rw c.in-Number.is (reads (value-enum x _) c.append_number_value.ensures)

pub returns-in-Str : goal.returns-in-Str
returns-in-Str c = λ x d. rw c.in-Str.is (reads (value-string x _ _ d) c.append_string_value.ensures)

pub returns-in-Whole : goal.returns-in-Whole
returns-in-Whole c = λ x d. rw c.in-Whole.is (reads (value-whole x _) c.append_number_value-in-Whole.ensures)

pub returns-in-Float : goal.returns-in-Float
returns-in-Float c = λ x d. rw c.in-Float.is (reads (value-float x _) c.append_number_value-in-Float.ensures)
