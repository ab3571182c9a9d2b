use borrow.Author.Tests.{ne_eqb}
use borrow.Author.Rules.{rules}
use Rattle.tables.specs.Texts.{text_from}
use Rattle.tables.proofs.text.StoredText.from_cells.Goals as goal

pub returns-in-0-clause-is : goal.returns-in-0-clause-is
unfolding text_from
returns-in-0-clause-is c = rw c.in-0.is

pub returns-in-1-clause-is : goal.returns-in-1-clause-is
unfolding text_from
returns-in-1-clause-is c = rw c.in-1.is

pub returns-in-2-clause-is : goal.returns-in-2-clause-is
unfolding text_from
returns-in-2-clause-is c = rw c.in-2.is

pub returns-in_default-clause-is : goal.returns-in_default-clause-is
unfolding text_from
returns-in_default-clause-is c = let k = c.args.kind in
    rw (ne_eqb k 0 (search rules), ne_eqb k 1 (search rules), ne_eqb k 2 (search rules))
