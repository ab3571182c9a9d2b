use borrow.Author.Rules.{rules}
use Rattle.tables.specs.Paths.{shares_part}
use Rattle.tables.proofs.path.shares.Goals as goal

pub returns-then-yn-ne0 : goal.returns-then-yn-ne0
unfolding shares_part
returns-then-yn-ne0 c = search rules

pub returns-else-yn-ne0 : goal.returns-else-yn-ne0
unfolding shares_part
returns-else-yn-ne0 c = search rules
