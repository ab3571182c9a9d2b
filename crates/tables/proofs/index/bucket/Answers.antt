use borrow.Author.Rules.{rules}
use Rattle.tables.specs.Index.{bucket}
use Rattle.tables.proofs.index.bucket.Goals as goal

pub returns : goal.returns
unfolding bucket
returns c = search rules
