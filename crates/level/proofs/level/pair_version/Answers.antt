use Rattle.tables.specs.ModelTable.{model_of}
use Rattle.pairs.proofs.Laws.Settle.{files-level, files-own}
use Rattle.level.proofs.level.pair_version.Goals as goal

pub returns-then-is_empty : goal.returns-then-is_empty
returns-then-is_empty c =
    λ files e. rw (← files-level (model_of c.args.model.now) c.args.a.0 c.set_of-own.ensures c.is_empty.ensures files c.if-is_empty.true) e

pub returns : goal.returns
returns c =
    λ files _. rw (← files-own (model_of c.args.model.now) c.args.a.0 c.set_of-own.ensures c.is_empty.ensures files c.if-is_empty.false) c.least_version.ensures
