use Rattle.tables.specs.ModelTable.{model_of}
use Rattle.tables.specs.SetCells.{set_is}
use Rattle.pairs.proofs.Laws.Settle.{files-level, files-own}
use Rattle.pairs.proofs.settle.files_of_pair.Goals as goal

pub returns-then-is_empty : goal.returns-then-is_empty
returns-then-is_empty c =
    files-level (model_of c.args.model.now) c.args.a.0 c.set_of-own.ensures c.is_empty.ensures (set_is c.args.files) c.if-is_empty.true

pub returns : goal.returns
returns c =
    files-own (model_of c.args.model.now) c.args.a.0 c.set_of-own.ensures c.is_empty.ensures (set_is c.args.files) c.if-is_empty.false
