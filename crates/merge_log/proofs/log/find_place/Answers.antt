use Rattle.tables.specs.ModelTable.{model_of}
use Rattle.merge_log.proofs.Laws.Once.{once-list}
use Rattle.merge_log.proofs.log.find_place.Goals as goal

pub last_place_of-requires-clause-p_value : goal.last_place_of-requires-clause-p_value
last_place_of-requires-clause-p_value c =
    once-list (model_of c.args.model.now) c.args.p.0 (c.requires.once_if c.if-once.true)
