use mathlib.Core.Path.{◌∙◌}
use Rattle.tables.specs.LogTable.{log_of}
use Rattle.tables.specs.ModelTable.{model_of}
use Rattle.pairs.proofs.Laws.Settle.{extend-none, extend-own}
use Rattle.pairs.proofs.settle.extend_pair.Goals as goal

pub returns-then-is_empty-clause-log_after : goal.returns-then-is_empty-clause-log_after
returns-then-is_empty-clause-log_after c =
    extend-none (model_of c.args.model.now) c.args.a.0 c.set_of-set.ensures c.is_empty.ensures (log_of c.args.log.now) c.args.f.0 c.if-is_empty.true

pub returns-clause-log_after : goal.returns-clause-log_after
returns-clause-log_after c =
    c.extend.ensures.log_after ∙ extend-own (model_of c.args.model.now) c.args.a.0 c.set_of-set.ensures c.is_empty.ensures (log_of c.args.log.now) c.args.f.0 c.if-is_empty.false
