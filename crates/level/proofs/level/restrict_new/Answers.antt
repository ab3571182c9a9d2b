use Rattle.level.proofs.Laws.Restrictions.{restrict-new-none, restrict-new-some}
use Rattle.tables.specs.SetCells.{set_is}
use mathlib.Core.Path.{◌∙◌}
use Rattle.level.proofs.level.restrict_new.Goals as goal

pub returns-then-is_empty-clause-log_after : goal.returns-then-is_empty-clause-log_after
returns-then-is_empty-clause-log_after c =
    c.restrict.ensures.log_after ∙ restrict-new-none c.args.model.now c.args.log.now (set_is c.args.files) c.args.a.0 (set_is c.set_of-own.result) c.set_of-own.ensures c.is_empty.result c.is_empty.ensures c.if-is_empty.true

pub returns-clause-log_after : goal.returns-clause-log_after
returns-clause-log_after c =
    restrict-new-some c.args.model.now c.args.log.now (set_is c.args.files) c.args.a.0 (set_is c.set_of-own.result) c.set_of-own.ensures c.is_empty.result c.is_empty.ensures c.if-is_empty.false
