use Rattle.tables.proofs.Laws.LogTable.{log-count}
use Rattle.tables.proofs.log.log_length.Goals as goal

pub returns : goal.returns
returns c = log-count c.args.log.now c.requires
