use Rattle.output.proofs.Laws.Replies.{rollback-replies}
use Rattle.output.proofs.reply.reply_rollback.Goals as goal

pub returns : goal.returns
returns c = rollback-replies c.requires c.args.mark c.rollback-a.ensures c.append_rollback.ensures
