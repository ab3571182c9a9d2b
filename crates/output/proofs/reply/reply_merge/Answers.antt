use Rattle.output.proofs.Laws.Replies.{merge-replies}
use Rattle.output.proofs.reply.reply_merge.Goals as goal

pub returns : goal.returns
returns c = merge-replies c.requires c.args.file c.merge-a.ensures c.append_merge.ensures
