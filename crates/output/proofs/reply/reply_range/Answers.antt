use Rattle.output.proofs.Laws.Replies.{range-replies}
use Rattle.output.proofs.reply.reply_range.Goals as goal

pub returns : goal.returns
returns c =
    range-replies c.requires c.args.e c.args.n c.args.v c.range-a.ensures c.append_range.ensures
