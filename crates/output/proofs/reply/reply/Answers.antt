use mathlib.Core.Path.{refl}
use Rattle.output.proofs.Laws.Replies.{readable-standing, log-standing, model-replies, trees-replies, log-replies, of-request}
use Rattle.output.proofs.reply.reply.Goals as goal

pub append_model-requires : goal.append_model-requires
append_model-requires c = readable-standing c.requires

pub append_trees-requires : goal.append_trees-requires
append_trees-requires c = readable-standing c.requires

pub append_log-requires : goal.append_log-requires
append_log-requires c = log-standing c.requires

pub returns-in-Merge : goal.returns-in-Merge
returns-in-Merge c = of-request _ _ _ _ c.in-Merge.is refl c.reply_merge.ensures

pub returns-in-Rollback : goal.returns-in-Rollback
returns-in-Rollback c = of-request _ _ _ _ c.in-Rollback.is refl c.reply_rollback.ensures

pub returns-in-Range : goal.returns-in-Range
returns-in-Range c = of-request _ _ _ _ c.in-Range.is refl c.reply_range.ensures

pub returns-in-Model : goal.returns-in-Model
returns-in-Model c = of-request _ _ _ _ c.in-Model.is refl (model-replies c.requires (c.append_model.ensures _))

pub returns-in-Trees : goal.returns-in-Trees
returns-in-Trees c = of-request _ _ _ _ c.in-Trees.is refl (trees-replies c.requires (c.append_trees.ensures _))

pub returns-in-Log : goal.returns-in-Log
returns-in-Log c = of-request _ _ _ _ c.in-Log.is refl (log-replies c.requires c.append_log.ensures)
