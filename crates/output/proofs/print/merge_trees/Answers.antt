use mathlib.Core.Path.{◌∙◌}
use native.Mathlib.Omega.{arith}
use Rattle.printing.proofs.Laws.Buffers.{as_long}
use borrow.Author.Rules.{rules}
use Rattle.output.proofs.Laws.Replies.{readable-standing}
use Rattle.output.proofs.Laws.Runs.{trees-begin, trees-turn, trees-end}
use Rattle.output.proofs.print.merge_trees.Goals as goal

pub tree_count-n-requires : goal.tree_count-n-requires
tree_count-n-requires c = (readable-standing c.requires).elements_good

pub loop-t-init : goal.loop-t-init
loop-t-init c = (trees-begin _ _ _ _ _ _ _ c.tree_count-n.ensures c.requires, search rules, search rules)

pub tree_file-f-requires : goal.tree_file-f-requires
tree_file-f-requires c =
    let l = c.loop-t.invariant.0 in
    let all = l.all in
    let h = c.loop-t-test.true in record { good_elements = (readable-standing l.standing).elements_good; t_in_bounds = omega arith }

pub reply_merge-k-requires : goal.reply_merge-k-requires
reply_merge-k-requires c = c.loop-t.invariant.0.standing

pub loop-t-preserved : goal.loop-t-preserved
loop-t-preserved c = (
  trees-turn _ _ _ c.loop-t.t _ c.loop-t.invariant.0 _ c.loop-t-test.true c.tree_file-f.ensures c.reply_merge-k.ensures,
  c.reply_merge-k.auto.model ∙ c.loop-t.invariant.1,
  c.reply_merge-k.auto.log ∙ c.loop-t.invariant.2,
)

pub append_model-requires : goal.append_model-requires
append_model-requires c = readable-standing c.loop-t.invariant.0.standing

pub shape_of-model : goal.shape_of-model
shape_of-model c = c.loop-t.invariant.1

pub shape_of-log : goal.shape_of-log
shape_of-log c = c.loop-t.invariant.2

pub shape_of-out : goal.shape_of-out
shape_of-out c = c.append_model.auto.out ∙ as_long c.loop-t.invariant.0.left

pub returns : goal.returns
returns c = trees-end _ _ _ c.loop-t.t _ c.loop-t.invariant.0 c.loop-t-test.false (c.append_model.ensures _)
