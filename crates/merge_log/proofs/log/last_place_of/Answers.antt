use mathlib.Core.Path.{sym, ◌∙◌}
use Rattle.tables.specs.ModelTable.{item_is, model_of}
use Rattle.tables.specs.Records.{list_of}
use Rattle.merge_log.proofs.Laws.Places.{back_start, back_more, back_found}
use borrow.Author.Rules.{rules}
use Rattle.merge_log.proofs.log.last_place_of.Goals as goal

pub loop-last-init : goal.loop-last-init
loop-last-init c =
    back_start c.args.e.0 (list_of (model_of c.args.model.now) c.args.p.0) _ c.list_length-n.ensures

pub returns-then-is_child : goal.returns-then-is_child
returns-then-is_child c =
    back_found c.args.e.0 (list_of (model_of c.args.model.now) c.args.p.0) c.loop-last.last (item_is c.item_at-a.result) (search rules) (search rules) c.item_at-a.ensures (sym c.is_child.ensures ∙ c.if-is_child.true) c.requires.p_value

pub loop-last-preserved : goal.loop-last-preserved
loop-last-preserved c =
    back_more c.args.e.0 (list_of (model_of c.args.model.now) c.args.p.0) c.loop-last.last (item_is c.item_at-a.result) (search rules) (search rules) c.item_at-a.ensures (sym c.is_child.ensures ∙ c.if-is_child.false) c.loop-last.invariant
