use mathlib.Core.Path.{sym, ◌∙◌}
use Rattle.tables.specs.ModelTable.{item_is, model_of}
use Rattle.tables.specs.Records.{list_of}
use Rattle.merge_log.proofs.Laws.Places.{search-more, search-found, search-end}
use borrow.Author.Rules.{rules}
use Rattle.merge_log.proofs.log.place_of.Goals as goal

pub returns-then-is_child : goal.returns-then-is_child
returns-then-is_child c =
    search-found c.args.e.0 (list_of (model_of c.args.model.now) c.args.p.0) c.loop-i.i (item_is c.item_at-a.result) (search rules) c.item_at-a.ensures (sym c.is_child.ensures ∙ c.if-is_child.true) c.loop-i.invariant

pub loop-i-preserved : goal.loop-i-preserved
loop-i-preserved c =
    search-more c.args.e.0 (list_of (model_of c.args.model.now) c.args.p.0) c.loop-i.i (item_is c.item_at-a.result) (search rules) c.item_at-a.ensures (sym c.is_child.ensures ∙ c.if-is_child.false) c.loop-i.invariant

pub returns : goal.returns
returns c =
    search-end c.args.e.0 (list_of (model_of c.args.model.now) c.args.p.0) c.loop-i.i (search rules) c.loop-i.invariant
