use Rattle.merge.proofs.Laws.Trees.{not-waiting, maybe-waiting}
use Rattle.merge.proofs.tree.waiting_tree.Goals as goal

pub returns-then-holds : goal.returns-then-holds
returns-then-holds c =
    λ deck schema. not-waiting deck schema c.args.elements.now c.args.model.now _ c.args.f.0 _ c.holds.result c.set_of-loaded.ensures c.holds.ensures c.if-holds.true

pub returns : goal.returns
returns c =
    λ deck schema. maybe-waiting deck schema c.args.elements.now c.args.model.now _ c.args.f.0 _ c.holds.result c.find_tree.result c.set_of-loaded.ensures c.holds.ensures c.if-holds.false c.find_tree.ensures
