use Rattle.pairing.proofs.Laws.Actions.{path-less, path-not-less}
use Rattle.pairing.specs.Lent.{fixed_of, element_count}
use Rattle.pairing.proofs.action.action_by_path.Goals as goal

pub returns-in-Less : goal.returns-in-Less
returns-in-Less c =
    let n = element_count c.args.tables.now in
    let x = fixed_of c.args.tables.now in
    path-less n x c.args.t.0 c.args.a.0 c.args.b.0 c.element_name.ensures c.element_name-2.ensures (c.path_of-p.ensures c.args.tables.now.deck.now c.args.tables.now.elements.now) (c.path_of-q.ensures c.args.tables.now.deck.now c.args.tables.now.elements.now) c.order.ensures c.in-Less.is

pub returns-in-Equal : goal.returns-in-Equal
returns-in-Equal c =
    let n = element_count c.args.tables.now in
    let x = fixed_of c.args.tables.now in
    path-not-less n x c.args.t.0 c.args.a.0 c.args.b.0 c.element_name.ensures c.element_name-2.ensures (c.path_of-p.ensures c.args.tables.now.deck.now c.args.tables.now.elements.now) (c.path_of-q.ensures c.args.tables.now.deck.now c.args.tables.now.elements.now) c.order.ensures c.in-Equal.is
