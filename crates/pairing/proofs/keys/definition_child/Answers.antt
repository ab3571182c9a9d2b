use Rattle.pairing.proofs.Laws.Keys.{child-in, definition-start, definition-end, definition-text, definition-other, definition-is}
use borrow.Author.Rules.{rules}
use Rattle.pairing.specs.Lent.{fixed_of, model_in, element_count}
use Rattle.pairing.proofs.keys.definition_child.Goals as goal

pub loop-i-init : goal.loop-i-init
loop-i-init c =
    let x = fixed_of c.args.tables.now in
    let m = model_in c.args.tables.now in
    definition-start x m c.args.e.0

pub loop-i-preserved-in_default : goal.loop-i-preserved-in_default
loop-i-preserved-in_default c =
    let x = fixed_of c.args.tables.now in
    let m = model_in c.args.tables.now in
    let n = element_count c.args.tables.now in
    definition-text x m c.args.e.0 n c.loop-i.i c.loop-i.invariant (search rules) c.item_at.ensures c.in_default.is

pub returns-then-eq : goal.returns-then-eq
returns-then-eq c =
    let x = fixed_of c.args.tables.now in
    let m = model_in c.args.tables.now in
    let n = element_count c.args.tables.now in
    let h = child-in c.args.tables.now.model_over c.args.e.0 c.loop-i.i (search rules) c.item_at.ensures c.in-Child.is in
    definition-is x m c.args.e.0 n c.loop-i.i c.loop-i.invariant (search rules) c.item_at.ensures c.in-Child.is c.element_name-n.ensures (search rules) h

pub loop-i-preserved : goal.loop-i-preserved
loop-i-preserved c =
    let x = fixed_of c.args.tables.now in
    let m = model_in c.args.tables.now in
    let n = element_count c.args.tables.now in
    definition-other x m c.args.e.0 n c.loop-i.i c.loop-i.invariant (search rules) c.item_at.ensures c.in-Child.is c.element_name-n.ensures (search rules)

pub returns : goal.returns
returns c =
    let x = fixed_of c.args.tables.now in
    let m = model_in c.args.tables.now in
    let n = element_count c.args.tables.now in
    definition-end x m c.args.e.0 n c.loop-i.i c.loop-i.invariant (search rules)

pub element_name-n-requires-clause-e_in_bounds : goal.element_name-n-requires-clause-e_in_bounds
element_name-n-requires-clause-e_in_bounds c = child-in c.args.tables.now.model_over c.args.e.0 c.loop-i.i (search rules) c.item_at.ensures c.in-Child.is
