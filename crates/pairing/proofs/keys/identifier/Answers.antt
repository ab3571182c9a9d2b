use Rattle.pairing.proofs.Laws.Keys.{child-in, identifier-unnamed, identifier-empty, identifier-text, identifier-other, identifier-is}
use borrow.Author.Rules.{rules}
use Rattle.pairing.specs.Lent.{fixed_of, model_in, element_count}
use Rattle.pairing.proofs.keys.identifier.Goals as goal

pub returns-then-not-type_named : goal.returns-then-not-type_named
returns-then-not-type_named c =
    let x = fixed_of c.args.tables.now in
    let m = model_in c.args.tables.now in
    let n = element_count c.args.tables.now in
    identifier-unnamed n x m c.args.e.0 c.element_type-t.ensures c.type_named.ensures c.if-not-type_named.true

pub returns-then-list_length-eq0 : goal.returns-then-list_length-eq0
returns-then-list_length-eq0 c =
    let x = fixed_of c.args.tables.now in
    let m = model_in c.args.tables.now in
    let n = element_count c.args.tables.now in
    identifier-empty n x m c.args.e.0 c.element_type-t.ensures c.type_named.ensures c.if-not-type_named.false c.list_length.ensures c.if-list_length-eq0.true

pub returns-in_default : goal.returns-in_default
returns-in_default c =
    let x = fixed_of c.args.tables.now in
    let m = model_in c.args.tables.now in
    let n = element_count c.args.tables.now in
    identifier-text n x m c.args.e.0 c.element_type-t.ensures c.type_named.ensures c.if-not-type_named.false c.list_length.ensures c.if-list_length-eq0.false c.item_at.ensures c.in_default.is

pub returns-then-ne : goal.returns-then-ne
returns-then-ne c =
    let x = fixed_of c.args.tables.now in
    let m = model_in c.args.tables.now in
    let n = element_count c.args.tables.now in
    identifier-other n x m c.args.e.0 c.element_type-t.ensures c.type_named.ensures c.if-not-type_named.false c.list_length.ensures c.if-list_length-eq0.false c.item_at.ensures c.in-Child.is c.element_name-n.ensures (search rules)

pub returns : goal.returns
returns c =
    let x = fixed_of c.args.tables.now in
    let m = model_in c.args.tables.now in
    let n = element_count c.args.tables.now in
    let h = child-in c.args.tables.now.model_over c.args.e.0 0 (search rules) c.item_at.ensures c.in-Child.is in
    identifier-is n x m c.args.e.0 c.element_type-t.ensures c.type_named.ensures c.if-not-type_named.false c.list_length.ensures c.if-list_length-eq0.false c.item_at.ensures c.in-Child.is c.element_name-n.ensures (search rules) h

pub element_name-n-requires-clause-e_in_bounds : goal.element_name-n-requires-clause-e_in_bounds
element_name-n-requires-clause-e_in_bounds c = child-in c.args.tables.now.model_over c.args.e.0 0 (search rules) c.item_at.ensures c.in-Child.is
