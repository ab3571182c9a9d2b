use Rattle.pairing.specs.Keys.{is_name, key_by}
use borrow.Author.Rules.{rules}
use Rattle.pairing.proofs.Laws.Siblings.{both-missing, key-for-missing, missing-for-key, sizes-equal, sizes-unequal}
use Rattle.pairing.specs.Lent.{fixed_of, model_in}
use Rattle.pairing.proofs.sibling.candidate_at.Goals as goal

pub returns-in-Some-Some : goal.returns-in-Some-Some
returns-in-Some-Some c =
    let x = fixed_of c.args.tables.now in
    let m = model_in c.args.tables.now in
    let key = key_by (is_name c.args.kind) x m in
    sizes-equal x key c.args.n.0 c.args.key c.args.b.0 c.element_name-m.ensures (search rules) c.key_of-k.ensures c.in-Some-Some.is-0 c.in-Some-Some.is-1 c.if-q-p.true

pub returns-in_default : goal.returns-in_default
returns-in_default c =
    let x = fixed_of c.args.tables.now in
    let m = model_in c.args.tables.now in
    let key = key_by (is_name c.args.kind) x m in
    sizes-unequal x key c.args.n.0 c.args.key c.args.b.0 c.element_name-m.ensures (search rules) c.key_of-k.ensures c.in-Some-Some.is-0 c.in-Some-Some.is-1 c.if-q-p.false c.requires.key_in

pub returns-in-None-None : goal.returns-in-None-None
returns-in-None-None c =
    let x = fixed_of c.args.tables.now in
    let m = model_in c.args.tables.now in
    let key = key_by (is_name c.args.kind) x m in
    both-missing x key c.args.n.0 c.args.key c.args.b.0 c.element_name-m.ensures (search rules) c.key_of-k.ensures c.in-None-None.is-0 c.in-None-None.is-1

pub returns-in_default-2 : goal.returns-in_default-2
returns-in_default-2 c =
    let x = fixed_of c.args.tables.now in
    let m = model_in c.args.tables.now in
    let key = key_by (is_name c.args.kind) x m in
    key-for-missing x key c.args.n.0 c.args.key c.args.b.0 c.element_name-m.ensures (search rules) c.key_of-k.ensures c.in_default.is-0 c.in_default.is-1

pub returns-in_default-3 : goal.returns-in_default-3
returns-in_default-3 c =
    let x = fixed_of c.args.tables.now in
    let m = model_in c.args.tables.now in
    let key = key_by (is_name c.args.kind) x m in
    missing-for-key x key c.args.n.0 c.args.key c.args.b.0 c.element_name-m.ensures (search rules) c.key_of-k.ensures c.in_default.is-0 c.in_default.is-1
