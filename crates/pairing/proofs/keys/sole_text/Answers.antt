use Rattle.tables.specs.Records.{list_of}
use Rattle.pairing.proofs.Laws.Keys.{text_in_lem, sole-not, sole-child, sole-is}
use borrow.Author.Rules.{rules}
use Rattle.pairing.specs.Lent.{fixed_of, model_in}
use Rattle.pairing.proofs.keys.sole_text.Goals as goal

pub returns-then-list_length-ne1 : goal.returns-then-list_length-ne1
returns-then-list_length-ne1 c =
    let x = fixed_of c.args.tables.now in
    let l = list_of (model_in c.args.tables.now) c.args.e.0 in
    sole-not x l c.list_length.ensures c.if-list_length-ne1.true

pub returns-in-Child : goal.returns-in-Child
returns-in-Child c =
    let x = fixed_of c.args.tables.now in
    let l = list_of (model_in c.args.tables.now) c.args.e.0 in
    sole-child x l c.list_length.ensures c.if-list_length-ne1.false c.item_at.ensures c.in-Child.is

pub returns-in-Text : goal.returns-in-Text
returns-in-Text c =
    let x = fixed_of c.args.tables.now in
    let l = list_of (model_in c.args.tables.now) c.args.e.0 in
    let t = text_in_lem c.args.tables.now.model_over c.args.e.0 0 (search rules) c.item_at.ensures c.in-Text.is in
    sole-is x l c.list_length.ensures c.if-list_length-ne1.false c.item_at.ensures c.in-Text.is t
