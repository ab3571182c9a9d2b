use mathlib.Core.List.{List}
use mathlib.Core.Path.{◌≡◌, sym, ◌∙◌}
use lib.ListN.{get_or}
use Prim.Native.Nat.{ℕ}
use Rattle.tables.specs.Records.{Item, list_of}
use Rattle.tables.specs.ModelTable.{model_of, item_is}
use Rattle.tables.specs.SchemaTable.{schema_of, no_sub_element}
use Rattle.tables.specs.declared.numbers.Name.{Name}
use Rattle.state_test.specs.StateTest.{fixed_in}
use borrow.Author.Rules.{rules}
use Rattle.insert_range.specs.Range.{Compares, name_or}
use Rattle.std.specs.Prelude.{Option}
use Rattle.insert_range.specs.declared.range.Against.{Against}
use Rattle.insert_range.proofs.Laws.Range.{ItemRead, item-read, read-stop, read-clash, read_more, read-end, item-early, item_in}
use Rattle.insert_range.proofs.range.read_content.Goals as goal
use Rattle.insert_range.proofs.range.read_content.Goals.{then-ne, else-ne, After-read_item}

-- n is the name of item a, behind the name last, and x is how its elements stand to row new
record Named (schema elements : List ℕ) (t new last : ℕ) (a : Item) (n : Name) (x : Option Against) : Type 0 where
  pub compares : Compares schema t new n.0 x
  pub named : n.0 ≡ name_or elements last a

named : {schema elements : List ℕ} {t new last : ℕ} {a : Item} {m n : Name} {x y : Option Against}
    → n ≡ m → y ≡ x → Compares schema t new m.0 x → m.0 ≡ name_or elements last a → Named schema elements t new last a n y
named hn hy h e = rw (hn, hy) (record { compares = h; named = e })

pub name_or-next-requires-clause-item_below : goal.name_or-next-requires-clause-item_below
name_or-next-requires-clause-item_below c =
    item_in c.args.elements.now c.args.model.now c.requires.model_over c.args.p.0 c.loop-i.i (search rules) c.item_at-a.ensures

pub read_item-requires : goal.read_item-requires
read_item-requires c =
    item-early c.args.elements.now c.args.model.now c.requires.model_over c.args.p.0 c.loop-i.i (search rules)

-- the name of the item, and how its elements stand to the new row
now-named : (c : After-read_item) → Named c.args.schema.now c.args.elements.now c.element_type-t.result.0 c.args.new c.loop-i.name.0
    (item_is c.item_at-a.result) c.if-ne.name c.if-ne.against
now-named c =
    elim c.if-ne.branch [
      | then-ne w ↦ named w.name-is w.against-is w.compare_next-against.ensures c.name_or-next.ensures
      | else-ne w ↦
          let same : c.name_or-next.result.0 ≡ c.loop-i.name.0 = search rules in
          named w.name-is w.against-is c.loop-i.invariant.0 (sym same ∙ c.name_or-next.ensures)
    ]

read : (c : After-read_item) (deck : List ℕ) → ItemRead (fixed_in deck c.args.schema.now c.args.elements.now) c.args.p.0
    (get_or (schema_of c.args.schema.now).sub_elements c.args.new no_sub_element) (list_of (model_of c.args.model.now) c.args.p.0) c.loop-i.i
    c.loop-i.bounds c.read_item.new.bounds c.read_item.result
read c deck =
    let a = c.args in
    let k = now-named c in
    item-read deck a.schema.now a.elements.now a.p.0 c.element_type-t.ensures a.new _ c.row_mult-mult.ensures k.compares c.loop-i.name.0
    (list_of (model_of a.model.now) a.p.0) c.loop-i.i (search rules) (item_is c.item_at-a.result) c.item_at-a.ensures k.named c.read_item.ensures

pub returns-in-Stop : goal.returns-in-Stop
returns-in-Stop c =
    let s = (goal.at.returns-in-Stop c).After-read_item in
    λ deck. sym (read-stop (read s deck) c.in-Stop.is) ∙ c.loop-i.invariant.1 deck

pub returns-in-Clash : goal.returns-in-Clash
returns-in-Clash c =
    let s = (goal.at.returns-in-Clash c).After-read_item in
    λ deck. sym (read-clash (read s deck) c.in-Clash.is) ∙ c.loop-i.invariant.1 deck

pub loop-i-preserved : goal.loop-i-preserved
loop-i-preserved c =
    let s = (goal.at.loop-i-preserved c).After-read_item in
    ((now-named s).compares, λ deck. read_more (read s deck) c.in-To.is ∙ c.loop-i.invariant.1 deck)

pub returns : goal.returns
returns c =
    let a = c.args in
    λ deck.
    sym (read-end (fixed_in deck a.schema.now a.elements.now) a.p.0 (get_or (schema_of a.schema.now).sub_elements a.new no_sub_element)
    (list_of (model_of a.model.now) a.p.0) c.loop-i.i c.loop-i.bounds (search rules))
    ∙ c.loop-i.invariant.1 deck
