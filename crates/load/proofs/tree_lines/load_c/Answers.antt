use mathlib.Core.Path.{◌≡◌, ◌∙◌}
use Prim.Native.Nat.{◌<◌}
use native.Mathlib.Omega.{arith}
use lib.ListN.{length, get_or}
use Rattle.tables.specs.SchemaTable.{schema_of}
use Rattle.tables.specs.ElementsTable.{elements_of}
use Rattle.tables.specs.Records.{type_row}
use Rattle.deck.specs.Load.{takes_text}
use Rattle.load.proofs.Laws.Steps.{line_refused}
use Rattle.load.proofs.Laws.Above.{owner-told, owner-element}
use Rattle.load.proofs.Laws.Elements.{element-typed}
use Rattle.load.proofs.Laws.TextItems.{mode-below, mode-told, c-deep, c-full, c-due, c-alone, c-barred, c-line}
use Rattle.load.proofs.tree_lines.load_c.Goals as goal

pub returns-then-c-gt-DEPTH_LIMIT : goal.returns-then-c-gt-DEPTH_LIMIT
returns-then-c-gt-DEPTH_LIMIT c =
    line_refused c.requires.good_loading
    (c-deep _ _ _ c.if-c-gt-DEPTH_LIMIT.true)

pub returns-then-item_total-ge-ITEM_LIMIT : goal.returns-then-item_total-ge-ITEM_LIMIT
returns-then-item_total-ge-ITEM_LIMIT c =
    line_refused c.requires.good_loading
    (c-full _ _ _ c.if-c-gt-DEPTH_LIMIT.false (rw c.item_total.ensures at c.if-item_total-ge-ITEM_LIMIT.true))

pub returns-then-p : goal.returns-then-p
returns-then-p c =
    let few = rw c.item_total.ensures at c.if-item_total-ge-ITEM_LIMIT.false in
    line_refused c.requires.good_loading
    (c-due _ _ _ c.if-c-gt-DEPTH_LIMIT.false few c.if-p.true)

pub returns-in_default : goal.returns-in_default
returns-in_default c =
    let alone = owner-told c.args.p c.args.schema.now c.args.elements.now c.args.model.now c.args.c.depth _ _ c.owner.ensures c.in_default.is in
    let few = rw c.item_total.ensures at c.if-item_total-ge-ITEM_LIMIT.false in
    line_refused c.requires.good_loading
    (c-alone _ _ _ c.if-c-gt-DEPTH_LIMIT.false few c.if-p.false alone)

pub element_type-t-requires : goal.element_type-t-requires
element_type-t-requires c =
    let owns = owner-told c.args.p c.args.schema.now c.args.elements.now c.args.model.now c.args.c.depth _ _ c.owner.ensures c.in-Some.is in
    let element : c.in-Some.o.0 < length (elements_of c.args.elements.now).names = owner-element _ _ _ _ c.requires.good_loading.fits.opened owns in
    record { good_elements = c.requires.good_loading.good_elements; e_in_bounds = element }

pub type_mode-requires : goal.type_mode-requires
type_mode-requires c =
    let owns = owner-told c.args.p c.args.schema.now c.args.elements.now c.args.model.now c.args.c.depth _ _ c.owner.ensures c.in-Some.is in
    let element : c.in-Some.o.0 < length (elements_of c.args.elements.now).names = owner-element _ _ _ _ c.requires.good_loading.fits.opened owns in
    record {
      good_schema = c.requires.good_loading.good_schema;
      t_in_bounds = rw c.element_type-t.ensures (element-typed _ c.requires.good_loading.fits c.requires.good_loading.good_elements.sized _ element);
    }

pub takes_text-requires : goal.takes_text-requires
takes_text-requires c = rw c.type_mode.ensures (mode-below _)

pub returns-then-not-takes_text : goal.returns-then-not-takes_text
returns-then-not-takes_text c =
    let mode : takes_text (type_row (schema_of c.args.schema.now) (get_or (elements_of c.args.elements.now).types c.in-Some.o.0 0)).mode
    ≡ c.takes_text.result = mode-told (schema_of c.args.schema.now) _ _ _ c.element_type-t.ensures c.type_mode.ensures _ c.takes_text.ensures in
    let few = rw c.item_total.ensures at c.if-item_total-ge-ITEM_LIMIT.false in
    let owns = owner-told c.args.p c.args.schema.now c.args.elements.now c.args.model.now c.args.c.depth _ _ c.owner.ensures c.in-Some.is in
    line_refused c.requires.good_loading
    (c-barred _ _ _ c.if-c-gt-DEPTH_LIMIT.false few c.if-p.false _ owns (mode ∙ c.if-not-takes_text.true))

pub append_item-requires : goal.append_item-requires
append_item-requires c =
    let few = rw c.item_total.ensures at c.if-item_total-ge-ITEM_LIMIT.false in
    let owns = owner-told c.args.p c.args.schema.now c.args.elements.now c.args.model.now c.args.c.depth _ _ c.owner.ensures c.in-Some.is in
    let element : c.in-Some.o.0 < length (elements_of c.args.elements.now).names = owner-element _ _ _ _ c.requires.good_loading.fits.opened owns in
    let room = few in
    record {
      good_model = c.requires.good_loading.good_model;
      e_bound = omega (arith, c.requires.good_loading.fits.same, element);
      model_bound = room;
      item_below = omega (arith, c.requires.good_loading.fits.texts, c.text_count-n.ensures);
    }

pub returns : goal.returns
returns c =
    let mode : takes_text (type_row (schema_of c.args.schema.now) (get_or (elements_of c.args.elements.now).types c.in-Some.o.0 0)).mode
    ≡ c.takes_text.result = mode-told (schema_of c.args.schema.now) _ _ _ c.element_type-t.ensures c.type_mode.ensures _ c.takes_text.ensures in
    let few = rw c.item_total.ensures at c.if-item_total-ge-ITEM_LIMIT.false in
    let owns = owner-told c.args.p c.args.schema.now c.args.elements.now c.args.model.now c.args.c.depth _ _ c.owner.ensures c.in-Some.is in
    c-line _ _ _ _ _ _ c.requires.good_loading _ _ _ c.if-c-gt-DEPTH_LIMIT.false few c.if-p.false owns
    (mode ∙ c.if-not-takes_text.false) c.add_text.ensures (rw c.text_count-n.ensures at c.append_item.ensures)
