use mathlib.Core.Option.{some}
use mathlib.Core.Path.{◌≡◌, refl, sym, ◌∙◌}
use Prim.Native.Nat.{◌<◌}
use native.Mathlib.Omega.{arith}
use lib.ListN.{length, get_or}
use Rattle.tables.specs.ElementsTable.{elements_of}
use Rattle.tables.specs.SchemaTable.{schema_of, no_sub_element}
use Rattle.deck.specs.Schema.{row_of_name}
use Rattle.deck.proofs.Laws.Schema.{row-equal}
use Rattle.deck.proofs.Laws.Load.{room-left}
use Rattle.load.proofs.Laws.Steps.{line_refused}
use Rattle.load.proofs.Laws.Above.{owner-told, owner-element, owner-deep}
use Rattle.load.proofs.Laws.Elements.{child-typed, child-alone, child-unknown, child-barred, child-line}
use Rattle.schema_calls.proofs.Laws.Scans.{found-at, found_within, found-missing}
use Rattle.load.proofs.tree_lines.load_child.Goals as goal

pub returns-in_default : goal.returns-in_default
returns-in_default c =
    let alone = owner-told c.args.p c.args.schema.now c.args.elements.now c.args.model.now c.args.c.depth _ _ c.owner.ensures c.in_default.is in
    line_refused c.requires.good_loading
    (child-alone _ _ _ _ alone)

pub element_type-t-requires : goal.element_type-t-requires
element_type-t-requires c =
    let owns = owner-told c.args.p c.args.schema.now c.args.elements.now c.args.model.now c.args.c.depth _ _ c.owner.ensures c.in-Some.is in
    record { good_elements = c.requires.good_loading.good_elements; e_in_bounds = owner-element _ _ _ _ c.requires.good_loading.fits.opened owns }

pub returns-in_default-row_of_name : goal.returns-in_default-row_of_name
returns-in_default-row_of_name c =
    let owns = owner-told c.args.p c.args.schema.now c.args.elements.now c.args.model.now c.args.c.depth _ _ c.owner.ensures c.in-Some.is in
    line_refused c.requires.good_loading
    (child-unknown _ _ _ _ _ owns
    (row-equal _ (sym c.element_type-t.ensures) refl ∙ found-missing c.row_of_name.ensures c.in_default-row_of_name.is))

pub returns-then-not-set_rule : goal.returns-then-not-set_rule
returns-then-not-set_rule c =
    let found : row_of_name (schema_of c.args.schema.now) (get_or (elements_of c.args.elements.now).types c.in-Some.o.0 0) c.args.c.name.0
    ≡ some (get_or (schema_of c.args.schema.now).sub_elements c.in-Some-row_of_name.i no_sub_element) =
    row-equal _ (sym c.element_type-t.ensures) refl ∙ found-at c.row_of_name.ensures c.in-Some-row_of_name.is
    in
    let owns = owner-told c.args.p c.args.schema.now c.args.elements.now c.args.model.now c.args.c.depth _ _ c.owner.ensures c.in-Some.is in
    line_refused c.requires.good_loading
    (child-barred _ _ _ _ _ owns _ found (sym (c.set_rule.ensures _ _) ∙ c.if-not-set_rule.true))

pub row_child-requires : goal.row_child-requires
row_child-requires c =
    let within : c.in-Some-row_of_name.i < length (schema_of c.args.schema.now).sub_elements = found_within c.row_of_name.ensures c.in-Some-row_of_name.is in
    record { good_schema = c.requires.good_loading.good_schema; i_in_bounds = within }

pub add_child-requires : goal.add_child-requires
add_child-requires c =
    let owns = owner-told c.args.p c.args.schema.now c.args.elements.now c.args.model.now c.args.c.depth _ _ c.owner.ensures c.in-Some.is in
    let h = owner-element _ _ _ _ c.requires.good_loading.fits.opened owns in
    record {
      good_elements = c.requires.good_loading.good_elements;
      good_model = c.requires.good_loading.good_model;
      elements_len_bound = c.requires.elements_len_bound;
      model_value = c.requires.good_loading.fits.same;
      owner_bound = omega (arith, c.requires.good_loading.fits.same, h);
      model_bound = room-left _ _ c.requires.item_limit_value (owner-deep _ _ _ owns);
    }

pub open_element-requires : goal.open_element-requires
open_element-requires c = record { d_lt_open_limit = omega (arith, c.requires.depth_le_depth_limit); above_len = c.requires.good_loading.room }

pub returns : goal.returns
returns c =
    let within : c.in-Some-row_of_name.i < length (schema_of c.args.schema.now).sub_elements = found_within c.row_of_name.ensures c.in-Some-row_of_name.is in
    let found : row_of_name (schema_of c.args.schema.now) (get_or (elements_of c.args.elements.now).types c.in-Some.o.0 0) c.args.c.name.0
    ≡ some (get_or (schema_of c.args.schema.now).sub_elements c.in-Some-row_of_name.i no_sub_element) =
    row-equal _ (sym c.element_type-t.ensures) refl ∙ found-at c.row_of_name.ensures c.in-Some-row_of_name.is
    in
    let owns = owner-told c.args.p c.args.schema.now c.args.elements.now c.args.model.now c.args.c.depth _ _ c.owner.ensures c.in-Some.is in
    child-line _ _ _ _ c.requires.good_loading _ _ _ _ _ _ _ _ _ _ c.open_element.ensures
    c.element_count-e.ensures c.row_child.ensures (omega (arith, c.requires.depth_le_depth_limit)) owns found
    (child-typed _ c.requires.good_loading.fits _ within)
    (sym (c.set_rule.ensures _ _) ∙ c.if-not-set_rule.false) c.add_child.ensures.holds_elements c.add_child.ensures.holds_model
