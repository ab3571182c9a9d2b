use mathlib.Core.Bool.{true, ◌||◌}
use mathlib.Core.Path.{◌≡◌}
use lib.Dec.{eqb, ltb}
use Rattle.tables.specs.Limits.{item_limit}
use Rattle.tables.specs.ModelTable.{model_of}
use Rattle.tables.specs.Records.{content_items}
use Rattle.load.proofs.Laws.Steps.{line_refused, line_as}
use Rattle.load.proofs.Laws.Elements.{e-deep, e-many, e-full, e-root, e-child, room-root, room-item}
use Rattle.load.proofs.tree_lines.load_e.Goals as goal
use Rattle.load.proofs.tree_lines.load_e.Goals.{else-c-ne0-via-then-c-ne0+else-item_total-ge-ITEM_LIMIT, else-c-ne0-via-else-c-ne0}

pub returns-then-c-gt-DEPTH_LIMIT : goal.returns-then-c-gt-DEPTH_LIMIT
returns-then-c-gt-DEPTH_LIMIT c =
    line_refused c.requires
    (e-deep _ _ _ _ c.if-c-gt-DEPTH_LIMIT.true)

pub returns-then-element_count-ge-ELEMENT_LIMIT : goal.returns-then-element_count-ge-ELEMENT_LIMIT
returns-then-element_count-ge-ELEMENT_LIMIT c =
    line_refused c.requires
    (e-many _ _ _ _ c.if-c-gt-DEPTH_LIMIT.false (rw c.element_count.ensures at c.if-element_count-ge-ELEMENT_LIMIT.true))

pub returns-then-item_total-ge-ITEM_LIMIT : goal.returns-then-item_total-ge-ITEM_LIMIT
returns-then-item_total-ge-ITEM_LIMIT c =
    let few = rw c.element_count.ensures at c.if-element_count-ge-ELEMENT_LIMIT.false in
    line_refused c.requires
    (e-full _ _ _ _ c.if-c-gt-DEPTH_LIMIT.false few c.if-c-ne0.true (rw c.item_total.ensures at c.if-item_total-ge-ITEM_LIMIT.true))

pub returns-then-p : goal.returns-then-p
returns-then-p c =
    let few = rw c.element_count.ensures at c.if-element_count-ge-ELEMENT_LIMIT.false in
    let d = c.args.c.depth in
    let n = content_items (model_of c.args.model.now) in
    let room : (eqb d 0 || ltb n item_limit) ≡ true =
    elim c.else-c-ne0.branch [
      | else-c-ne0-via-then-c-ne0+else-item_total-ge-ITEM_LIMIT w ↦ room-item d n (rw w.item_total.ensures at w.if-item_total-ge-ITEM_LIMIT.false)
      | else-c-ne0-via-else-c-ne0 w ↦ room-root d n w.if-c-ne0.false
    ]
    in
    line_as (e-root _ _ _ _ c.if-c-gt-DEPTH_LIMIT.false few room c.if-p.true) c.load_root.ensures

pub returns : goal.returns
returns c =
    let few = rw c.element_count.ensures at c.if-element_count-ge-ELEMENT_LIMIT.false in
    let d = c.args.c.depth in
    let n = content_items (model_of c.args.model.now) in
    let room : (eqb d 0 || ltb n item_limit) ≡ true =
    elim c.else-c-ne0.branch [
      | else-c-ne0-via-then-c-ne0+else-item_total-ge-ITEM_LIMIT w ↦ room-item d n (rw w.item_total.ensures at w.if-item_total-ge-ITEM_LIMIT.false)
      | else-c-ne0-via-else-c-ne0 w ↦ room-root d n w.if-c-ne0.false
    ]
    in
    line_as (e-child _ _ _ _ c.if-c-gt-DEPTH_LIMIT.false few room c.if-p.false) c.load_child.ensures
