use Rattle.std.proofs.Common.{suc, ◌<◌, ◌≤◌, length, sym, ap, ◌∙◌, add-one, arith}
use Rattle.tables.specs.Records.{list_of}
use Rattle.tables.specs.ModelTable.{model_of}
use Rattle.printing.proofs.Laws.Buffers.{full-left-out, then, reads}
use Rattle.printing.proofs.Laws.Trees.{elements-none, elements-more, child-lines, text-lines, items-turn, items-end, listed_in}
use Rattle.printing.proofs.trees.+tree.Goals as goal

pub append_element-returns-then-left-eq0 : goal.append_element-returns-then-left-eq0
append_element-returns-then-left-eq0 t c = λ schema. elements-none _ _ _ _ _ c.if-left-eq0.true

pub append_element-returns : goal.append_element-returns
append_element-returns t c =
    λ schema.
    reads
    (elements-more _ _ _ _ (λ z. omega arith))
    (then (c.append_element_line-k.ensures schema) (c.append_items.ensures schema))

pub append_item-returns-then-is_full : goal.append_item-returns-then-is_full
append_item-returns-then-is_full t c = λ schema. full-left-out _ _ (sym c.is_full.ensures ∙ c.if-is_full.true)

pub append_item-returns-in-Child : goal.append_item-returns-in-Child
append_item-returns-in-Child t c = λ schema. reads (child-lines _ _ _ _ _ c.in-Child.is) (c.append_element.ensures schema)

pub append_item-returns-in-Text : goal.append_item-returns-in-Text
append_item-returns-in-Text t c = λ schema. reads (text-lines _ _ _ _ _ c.in-Text.is) (c.append_text_line.ensures schema)

pub append_items-append_item-k-requires : goal.append_items-append_item-k-requires
append_items-append_item-k-requires t c =
    let i = c.loop-i.i in
    let l : i < length (list_of (model_of c.args.model.now) c.args.e.0) = omega (arith, c.list_length-i-end.ensures) in
    (omega arith, (c.requires.readable, listed_in c.requires.readable c.args.e.0 i _ l c.item_at-a.ensures))

pub append_items-loop-i-preserved : goal.append_items-loop-i-preserved
append_items-loop-i-preserved t c =
    let i = c.loop-i.i in
    let h = c.loop-i-test.true in
    let l : i < length (list_of (model_of c.args.model.now) c.args.e.0) = omega (arith, c.list_length-i-end.ensures, h) in
    let d = add-one _ ∙ ap suc c.element_depth-depth.ensures in
    λ schema. items-turn _ _ _ _ i l c.item_at-a.ensures d (c.loop-i.invariant schema) (c.append_item-k.ensures schema)

pub append_items-returns : goal.append_items-returns
append_items-returns t c =
    let l : length (list_of (model_of c.args.model.now) c.args.e.0) ≤ c.loop-i.i = omega (arith, c.list_length-i-end.ensures) in
    λ schema. items-end _ _ _ _ _ l (c.loop-i.invariant schema)
