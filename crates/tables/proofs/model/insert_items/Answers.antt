use mathlib.Core.Path.{◌≡◌, sym, ◌∙◌}
use Prim.Native.Nat.{suc, ◌+◌, ◌-◌}
use native.Mathlib.Omega.{arith}
use borrow.Rule.Slice.PartMut.{mid_of}
use Rattle.tables.specs.ModelTable.{item_is, items_at, starts_at, start_of, item_cell, count_of, model_of, shift_in}
use Rattle.tables.specs.Records.{content_items}
use Rattle.tables.proofs.Laws.ModelTable.{item-weaker, insert-starts, starts-few, store-insert}
use Rattle.tables.proofs.model.insert_items.Goals as goal

pub item_cell-v-requires : goal.item_cell-v-requires
item_cell-v-requires c =
    item-weaker _ _ (item_is c.args.a) c.requires.good_model.sized.count c.requires.item_below

pub raise_from-requires : goal.raise_from-requires
raise_from-requires c = let shifted_0 : c.shift_in.new.s
    ≡ shift_in
    (mid_of items_at (items_at + c.item_total-total.result + c.args.k - items_at) c.args.model.now)
    (start_of (model_of c.args.model.now).lists c.args.e.0 + c.args.i)
    c.args.k
    (item_cell (item_is c.args.a)) = rw (c.start_of.ensures.is, c.item_cell-v.ensures) at c.shift_in.ensures in let starts-lent_0 : starts_at + c.count-n.result + 1 - starts_at ≡ suc (count_of (model_of c.args.model.now)) = omega (arith, c.count-n.ensures) in let items-lent_0 : items_at + c.item_total-total.result + c.args.k - items_at ≡ content_items (model_of c.args.model.now) + c.args.k = omega (arith, c.item_total-total.ensures) in
    let xs = c.args.model.now in
    let e = insert-starts xs c.requires.good_model c.args.e.0 c.args.i c.args.k (item_is c.args.a) c.requires.e_bound c.requires.i_in_bounds c.requires.k_bound _ _ _ items-lent_0 starts-lent_0 shifted_0 in record { by_index = λ n. rw e (starts-few xs c.requires.good_model n); k_le_item_limit = omega arith }

pub returns : goal.returns
returns c = let shifted_0 : c.shift_in.new.s
    ≡ shift_in
    (mid_of items_at (items_at + c.item_total-total.result + c.args.k - items_at) c.args.model.now)
    (start_of (model_of c.args.model.now).lists c.args.e.0 + c.args.i)
    c.args.k
    (item_cell (item_is c.args.a)) = rw (c.start_of.ensures.is, c.item_cell-v.ensures) at c.shift_in.ensures in let starts-lent_0 : starts_at + c.count-n.result + 1 - starts_at ≡ suc (count_of (model_of c.args.model.now)) = omega (arith, c.count-n.ensures) in let items-lent_0 : items_at + c.item_total-total.result + c.args.k - items_at ≡ content_items (model_of c.args.model.now) + c.args.k = omega (arith, c.item_total-total.ensures) in
    let a = item_is c.args.a in
    store-insert c.args.model.now c.requires.good_model c.args.e.0 c.args.i c.args.k a c.requires.e_bound c.requires.i_in_bounds c.requires.k_bound _ _ _ items-lent_0 starts-lent_0 shifted_0 c.raise_from.new.s c.requires.item_below c.raise_from.ensures

pub shape_of-model : goal.shape_of-model
shape_of-model c = (returns c).good.size ∙ sym c.requires.good_model.size
