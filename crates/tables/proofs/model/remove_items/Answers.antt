use mathlib.Core.Path.{◌≡◌}
use Prim.Native.Nat.{suc, ◌+◌, ◌-◌}
use native.Mathlib.Omega.{arith}
use borrow.Rule.Slice.PartMut.{mid_of}
use Rattle.tables.specs.ModelTable.{items_at, starts_at, start_of, count_of, model_of, shift_out}
use Rattle.tables.specs.Records.{content_items}
use Rattle.tables.proofs.Laws.ModelTable.{remove-starts, starts-past, store-remove}
use Rattle.tables.proofs.model.remove_items.Goals as goal

pub lower_from-requires : goal.lower_from-requires
lower_from-requires c = let shifted_0 : c.shift_out.new.s
    ≡ shift_out
    (mid_of items_at (items_at + c.item_total-total.result - items_at) c.args.model.now)
    (start_of (model_of c.args.model.now).lists c.args.e.0 + c.args.i)
    c.args.k = rw c.start_of.ensures.is at c.shift_out.ensures in let starts-lent_0 : starts_at + c.count-n.result + 1 - starts_at ≡ suc (count_of (model_of c.args.model.now)) = omega (arith, c.count-n.ensures) in let items-lent_0 : items_at + c.item_total-total.result - items_at ≡ content_items (model_of c.args.model.now) = omega (arith, c.item_total-total.ensures) in
    let xs = c.args.model.now in
    let e = remove-starts xs c.requires.good_model c.args.e.0 c.args.i c.args.k c.requires.e_bound c.requires.k_in_bounds _ _ _ items-lent_0 starts-lent_0 shifted_0 in
    λ n h t. rw e (starts-past xs c.requires.good_model c.args.e.0 c.args.i c.args.k c.requires.e_bound c.requires.k_in_bounds n h (rw e at t))

pub returns : goal.returns
returns c = let shifted_0 : c.shift_out.new.s
    ≡ shift_out
    (mid_of items_at (items_at + c.item_total-total.result - items_at) c.args.model.now)
    (start_of (model_of c.args.model.now).lists c.args.e.0 + c.args.i)
    c.args.k = rw c.start_of.ensures.is at c.shift_out.ensures in let starts-lent_0 : starts_at + c.count-n.result + 1 - starts_at ≡ suc (count_of (model_of c.args.model.now)) = omega (arith, c.count-n.ensures) in let items-lent_0 : items_at + c.item_total-total.result - items_at ≡ content_items (model_of c.args.model.now) = omega (arith, c.item_total-total.ensures) in
    store-remove c.args.model.now c.requires.good_model c.args.e.0 c.args.i c.args.k c.requires.e_bound c.requires.k_in_bounds _ _ _ items-lent_0 starts-lent_0 shifted_0 c.lower_from.new.s c.lower_from.ensures
