-- The table of a model whose items are in their ranges, with no element twice in a list, passes. Assumes nothing.
use mathlib.Core.Bool.{true}
use mathlib.Core.List.{List}
use mathlib.Core.Path.{◌≡◌, refl, ap, ◌∙◌}
use Prim.Native.Nat.{ℕ}
use borrow.Author.Tests.{lt-ltb}
use Rattle.tables.specs.Lists.{all_of}
use Rattle.tables.specs.Records.{Item, child, text, Model}
use Rattle.tables.specs.ModelTable.{flat, count_of, encode_model, model_of, ItemBelow}
use Rattle.table_test.specs.ModelTest.{item_in_range, once_in, model_once, is_model_table}
use Rattle.table_test.specs.Passing.{ItemTextIn, ModelIn}
use Rattle.tables.proofs.Laws.Cells.{each-imp, each_both}
use Rattle.tables.proofs.Laws.ModelTable.{decode-encode, hold}
use Rattle.table_test.proofs.Laws.ModelTest.{passes}
use Rattle.tables.proofs.Laws.Scans.{each-passes}

item-passes : (n texts : ℕ) (a : Item) → ItemBelow n a × ItemTextIn texts a → item_in_range n texts a ≡ true
unfolding item_in_range
item-passes n texts (child e) h = lt-ltb e n h.0
item-passes n texts (text t) h = lt-ltb t texts h.1

module _ (texts : ℕ) (m : Model) (h : ModelIn texts m) where
  items-pass : all_of (item_in_range (count_of m) texts) (flat m.lists) ≡ true
  items-pass =
      let n = count_of m in
      each-passes (item_in_range n texts) (flat m.lists)
      (each-imp (λ (a : Item). ItemBelow n a × ItemTextIn texts a) (λ (a : Item). item_in_range n texts a ≡ true) (flat m.lists) (item-passes n texts)
      (each_both (ItemBelow n) (ItemTextIn texts) (flat m.lists) h.sized.items_in h.texts_in))

  once-passes : model_once m ≡ true
  unfolding model_once
  once-passes = each-passes once_in m.lists h.once

  pub model-passes : is_model_table texts (encode_model m) ≡ true
  model-passes =
      let xs : List ℕ = encode_model m in
      let back : model_of xs ≡ m = decode-encode m h.sized in
      passes texts xs (record {
        good = (hold m xs refl h.sized).good;
        items = ap (λ (x : Model). all_of (item_in_range (count_of x) texts) (flat x.lists)) back ∙ items-pass;
        once = ap model_once back ∙ once-passes;
      })
