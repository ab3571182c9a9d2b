-- Every change of the model or the log keeps what the calls after load need of them. Assumes nothing.
use mathlib.Core.List.{List, [], ◌∷◌}
use mathlib.Core.Option.{Option}
use mathlib.Core.Path.{◌≡◌, refl, sym, ap, subst, ◌∙◌}
use Prim.Native.Nat.{ℕ, ◌+◌, ◌≤◌, ◌<◌}
use native.Mathlib.Omega.{arith}
use lib.ListN.{length, drop, length-set}
use Rattle.tables.specs.Cells.{Each}
use Rattle.tables.specs.Limits.{item_limit}
use Rattle.tables.specs.LogTable.{log_of, HoldsLog}
use Rattle.tables.specs.ModelTable.{flat, start_of, count_of, model_of, ItemBelow, GoodModel, HoldsModel}
use Rattle.tables.specs.Records.{Element, FileSet, Item, child, text, Model, Entry, list_of, put_parent, put_set, put_list, insert_item, insert_items, put_item, remove_items}
use Rattle.tables.proofs.Laws.Cells.{each_set, each-imp}
use Rattle.tables.proofs.Laws.Lists.{each-insert_run, each-remove_run, flat-insert_run, flat-remove, flat-set}
use Rattle.tables.proofs.Laws.Model.{insert_items-one}
use Rattle.table_test.specs.LogTest.{EntryIn}
use Rattle.table_test.specs.Passing.{ItemTextIn}
use Rattle.table_test.specs.Fits.{ModelFits, LogFits, KeepsModel}

text-below : (n : ℕ) (a : Item) → ItemBelow n a → ItemTextIn item_limit a
text-below n (child e) h = tt
text-below n (text t) h = h

-- a good model table, with all the texts that a table has room for
pub good-fits : (xs : List ℕ) → GoodModel xs → ModelFits (count_of (model_of xs)) item_limit xs
good-fits xs g =
    let n = count_of (model_of xs) in
    record { good = g; same = refl; items = each-imp (ItemBelow n) (ItemTextIn item_limit) (flat (model_of xs).lists) (text-below n) g.sized.items_in }

pub keeps-count : (xs ys : List ℕ) → GoodModel xs → KeepsModel xs ys → count_of (model_of ys) ≡ count_of (model_of xs)
keeps-count xs ys g k = (k (count_of (model_of xs)) item_limit (good-fits xs g)).same

-- a model table that holds a model of as many elements, with texts in range
held : {n texts : ℕ} {xs : List ℕ} {m : Model} → HoldsModel xs m → count_of m ≡ n → Each (ItemTextIn texts) (flat m.lists) → ModelFits n texts xs
held {n} {texts} h same items =
    record {
      good = h.good;
      same = ap count_of h.is ∙ same;
      items = subst (λ (k : Model). Each (ItemTextIn texts) (flat k.lists)) (sym h.is) items;
    }

module _ {n texts : ℕ} {xs ys : List ℕ} (f : ModelFits n texts xs) where
  pub fits-set : (e : Element) (s : FileSet) → HoldsModel ys (put_set (model_of xs) e s) → ModelFits n texts ys
  unfolding put_set
  fits-set e s h = held h f.same f.items

  pub fits-parent : (e : Element) (p : Option Element) → HoldsModel ys (put_parent (model_of xs) e p) → ModelFits n texts ys
  unfolding put_parent
  fits-parent e p h = held h (length-set (model_of xs).parents e p ∙ f.same) f.items

  pub fits-insert_items : (e i k : ℕ) (a : Item) → e < count_of (model_of xs) → i ≤ length (list_of (model_of xs) e) → ItemTextIn texts a
      → HoldsModel ys (insert_items (model_of xs) e i k a) → ModelFits n texts ys
  unfolding insert_items put_list
  fits-insert_items e i k a low at within h =
      let m = model_of xs in
      let count : e < length m.lists = omega (arith, f.good.sized.lists) in
      held h f.same
      (subst (Each (ItemTextIn texts)) (sym (flat-insert_run m.lists e i k a count at))
      (each-insert_run (ItemTextIn texts) (flat m.lists) (start_of m.lists e + i) k a f.items within))

  pub fits-insert : (e i : ℕ) (a : Item) → e < count_of (model_of xs) → i ≤ length (list_of (model_of xs) e) → ItemTextIn texts a
      → HoldsModel ys (insert_item (model_of xs) e i a) → ModelFits n texts ys
  fits-insert e i a low at within h = fits-insert_items e i 1 a low at within (subst (HoldsModel ys) (sym (insert_items-one (model_of xs) e i a)) h)

  pub fits-put-item : (e i : ℕ) (a : Item) → i < length (list_of (model_of xs) e) → ItemTextIn texts a
      → HoldsModel ys (put_item (model_of xs) e i a) → ModelFits n texts ys
  unfolding put_item put_list
  fits-put-item e i a at within h =
      let m = model_of xs in
      held h f.same
      (subst (Each (ItemTextIn texts)) (sym (flat-set m.lists e i a at))
      (each_set (ItemTextIn texts) (flat m.lists) (start_of m.lists e + i) a f.items within))

  pub fits-remove : (e i k : ℕ) → e < count_of (model_of xs) → i + k ≤ length (list_of (model_of xs) e) → HoldsModel ys (remove_items (model_of xs) e i k)
      → ModelFits n texts ys
  unfolding remove_items put_list
  fits-remove e i k low at h =
      let m = model_of xs in
      let count : e < length m.lists = omega (arith, f.good.sized.lists) in
      held h f.same
      (subst (Each (ItemTextIn texts)) (sym (flat-remove m.lists e i k count at))
      (each-remove_run (ItemTextIn texts) (flat m.lists) (start_of m.lists e + i) k f.items))

each-rest : {A : Type 0} (P : A → Type 0) (l : List A) → Each P l → Each P (drop 1 l)
each-rest P [] h = h
each-rest P (a ∷ l) h = h.1

module _ {n : ℕ} {xs ys : List ℕ} (f : LogFits n xs) where
  pub fits-push : (a : Entry) → EntryIn n a → HoldsLog ys (a ∷ log_of xs) → LogFits n ys
  fits-push a within h = record { good = h.good; entries = subst (Each (EntryIn n)) (sym h.is) (within, f.entries) }

  pub fits-pop : HoldsLog ys (drop 1 (log_of xs)) → LogFits n ys
  fits-pop h = record { good = h.good; entries = subst (Each (EntryIn n)) (sym h.is) (each-rest (EntryIn n) (log_of xs) f.entries) }
