-- What a rollback puts off: items that stand one behind the other leave their list together. Assumes nothing.
use mathlib.Core.Bool.{Bool, true}
use mathlib.Core.List.{List}
use mathlib.Core.Option.{none, some}
use mathlib.Core.Path.{◌≡◌, sym, ap, ◌∙◌}
use Prim.Native.Nat.{ℕ, zero, suc, ◌+◌, ◌-◌, ◌≤◌, ◌<◌, zero-le}
use native.Mathlib.Numerals.{add-one}
use native.Mathlib.Omega.{arith}
use lib.ListN.{length, get_or}
use Rattle.tables.specs.Limits.{item_limit}
use Rattle.tables.specs.Lists.{remove_at, remove_run}
use Rattle.tables.specs.ModelTable.{model_of, GoodModel, HoldsModel}
use Rattle.tables.specs.Records.{Element, Item, child, Model, list_of, put_list, remove_item, remove_items}
use Rattle.tables.proofs.Laws.Lists.{length-remove_run, get_d-remove_run, remove_run-none, remove_run-more}
use Rattle.tables.proofs.Laws.Model.{put_list-same, put_list-put_list, list-put_list}
use Rattle.tables.proofs.Laws.ModelTable.{start-room, listed_below}
use Rattle.table_test.specs.Fits.{KeepsModel}
use Rattle.table_test.specs.ModelTest.{model_once}
use Rattle.table_test.proofs.Laws.Fits.{fits-remove}
use Rattle.std.specs.Prelude as program_option
use Rattle.std.specs.Prelude.{Some, None}
use Rattle.merge_rules.specs.Log.{first_place_of, take_out}
use Rattle.merge_log.specs.Places.{is_child, FirstPlace}
use Rattle.merge_log.specs.Runs.{without_run, RunIn, StandsBefore, OnceIf, Leads}
use Rattle.merge_log.specs.declared.log.Run.{Run}
use Rattle.merge_log.proofs.Laws.Once.{once-first, once-list, once-remove, once-items}
use Rattle.merge_log.proofs.Laws.Places.{place-within}

-- ---- none, one, one more

remove_run-one : {A : Type 0} (l : List A) (i : ℕ) → remove_run l i 1 ≡ remove_at l i
remove_run-one l i = sym (remove_run-more l i 0) ∙ ap (λ (r : List _). remove_at r i) (remove_run-none l (suc i))

-- nothing leaves
pub remove-none : (m : Model) (p : Element) (i : ℕ) → remove_items m p i 0 ≡ m
unfolding remove_items
remove-none m p i = ap (put_list m p) (remove_run-none (list_of m p) i) ∙ put_list-same m p

pub none-leave : (m : Model) (r : Run) → r.k ≡ 0 → without_run r m ≡ m
none-leave m r z = rw z (remove-none m r.p.0 r.i)

-- what stands at its first place leaves
taken : (m : Model) (e p : Element) (i : ℕ) → first_place_of e (list_of m p) ≡ some i → remove_items m p i 1 ≡ take_out e p m
unfolding take_out remove_items remove_item
taken m e p i f = ap (put_list m p) (remove_run-one (list_of m p) i) ∙ sym (rw (take_out, f))

-- e stands right before what leaves, and leaves with it
one_more : (m : Model) (e p i k : ℕ) → p < length m.lists → 0 < i → i + k ≤ length (list_of m p) → is_child e (get_or (list_of m p) (i - 1) (child 0)) ≡ true
    → model_once m ≡ true → remove_items m p (i - 1) (k + 1) ≡ take_out e p (remove_items m p i k)
unfolding take_out remove_items remove_item
one_more m e p i k h low fits is once =
    let l = list_of m p in
    let d = remove_run l i k in
    let z : suc (i - 1) ≡ i = omega arith in
    let same : list_of (put_list m p d) p ≡ d = list-put_list m p d h in
    let first : first_place_of e (list_of (put_list m p d) p) ≡ some (i - 1) =
    rw same
    (once-first e d (i - 1) (once-remove l i k (once-list m p once)) (omega (arith, length-remove_run l i k fits))
    (rw (get_d-remove_run l i k (i - 1) (child 0) (omega arith)) is))
    in
    let shorter : remove_at d (i - 1) ≡ remove_run l (i - 1) (k + 1) =
    ap (λ (n : ℕ). remove_at (remove_run l n k) (i - 1)) (sym z) ∙ remove_run-more l (i - 1) k ∙ ap (remove_run l (i - 1)) (sym (add-one k))
    in
    ap (put_list m p) (sym shorter)
    ∙ sym (put_list-put_list m p d (remove_at d (i - 1)))
    ∙ ap (λ (r : List Item). put_list (put_list m p d) p (remove_at r (i - 1))) (sym same)
    ∙ sym (rw (take_out, first))

-- ---- on the table

module _ (xs : List ℕ) (r : Run) where
  pub run-keeps : (ys : List ℕ) → GoodModel xs → (r.k ≡ 0 → ⊥) → RunIn (model_of xs) r → HoldsModel ys (without_run r (model_of xs)) → KeepsModel xs ys
  run-keeps ys g z w h n texts f = fits-remove f r.p.0 r.i r.k (listed_below xs g r.p.0 r.i (omega arith)) w h

  -- a table has room for them
  pub run_small : GoodModel xs → RunIn (model_of xs) r → r.k ≤ item_limit
  run_small g w = by r.k (omega arith)
    where
      by : (k : ℕ) → k ≤ length (list_of (model_of xs) r.p.0) → k ≤ item_limit
      by zero h = zero-le
      by (suc k) h = omega (arith, start-room xs g r.p.0 (listed_below xs g r.p.0 k h), g.sized.total)

  module _ (o : Bool) (once : OnceIf o (model_of xs)) where
    pub leads-more : (e p : Element) (q : Run) → q.p.0 ≡ p → GoodModel xs → RunIn (model_of xs) r → o ≡ true → StandsBefore (model_of xs) r p e → q.i ≡ r.i - 1
        → q.k ≡ r.k + 1 → Leads (take_out e p) o r q xs xs
    leads-more e p q at g w t s i k =
        let low = s.some in
        let fits : r.i + r.k ≤ length (list_of (model_of xs) p) = rw s.same at w in
        let below = listed_below xs g p (r.i - 1) (omega arith) in
        record {
          good = g;
          within = rw (at, i, k) (omega arith);
          once = once;
          is = rw (at, i, k, s.same) (one_more (model_of xs) e p r.i r.k (omega (arith, g.sized.lists)) low fits s.is (once t));
          keeps = λ n texts f. f;
        }

    module _ (ys : List ℕ) (h : HoldsModel ys (without_run r (model_of xs))) where
      pub once-left : OnceIf o (model_of ys)
      once-left t = rw h.is (once-items (model_of xs) r.p.0 r.i r.k (once t))

      module _ (e p : Element) (q : Run) (at : q.p.0 ≡ p) (keeps : KeepsModel xs ys) (found : program_option.Option ℕ) (f : FirstPlace e (list_of (model_of ys) p) found) where
        pub leads_one : (n : ℕ) → found ≡ Some n → q.i ≡ n → q.k ≡ 1 → Leads (take_out e p) o r q xs ys
        leads_one n m i k =
            let low = place-within e (list_of (model_of ys) p) n found f m in
            let first : first_place_of e (list_of (model_of ys) p) ≡ some n = sym (rw m at f.is) in
            record {
              good = h.good;
              within = rw (at, i, k) (omega arith);
              once = once-left;
              is = rw (at, i, k) (taken (model_of ys) e p n first ∙ ap (take_out e p) h.is);
              keeps = keeps;
            }

        pub leads-none : found ≡ None → q.i ≡ 0 → q.k ≡ 0 → Leads (take_out e p) o r q xs ys
        unfolding take_out
        leads-none m i k =
            let first : first_place_of e (list_of (model_of ys) p) ≡ none = sym (rw m at f.is) in
            record {
              good = h.good;
              within = rw (i, k) (omega arith);
              once = once-left;
              is = none-leave (model_of ys) q k ∙ sym (rw (take_out, first)) ∙ ap (take_out e p) h.is;
              keeps = keeps;
            }
