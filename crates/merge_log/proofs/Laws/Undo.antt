-- Undoing on the lent tables: one entry, and the newest first down to a mark. Assumes nothing.
use mathlib.Core.Bool.{Bool}
use mathlib.Core.List.{List, [], ◌∷◌}
use mathlib.Core.Option.{Option}
use mathlib.Core.Path.{◌≡◌, refl, ap, ◌∙◌}
use Prim.Native.Nat.{ℕ, suc, ◌-◌, ◌≤◌, ◌<◌}
use native.Mathlib.Omega.{arith}
use borrow.Author.Tests.{le-leb, lt-leb}
use lib.ListN.{length, drop, length-drop}
use Rattle.tables.specs.Cells.{Each}
use Rattle.tables.specs.FileSets.{without_file}
use Rattle.tables.specs.Limits.{item_limit}
use Rattle.tables.specs.LogTable.{log_of, GoodLog, HoldsLog, entry_at}
use Rattle.tables.specs.ModelTable.{count_of, model_of, ParentBelow, GoodModel, HoldsModel}
use Rattle.tables.specs.Records.{Element, FileNumber, FileSet, Model, Entry, import, restriction, extension, Log, set_of, put_parent, put_set, put_list, remove_items}
use Rattle.tables.proofs.Laws.Model.{count-put_parent}
use Rattle.table_test.specs.LogTest.{EntryIn}
use Rattle.table_test.specs.ModelTest.{model_once}
use Rattle.state_test.specs.StateTest.{state_in}
use Rattle.merge_rules.specs.Log.{take_out, undo, undo_to, rollback_merge}
use Rattle.table_test.specs.Fits.{LogFits, KeepsModel, KeepsState}
use Rattle.table_test.proofs.Laws.Fits.{good-fits, keeps-count, fits-set, fits-parent, fits-pop}
use Rattle.merge_log.specs.Runs.{without_run, RunIn, OnceIf, Leads}
use Rattle.merge_log.specs.declared.log.Run.{Run}
use Rattle.merge_log.proofs.Laws.Runs.{none-leave}

-- what the stores of an import's undoing ask
module _ (m : List ℕ) where
  pub undo-parent-asks : (m₁ : List ℕ) (e : Element) (parent : Option Element) → GoodModel m → KeepsModel m m₁ → GoodModel m₁
      → e < count_of (model_of m) → ParentBelow (count_of (model_of m)) parent
      → GoodModel m₁ × (e < count_of (model_of m₁)) × ParentBelow (count_of (model_of m₁)) parent
  undo-parent-asks m₁ e parent g k h low below =
      let z = keeps-count m m₁ g k in
      (h, rw z low, rw z below)

  pub undo-set-asks : (m₁ m₂ : List ℕ) (e : Element) (parent : Option Element) → GoodModel m → KeepsModel m m₁ → HoldsModel m₂ (put_parent (model_of m₁) e parent)
      → e < count_of (model_of m) → GoodModel m₂ × (e < count_of (model_of m₂))
  undo-set-asks m₁ m₂ e parent g k h low = (h.good, rw (h.is, count-put_parent (model_of m₁) e parent, keeps-count m m₁ g k) low)

module _ (m : List ℕ) (o : Bool) (r : Run) where
  pub undo-import : (m₁ m₂ m₃ : List ℕ) (q : Run) (e p : Element) (parent : Option Element) (set : FileSet) → Leads (take_out e p) o r q m m₁
      → HoldsModel m₂ (put_parent (model_of m₁) e parent) → HoldsModel m₃ (put_set (model_of m₂) e set)
      → Leads (undo (import e p parent set)) o r q m m₃
  unfolding undo model_once put_set put_parent remove_items put_list
  undo-import m₁ m₂ m₃ q e p parent set t h₂ h₃ =
      record {
        good = h₃.good;
        within = rw (h₃.is, h₂.is) t.within;
        once = λ x. rw (h₃.is, h₂.is) (t.once x);
        is = rw (h₃.is, h₂.is) (ap (λ (k : Model). put_set (put_parent k e parent) e set) t.is);
        keeps = λ n texts f. fits-set (fits-parent (t.keeps n texts f) e parent h₂) e set h₃;
      }

  module _ (within : RunIn (model_of m) r) (once : OnceIf o (model_of m)) (m₁ : List ℕ) (e : Element) (set : FileSet)
      (h : HoldsModel m₁ (put_set (model_of m) e set)) where
    undo-set : (a : Entry) → put_set (without_run r (model_of m)) e set ≡ undo a (without_run r (model_of m)) → Leads (undo a) o r r m m₁
    unfolding model_once put_set remove_items put_list
    undo-set a u =
        record {
          good = h.good;
          within = rw h.is within;
          once = λ x. rw h.is (once x);
          is = rw h.is u;
          keeps = λ n texts f. fits-set f e set h;
        }

    pub undo-restriction : Leads (undo (restriction e set)) o r r m m₁
    unfolding undo
    undo-restriction = undo-set (restriction e set) refl

    pub undo-extension : (f : FileNumber) (old : FileSet) → old ≡ set_of (model_of m) e → set ≡ without_file old f → Leads (undo (extension e f)) o r r m m₁
    unfolding undo remove_items put_list
    undo-extension f old was s = undo-set (extension e f) (rw (s, was))

-- ---- down to a mark

undo-turn : (mark : ℕ) (l : Log) (m : Model) (a : Entry) (n : ℕ) → n < length l → length l ≡ suc n → mark ≤ n → a ≡ entry_at l n
    → undo_to mark (drop 1 l) (undo a m) ≡ undo_to mark l m
unfolding undo_to
undo-turn mark [] m a n h z k e = absurd (omega arith)
undo-turn mark (b ∷ l) m a n h z k e =
    let same : a ≡ b = e ∙ (let i : length (b ∷ l) - suc n ≡ 0 = omega arith in rw i) in
    rw (same, undo_to, le-leb mark (length l) (omega arith))

undo-end : (mark : ℕ) (l : Log) (m : Model) → length l ≤ mark → record { model = m; log = l } ≡ undo_to mark l m
unfolding undo_to
undo-end mark [] m h = refl
undo-end mark (b ∷ l) m h = rw (undo_to, lt-leb mark (length l) (omega arith))

-- what is left to undo leads to what the whole leads to
pub record RollingBack (mark : ℕ) (o : Bool) (m₀ l₀ m l : List ℕ) (r : Run) (n : ℕ) : Type 0 where
  pub model_good : GoodModel m
  pub log_good : GoodLog l
  pub count : n ≡ length (log_of l)
  pub entries : Each (EntryIn (count_of (model_of m))) (log_of l)
  pub keeps : KeepsState m₀ l₀ m l
  pub within : RunIn (model_of m) r
  pub once : OnceIf o (model_of m)
  pub left : undo_to mark (log_of l) (without_run r (model_of m)) ≡ undo_to mark (log_of l₀) (model_of m₀)

module _ (mark : ℕ) (o : Bool) (m₀ l₀ : List ℕ) where
  pub rolling-start : (r : Run) (n : ℕ) → GoodModel m₀ → GoodLog l₀ → Each (EntryIn (count_of (model_of m₀))) (log_of l₀) → n ≡ length (log_of l₀)
      → OnceIf o (model_of m₀) → r.i ≡ 0 → r.k ≡ 0 → RollingBack mark o m₀ l₀ m₀ l₀ r n
  rolling-start r n gm gl entries count once i k =
      record {
        model_good = gm;
        log_good = gl;
        count = count;
        entries = entries;
        keeps = λ n texts f. f;
        within = rw (i, k) (omega arith);
        once = once;
        left = ap (undo_to mark (log_of l₀)) (none-leave (model_of m₀) r k);
      }

  pub rolling-turn : (m l m' l' : List ℕ) (r q : Run) (n k : ℕ) (a : Entry) → RollingBack mark o m₀ l₀ m l r n → mark < n → k ≡ n - 1 → a ≡ entry_at (log_of l) k
      → HoldsLog l' (drop 1 (log_of l)) → Leads (undo a) o r q m m' → RollingBack mark o m₀ l₀ m' l' q k
  rolling-turn m l m' l' r q n k a b h z e hl hm =
      let c = count_of (model_of m) in
      let f = hm.keeps c item_limit (good-fits m b.model_good) in
      let g : LogFits c l = record { good = b.log_good; entries = b.entries } in
      record {
        model_good = hm.good;
        log_good = hl.good;
        count = rw (hl.is, length-drop) (omega (arith, b.count));
        entries = rw f.same (fits-pop g hl).entries;
        keeps = λ n texts s.
            let t = b.keeps n texts s in
            record { model_fits = hm.keeps n texts t.model_fits; log_fits = fits-pop t.log_fits hl };
        within = hm.within;
        once = hm.once;
        left = rw (hl.is, hm.is)
            (undo-turn mark (log_of l) (without_run r (model_of m)) a k (omega (arith, b.count)) (omega (arith, b.count)) (omega arith) e ∙ b.left);
      }

  module _ (m m' l : List ℕ) (r : Run) (n : ℕ) (b : RollingBack mark o m₀ l₀ m l r n) where
    pub rolling-end : n ≤ mark → HoldsModel m' (without_run r (model_of m)) → state_in m' l ≡ rollback_merge mark (state_in m₀ l₀)
    unfolding rollback_merge
    rolling-end h hm = rw hm.is (undo-end mark (log_of l) (without_run r (model_of m)) (omega (arith, b.count)) ∙ b.left)

    pub rolling-keeps : KeepsModel m m' → KeepsState m₀ l₀ m' l
    rolling-keeps k n texts s =
        let t = b.keeps n texts s in
        record { model_fits = k n texts t.model_fits; log_fits = t.log_fits }
