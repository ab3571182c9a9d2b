-- An element put at a place that is made for it: an import into the list without the places that are still to be filled. Assumes nothing.
use mathlib.Core.List.{List, ◌∷◌}
use mathlib.Core.Option.{Option, none, some}
use mathlib.Core.Path.{◌≡◌, refl, sym, ap, ◌∙◌}
use Prim.Native.Nat.{ℕ, suc, ◌+◌, ◌-◌, ◌*◌, ◌%◌, ◌^◌, ◌≤◌, ◌<◌}
use native.Mathlib.Numerals.{add-one}
use native.Mathlib.Omega.{arith}
use borrow.Author.Tests.{lt-ltb, le-ltb}
use lib.ListN.{length, get_or}
use Rattle.tables.specs.FileSets.{with_file}
use Rattle.tables.specs.ElementsTable.{elements_of}
use Rattle.tables.specs.Limits.{log_limit, item_limit, version_limit}
use Rattle.tables.specs.Lists.{remove_run}
use Rattle.tables.specs.SchemaTable.{schema_of}
use Rattle.tables.specs.declared.numbers.Name.{Name}
use Rattle.tables.specs.LogTable.{log_of, HoldsLog}
use Rattle.tables.specs.ModelTable.{count_of, model_of, ParentBelow, GoodModel, HoldsModel}
use Rattle.tables.specs.Records.{Element, FileNumber, FileSet, Version, SubElement, child, Model, import, State, parent_of, set_of, list_of, put_parent, put_set, put_item, put_list, insert_item, insert_items, remove_items, content_items}
use Rattle.tables.proofs.Laws.Lists.{length-remove_run}
use Rattle.tables.proofs.Laws.Model.{count-put_parent, total-remove, list-put_list, count-put_item, length-list-put_item, remove-put_item, count-insert_items, length-list-insert_items, remove-insert_items}
use Rattle.table_test.specs.Fits.{KeepsState}
use Rattle.table_test.proofs.Laws.Fits.{fits-set, fits-parent, fits-insert_items, fits-put-item, fits-push}
use Rattle.state_test.specs.StateTest.{fixed_in, state_in}
use Rattle.merge_rules.specs.Import.{adopt, import_at, clamp, import_single_item}
use Rattle.merge_rules.specs.Log.{change}
use Rattle.merge_rules.specs.Refusals.{done, refused, log_full, content_full, ◌>>=◌}
use Rattle.imports.specs.Imports.{Enters, state_without, ImportsInto}
use Rattle.insert_range.specs.Range.{AnyPlace}
use Rattle.merge_log.specs.Runs.{RunIn}
use Rattle.merge_log.specs.declared.log.Run.{Run}
use Rattle.std.specs.Prelude.{Ok, Err}
use Rattle.insert_range.specs.declared.range.Unplaced.TheVariants.{NoRow}
use Rattle.merge_log.specs.declared.refusals.Refusal.TheVariants.{NotInVersion, LogFull}
use Rattle.merge_log.specs.declared.refusals.Halt.TheVariants.{Refused}
use Rattle.deck.specs.Schema.{find_sub_element}
use Rattle.imports.proofs.Laws.Imports.{single-places, single-no-row}
use Rattle.insert_range.proofs.Laws.Range.{calc-none, calc-any}
use Rattle.merge_log.proofs.Laws.Runs.{remove-none}

-- ---- the stores

module _ (m l : List ℕ) (f : FileNumber) (p e : Element) (at : ℕ) (m₁ : List ℕ) (h₁ : HoldsModel m₁ (put_item (model_of m) p at (child e))) where
  -- what they ask
  pub parent-asks : p < count_of (model_of m) → e < count_of (model_of m) → GoodModel m₁ × (e < count_of (model_of m₁)) × (p < count_of (model_of m₁))
  parent-asks low_p low_e =
      let z : count_of (model_of m₁) ≡ count_of (model_of m) = ap count_of h₁.is ∙ count-put_item (model_of m) p at (child e) in
      (h₁.good, omega arith, omega arith)

  module _ (m₂ : List ℕ) (h₂ : HoldsModel m₂ (put_parent (model_of m₁) e (some p))) where
    pub set-asks : e < count_of (model_of m) → GoodModel m₂ × (e < count_of (model_of m₂))
    set-asks low = (h₂.good, rw (h₂.is, count-put_parent (model_of m₁) e (some p), h₁.is, count-put_item (model_of m) p at (child e)) low)

    module _ (m₃ l' : List ℕ) (s old : FileSet) (parent : Option Element) (h₃ : HoldsModel m₃ (put_set (model_of m₂) e s))
        (hl : HoldsLog l' (import e p parent old ∷ log_of l)) where
      pub enters : parent ≡ parent_of (model_of m) e → old ≡ set_of (model_of m) e → s ≡ with_file (set_of (model_of m) e) f → p < count_of (model_of m) → e < count_of (model_of m)
          → at < length (list_of (model_of m) p) → ParentBelow (count_of (model_of m)) parent → Enters f p e at m l m₃ l'
      enters ip io is low_p low_e w below =
          record {
            model = record { good = h₃.good; is = rw (h₂.is, h₁.is, is) at h₃.is };
            log = record { good = hl.good; is = rw (ip, io) at hl.is };
            keeps =
                λ n texts q.
                let z = q.model_fits.same in
                record {
                  model_fits = fits-set (fits-parent (fits-put-item q.model_fits p at (child e) w tt h₁) e (some p) h₂) e s h₃;
                  log_fits = fits-push q.log_fits (import e p parent old) (rw z at low_e, rw z at low_p, rw z at below) hl;
                };
          }

-- ---- 9, 10, or the import

module _ (f : FileNumber) (p e : Element) (at : ℕ) (s : State) where
  pub import-log-full : log_limit ≤ length s.log → refused log_full ≡ import_at f p e at s
  unfolding import_at change ◌>>=◌
  import-log-full h = sym (rw (import_at, change, le-ltb _ _ h))

  pub import-content-full : length s.log < log_limit → item_limit ≤ content_items s.model → refused content_full ≡ import_at f p e at s
  unfolding import_at change ◌>>=◌
  import-content-full h k = sym (rw (import_at, change, lt-ltb _ _ h, le-ltb _ _ k))

module _ (f : FileNumber) (p e : Element) (at : ℕ) (m l m' l' : List ℕ) (h : Enters f p e at m l m' l') where
  pub enters-long : p < length (model_of m).lists → length (list_of (model_of m') p) ≡ length (list_of (model_of m) p)
  unfolding put_parent put_set
  enters-long low = rw h.model.is (length-list-put_item (model_of m) p at (child e) low)

  adopts : (k : ℕ) → p < length (model_of m).lists → at + k < length (list_of (model_of m) p)
      → remove_items (model_of m') p (suc at) k ≡ adopt f p e at (remove_items (model_of m) p at (suc k))
  unfolding adopt insert_item remove_items put_item put_list put_parent put_set
  adopts k low w =
      ap (λ (q : Model). remove_items q p (suc at) k) h.model.is
      ∙ ap (λ (q : Model). put_set (put_parent q e (some p)) e (with_file (set_of (model_of m) e) f)) (remove-put_item (model_of m) p at (child e) k low (omega arith))

  -- one of k + 1 places takes the element
  pub import-entered : (k : ℕ) → p < length (model_of m).lists → at + k < length (list_of (model_of m) p) → length (log_of l) < log_limit
      → content_items (model_of m) ≤ item_limit → done (state_without p (suc at) k m' l') ≡ import_at f p e at (state_without p at (suc k) m l)
  unfolding import_at change ◌>>=◌ remove_items put_list
  import-entered k low w room few =
      let less : content_items (remove_items (model_of m) p at (suc k)) < item_limit = omega (arith, total-remove (model_of m) p at (suc k) low (omega arith)) in
      rw (adopts k low w, h.log.is) (sym (rw (import_at, change, lt-ltb _ _ room, lt-ltb _ _ less)))

-- a place made for it alone
module _ (f : FileNumber) (p e : Element) (at : ℕ) (m l m₁ : List ℕ) (h₁ : HoldsModel m₁ (insert_items (model_of m) p at 1 (child e))) (good : GoodModel m)
    (low : p < count_of (model_of m)) (w : at ≤ length (list_of (model_of m) p)) where
  listed : p < length (model_of m).lists
  listed = omega (arith, good.sized.lists)

  pub inserted-count : count_of (model_of m₁) ≡ count_of (model_of m)
  inserted-count = ap count_of h₁.is ∙ count-insert_items (model_of m) p at 1 (child e)

  pub inserted-place : at < length (list_of (model_of m₁) p)
  inserted-place = rw (h₁.is, length-list-insert_items (model_of m) p at 1 (child e) listed) (omega arith)

  module _ (m' l' : List ℕ) (h : Enters f p e at m₁ l m' l') where
    pub import-inserted : length (log_of l) < log_limit → done (state_in m' l') ≡ import_at f p e at (state_in m l)
    import-inserted room =
        let a : remove_items (model_of m') p (suc at) 0 ≡ model_of m' = remove-none (model_of m') p (suc at) in
        let b : remove_items (model_of m₁) p at 1 ≡ model_of m =
        ap (λ (q : Model). remove_items q p at 1) h₁.is ∙ remove-insert_items (model_of m) p at 1 (child e) listed w
        in
        let low₁ : p < length (model_of m₁).lists = omega (arith, h₁.good.sized.lists, inserted-count) in
        rw (a, b) at (import-entered f p e at m₁ l m' l' h 0 low₁ (omega (arith, inserted-place)) room h₁.good.sized.total)

    pub keeps-inserted : KeepsState m l m' l'
    keeps-inserted n texts q =
        h.keeps n texts (record { model_fits = fits-insert_items q.model_fits p at 1 (child e) low w tt h₁; log_fits = q.log_fits })

-- ---- the run's first place

module _ (schema elements : List ℕ) (f : FileNumber) (v : Version) (r : Run) (e t : ℕ) (n : Name) (m l : List ℕ) (low : v < version_limit)
    (hn : n.0 ≡ get_or (elements_of elements).names e 0) (ht : t ≡ get_or (elements_of elements).types r.p.0 0) where
  -- 7
  pub into-no-row : find_sub_element (schema_of schema) t n.0 (1 * 2 ^ v % 2 ^ 64) ≡ none → ImportsInto schema elements f v r e (Err (Refused (NotInVersion r.p n))) m l m l
  into-no-row h =
      record {
        is =
            λ deck wanted c.
            let s = state_without r.p.0 r.i r.k m l in
            rw hn
            (single-no-row (fixed_in deck schema elements) s f v r.p.0 e wanted (Err NoRow)
            (calc-none (fixed_in deck schema elements) s.model r.p.0 (get_or (elements_of elements).names e 0) v low ht (rw hn at h)) refl);
        stateless = λ s t d. refl;
        long = refl;
        keeps = λ k texts q. q;
      }

  module _ {new : SubElement} (found : find_sub_element (schema_of schema) t n.0 (1 * 2 ^ v % 2 ^ 64) ≡ some new) (any : AnyPlace schema elements r.p.0)
      (good : GoodModel m) (below : r.p.0 < count_of (model_of m)) (w : RunIn (model_of m) r) where
    -- the place of the run is the place of the element
    here : (deck : List ℕ) (wanted : ℕ) → clamp wanted 0 (length (list_of (model_of m) r.p.0) - r.k) ≡ r.i
        → import_at f r.p.0 e r.i (state_without r.p.0 r.i r.k m l)
        ≡ import_single_item (fixed_in deck schema elements) f v r.p.0 e wanted (state_without r.p.0 r.i r.k m l)
    unfolding remove_items
    here deck wanted c =
        let s = state_without r.p.0 r.i r.k m l in
        let o = list_of (model_of m) r.p.0 in
        let listed : r.p.0 < length (model_of m).lists = omega (arith, good.sized.lists) in
        let z : length (list_of s.model r.p.0) ≡ length o - r.k =
        ap length (list-put_list (model_of m) r.p.0 (remove_run o r.i r.k) listed) ∙ omega (arith, length-remove_run o r.i r.k w)
        in
        single-places (fixed_in deck schema elements) s f v r.p.0 e wanted (Ok (record { first = 0; last = length (list_of s.model r.p.0) }))
        (calc-any (fixed_in deck schema elements) s.model r.p.0 (get_or (elements_of elements).names e 0) v low ht (rw hn at found) (rw ht any))
        _ r.i refl (sym (rw z c))

    -- 9
    pub into-log-full : log_limit ≤ length (log_of l) → ImportsInto schema elements f v r e (Err (Refused LogFull)) m l m l
    into-log-full h =
        record {
          is = λ deck wanted c. import-log-full f r.p.0 e r.i (state_without r.p.0 r.i r.k m l) h ∙ here deck wanted c;
          stateless = λ s t d. refl;
          long = refl;
          keeps = λ k texts q. q;
        }

    pub into-done : (m' l' : List ℕ) → 0 < r.k → length (log_of l) < log_limit → Enters f r.p.0 e r.i m l m' l' → ImportsInto schema elements f v r e (Ok tt) m l m' l'
    into-done m' l' left room h =
        let listed : r.p.0 < length (model_of m).lists = omega (arith, good.sized.lists) in
        let z : suc (r.k - 1) ≡ r.k = omega arith in
        let d = import-entered f r.p.0 e r.i m l m' l' h (r.k - 1) listed (omega arith) room good.sized.total in
        record {
          is = λ deck wanted c. rw (add-one r.i) ((rw z at d) ∙ here deck wanted c);
          stateless = λ s t d. absurd (d refl);
          long = enters-long f r.p.0 e r.i m l m' l' h listed;
          keeps = h.keeps;
        }
