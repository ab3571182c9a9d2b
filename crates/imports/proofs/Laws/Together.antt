-- Rows of the B-only list that are put in together. Assumes nothing.
use mathlib.Core.List.{List}
use mathlib.Core.Path.{◌≡◌, refl, sym, ap, ◌∙◌}
use Prim.Native.Nat.{ℕ, suc, ◌+◌, ◌-◌, ◌≤◌, ◌<◌, zero-le}
use native.Mathlib.Omega.{arith}
use lib.ListN.{length}
use Rattle.tables.specs.ElementsTable.{elements_of}
use Rattle.tables.specs.LogTable.{log_of}
use Rattle.tables.specs.ModelTable.{count_of, model_of, GoodModel, HoldsModel}
use Rattle.tables.specs.Records.{Element, child, Model, list_of, insert_items, remove_items}
use Rattle.tables.proofs.Laws.Model.{length-list-insert_items, remove-insert_items}
use Rattle.table_test.specs.Fits.{ModelOver, LogFits, KeepsState}
use Rattle.table_test.proofs.Laws.Fits.{fits-insert_items}
use Rattle.state_test.specs.StateTest.{fixed_in, state_in}
use Rattle.merge_rules.specs.Import.{clamp, import_new_items}
use Rattle.merge_rules.specs.Refusals.{Outcome, done, ◌>>=◌}
use Rattle.pairing.specs.Plans.{spread, import_in, row_element, row_value}
use Rattle.merge_log.specs.Answers.{outcome_is}
use Rattle.imports.specs.Imports.{state_without, ImportsInto, row_place, FollowOn}
use Rattle.merge_log.specs.Runs.{RunIn}
use Rattle.merge_log.specs.declared.log.Run.{Run}
use Rattle.std.specs.Prelude.{Result, Ok}
use Rattle.merge_log.specs.declared.refusals.Halt.{Halt}
use Rattle.imports.proofs.Laws.Imports.{then-done, then-stop}
use Rattle.merge_log.proofs.Laws.Runs.{remove-none}

-- ---- a run of places, filled one by one

module _ (schema elements w : List ℕ) (na i f v : ℕ) (r : Run) (m₁ l₁ : List ℕ) where
  -- what the rows do to the list without the run
  abbrev pub whole_run : List ℕ → Outcome
  whole_run deck =
      import_new_items (fixed_in deck schema elements) f v r.p.0 i (spread (import_in w) (na + i) r.k) (state_without r.p.0 r.i r.k m₁ l₁)

  -- j places are filled: the rows that are left do to the list without the other places what is left of the whole
  pub record RunLeft (m l : List ℕ) (j : ℕ) : Type 0 where
    pub within : j ≤ r.k
    pub model_fits : ModelOver elements m
    pub log_fits : LogFits (length (elements_of elements).names) l
    pub keeps : KeepsState m₁ l₁ m l
    pub long : length (list_of (model_of m) r.p.0) ≡ length (list_of (model_of m₁) r.p.0)
    pub left : (deck : List ℕ)
        → import_new_items (fixed_in deck schema elements) f v r.p.0 (i + j) (spread (import_in w) (na + i + j) (r.k - j)) (state_without r.p.0 (r.i + j) (r.k - j) m l)
        ≡ whole_run deck

  pub run-start : ModelOver elements m₁ → LogFits (length (elements_of elements).names) l₁ → RunLeft m₁ l₁ 0
  run-start fm fl =
      let a : i + 0 ≡ i = omega arith in
      let b : na + i + 0 ≡ na + i = omega arith in
      let c : r.i + 0 ≡ r.i = omega arith in
      let z : r.k - 0 ≡ r.k = omega arith in
      record { within = zero-le; model_fits = fm; log_fits = fl; keeps = λ n texts q. q; long = refl; left = λ deck. rw (a, b, c, z) }

  module _ (m l : List ℕ) (j : ℕ) (k : RunLeft m l j) where
    pub run_end : r.k ≤ j → (deck : List ℕ) → done (state_in m l) ≡ whole_run deck
    unfolding import_new_items spread
    run_end h deck =
        let z : r.k - j ≡ 0 = omega arith in
        let a : state_without r.p.0 (r.i + j) 0 m l ≡ state_in m l =
        ap (λ (q : Model). record { model = q; log = log_of l }) (remove-none (model_of m) r.p.0 (r.i + j))
        in
        ap done (sym a) ∙ (rw z at (k.left deck))

    -- the places that are left stand in the list
    pub run_in : RunIn (model_of m₁) r → (q : Run) → q.p.0 ≡ r.p.0 → q.i ≡ r.i + j → q.k ≡ r.k - j → RunIn (model_of m) q
    run_in b q p at n = rw (p, at, n) (omega (arith, k.long, k.within))

    module _ (h : j < r.k) (b : RunIn (model_of m₁) r) (follow : FollowOn w na i r.k (length (list_of (model_of m₁) r.p.0) - r.k) r.i) (q : Run) (p : q.p ≡ r.p) (at : q.i ≡ r.i + j)
        (n : q.k ≡ r.k - j) (e : Element) (row : e ≡ row_element w (na + i + j)) (o : Result (Unit {0}) Halt) (m' l' : List ℕ)
        (is : ImportsInto schema elements f v q e o m l m' l') where
      here : (deck : List ℕ)
          → (outcome_is o (state_without r.p.0 (r.i + (j + 1)) (r.k - (j + 1)) m' l')
          >>= import_new_items (fixed_in deck schema elements) f v r.p.0 (i + (j + 1)) (spread (import_in w) (na + i + (j + 1)) (r.k - (j + 1))))
          ≡ whole_run deck
      unfolding import_new_items spread
      here deck =
          let rest = r.k - (j + 1) in
          let wanted = row_value w (na + i + j) + (i + j) in
          let z : r.k - j ≡ suc rest = omega arith in
          let list : length (list_of (model_of m) r.p.0) - suc rest ≡ length (list_of (model_of m₁) r.p.0) - r.k + j = omega (arith, k.long) in
          let assoc : na + (i + j) ≡ na + i + j = omega arith in
          let place : clamp wanted 0 (length (list_of (model_of m) r.p.0) - suc rest) ≡ r.i + j = rw list (rw assoc at (follow j h)) in
          let left : q.k ≡ suc rest = n ∙ z in
          let next : q.i + 1 ≡ r.i + (j + 1) = omega (arith, at) in
          let fewer : q.k - 1 ≡ rest = omega (arith, n) in
          let single = rw (next, fewer, p, at, left, row) at (is.is deck wanted (rw (p, at, left) place)) in
          let more : i + (j + 1) ≡ suc (i + j) = omega arith in
          let below : na + i + (j + 1) ≡ suc (na + i + j) = omega arith in
          rw (more, below)
          (ap (λ (t : Outcome). t >>= import_new_items (fixed_in deck schema elements) f v r.p.0 (suc (i + j)) (spread (import_in w) (suc (na + i + j)) rest)) single)
          ∙ (rw z at (k.left deck))

      pub run-stop : (o ≡ Ok tt → ⊥) → (deck : List ℕ) → outcome_is o (state_in m' l') ≡ whole_run deck
      run-stop t deck = is.stateless (state_in m' l') _ t ∙ then-stop (state_without r.p.0 (r.i + (j + 1)) (r.k - (j + 1)) m' l') _ o refl t ∙ here deck

      pub run_more : o ≡ Ok tt → RunLeft m' l' (j + 1)
      run_more d =
          let s = is.keeps _ _ (record { model_fits = k.model_fits; log_fits = k.log_fits }) in
          record {
            within = omega arith;
            model_fits = s.model_fits;
            log_fits = s.log_fits;
            keeps = λ a texts u. is.keeps a texts (k.keeps a texts u);
            long = (rw p at is.long) ∙ k.long;
            left = λ deck. let u = then-done (state_without r.p.0 (r.i + (j + 1)) (r.k - (j + 1)) m' l') _ o refl d in sym u ∙ here deck;
          }

-- the places made for a run
module _ (r : Run) (m l m₁ : List ℕ) (h : HoldsModel m₁ (insert_items (model_of m) r.p.0 r.i r.k (child r.p.0))) (good : GoodModel m)
    (low : r.p.0 < count_of (model_of m)) (w : r.i ≤ length (list_of (model_of m) r.p.0)) where
  listed : r.p.0 < length (model_of m).lists
  listed = omega (arith, good.sized.lists)

  pub made-long : length (list_of (model_of m₁) r.p.0) ≡ length (list_of (model_of m) r.p.0) + r.k
  made-long = rw h.is (length-list-insert_items (model_of m) r.p.0 r.i r.k (child r.p.0) listed)

  pub made_in : RunIn (model_of m₁) r
  made_in = omega (arith, made-long)

  pub made-follow : (ws : List ℕ) (na i : ℕ) → FollowOn ws na i r.k (length (list_of (model_of m) r.p.0)) r.i
      → FollowOn ws na i r.k (length (list_of (model_of m₁) r.p.0) - r.k) r.i
  made-follow ws na i f = let z : length (list_of (model_of m₁) r.p.0) - r.k ≡ length (list_of (model_of m) r.p.0) = omega (arith, made-long) in rw z f

  -- without them, the list as it was
  pub made-state : state_without r.p.0 r.i r.k m₁ l ≡ state_in m l
  made-state =
      ap (λ (q : Model). record { model = q; log = log_of l })
      (ap (λ (q : Model). remove_items q r.p.0 r.i r.k) h.is ∙ remove-insert_items (model_of m) r.p.0 r.i r.k (child r.p.0) listed w)

  pub made-keeps : KeepsState m l m₁ l
  made-keeps n texts q = record { model_fits = fits-insert_items q.model_fits r.p.0 r.i r.k (child r.p.0) low w tt h; log_fits = q.log_fits }

-- ---- how many rows

-- the place of a row is one of the list
pub row_within : (w : List ℕ) (na i n : ℕ) → row_place w na i n ≤ n
unfolding clamp
row_within w na i n = omega arith
