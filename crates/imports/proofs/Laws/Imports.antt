-- The range decides on the import of one element; the B-only list, some rows at a time. Assumes nothing.
use mathlib.Core.List.{List, [], ◌∷◌, ◌++◌}
use mathlib.Core.Path.{◌≡◌, refl, sym, ap, ◌∙◌}
use Prim.Native.Nat.{ℕ, suc, ◌+◌, ◌-◌, ◌≤◌}
use native.Mathlib.Omega.{arith}
use lib.ListN.{length}
use Rattle.tables.specs.ElementsTable.{elements_of}
use Rattle.tables.specs.Records.{Element, FileNumber, Version, State, Fixed, name_of}
use Rattle.table_test.specs.Fits.{ModelOver, LogFits, KeepsState}
use Rattle.state_test.specs.StateTest.{fixed_in, state_in}
use Rattle.merge_rules.specs.Import.{import_at, clamp, import_single_item, import_new_items}
use Rattle.merge_rules.specs.Pairing.{NewItem}
use Rattle.merge_rules.specs.Range.{places, no_row, conflicting, calc_element_insert_range}
use Rattle.merge_rules.specs.Refusals.{Outcome, done, conflict, refused, not_in_version, ◌>>=◌}
use Rattle.pairing.specs.Plans.{spread, import_in, row_element, row_value}
use Rattle.pairing.proofs.Laws.Spreads.{spread-done, spread-split, length-singles}
use Rattle.merge_log.specs.Answers.{outcome_is}
use Rattle.insert_range.specs.Range.{range_is, PlacesIn}
use Rattle.std.specs.Prelude.{Result, Ok, Err}
use Rattle.insert_range.specs.declared.range.Bounds.{Bounds}
use Rattle.insert_range.specs.declared.range.Unplaced.{Unplaced}
use Rattle.insert_range.specs.declared.range.Unplaced.TheVariants.{NoRow, Conflicting}
use Rattle.merge_log.specs.declared.refusals.Halt.{Halt}
use Rattle.merge_log.specs.declared.refusals.Halt.TheVariants.{Conflict, Refused}

-- ---- the range decides

-- the place is one of the list
pub clamp-within : (wanted n : ℕ) (b : Bounds) (r : Result Bounds Unplaced) → PlacesIn n r → r ≡ Ok b → (at : ℕ) → at ≡ clamp wanted b.first b.last → at ≤ n
unfolding clamp
clamp-within wanted n b r h k at e =
    let g = rw k at h in
    rw e (omega (arith, g.0, g.1))

module _ (x : Fixed) (s : State) (f : FileNumber) (v : Version) (p e wanted : ℕ) (r : Result Bounds Unplaced)
    (is : range_is r ≡ calc_element_insert_range x s.model p (name_of x e) v) where
  pub single-places : (b : Bounds) (at : ℕ) → r ≡ Ok b → at ≡ clamp wanted b.first b.last → import_at f p e at s ≡ import_single_item x f v p e wanted s
  unfolding import_single_item
  single-places b at k a =
      let c : calc_element_insert_range x s.model p (name_of x e) v ≡ places b.first b.last = sym is ∙ ap range_is k in
      rw a (sym (rw (import_single_item, c)))

  pub single-no-row : r ≡ Err NoRow → refused (not_in_version p (name_of x e)) ≡ import_single_item x f v p e wanted s
  unfolding import_single_item
  single-no-row k =
      let c : calc_element_insert_range x s.model p (name_of x e) v ≡ no_row = sym is ∙ ap range_is k in
      sym (rw (import_single_item, c))

  pub single-conflict : r ≡ Err Conflicting → conflict p s ≡ import_single_item x f v p e wanted s
  unfolding import_single_item
  single-conflict k =
      let c : calc_element_insert_range x s.model p (name_of x e) v ≡ conflicting = sym is ∙ ap range_is k in
      sym (rw (import_single_item, c))

-- ---- the B-only list

-- a step that is done goes on, another ends
pub then-done : (s : State) (k : State → Outcome) (o : Result (Unit {0}) Halt) {q : Outcome} → outcome_is o s ≡ q → o ≡ Ok tt → (q >>= k) ≡ k s
unfolding ◌>>=◌
then-done s k o e d = rw (← e, d)

pub then-stop : (s : State) (k : State → Outcome) (o : Result (Unit {0}) Halt) {q : Outcome} → outcome_is o s ≡ q → (o ≡ Ok tt → ⊥)
    → outcome_is o s ≡ (q >>= k)
unfolding ◌>>=◌
then-stop s k (Ok d) e n = absurd (n refl)
then-stop s k (Err (Conflict c)) e n = rw (← e)
then-stop s k (Err (Refused r)) e n = rw (← e)

-- an answer that is an error is not done
pub not-done : {o : Result (Unit {0}) Halt} {h : Halt} → o ≡ Err h → o ≡ Ok tt → ⊥
not-done e d = grind arith

-- ---- one list behind another

-- two steps, one behind the other
bind-both : (o : Outcome) (g k h : State → Outcome) → ((t : State) → k t ≡ (g t >>= h)) → (o >>= k) ≡ ((o >>= g) >>= h)
unfolding ◌>>=◌
bind-both (done t) g k h e = e t
bind-both (conflict c t) g k h e = refl
bind-both (refused r) g k h e = refl

bind_done : (o : Outcome) (k : State → Outcome) → ((t : State) → k t ≡ done t) → (o >>= k) ≡ o
unfolding ◌>>=◌
bind_done (done t) k e = e t
bind_done (conflict c t) k e = refl
bind_done (refused r) k e = refl

module _ (x : Fixed) (f : FileNumber) (v : Version) (p : Element) where
  imports-append : (i : ℕ) (as' bs : List NewItem) (s : State)
      → import_new_items x f v p i (as' ++ bs) s ≡ (import_new_items x f v p i as' s >>= import_new_items x f v p (i + length as') bs)
  unfolding import_new_items ◌>>=◌
  imports-append i [] bs s = let e : i + 0 ≡ i = omega arith in rw e
  imports-append i (a ∷ as') bs s =
      let e : i + suc (length as') ≡ suc i + length as' = omega arith in
      rw e
      (bind-both (import_single_item x f v p a.element (a.position + i) s) (import_new_items x f v p (suc i) as') (import_new_items x f v p (suc i) (as' ++ bs))
      (import_new_items x f v p (suc i + length as') bs) (imports-append (suc i) as' bs))

  -- the first k rows, and then the others
  pub imports-rows : (w : List ℕ) (row i k n : ℕ) (s : State)
      → import_new_items x f v p i (spread (import_in w) row (k + n)) s
      ≡ (import_new_items x f v p i (spread (import_in w) row k) s >>= import_new_items x f v p (i + k) (spread (import_in w) (row + k) n))
  imports-rows w row i k n s =
      rw (spread-split (import_in w) row k n)
      (imports-append i (spread (import_in w) row k) (spread (import_in w) (row + k) n) s
      ∙ ap (λ (z : ℕ). import_new_items x f v p i (spread (import_in w) row k) s >>= import_new_items x f v p (i + z) (spread (import_in w) (row + k) n)) (length-singles _ row k))

  -- one row by itself
  pub imports-one : (w : List ℕ) (row i : ℕ) (s : State)
      → import_new_items x f v p i (spread (import_in w) row 1) s ≡ import_single_item x f v p (row_element w row) (row_value w row + i) s
  unfolding import_new_items spread
  imports-one w row i s = bind_done (import_single_item x f v p (row_element w row) (row_value w row + i) s) (import_new_items x f v p (suc i) []) (λ t. refl)

module _ (schema elements w : List ℕ) (na ni f v p : ℕ) (m₀ l₀ : List ℕ) where
  -- the rows behind the first i do to the tables what is left of the whole
  pub record ImportsLeft (m l : List ℕ) (i : ℕ) : Type 0 where
    pub within : i ≤ ni
    pub model_fits : ModelOver elements m
    pub log_fits : LogFits (length (elements_of elements).names) l
    pub keeps : KeepsState m₀ l₀ m l
    pub left : (deck : List ℕ) → import_new_items (fixed_in deck schema elements) f v p i (spread (import_in w) (na + i) (na + ni - (na + i))) (state_in m l)
        ≡ import_new_items (fixed_in deck schema elements) f v p 0 (spread (import_in w) na ni) (state_in m₀ l₀)

  module _ (m l : List ℕ) (i : ℕ) (k : ImportsLeft m l i) where
    pub imports-end : ni ≤ i → (deck : List ℕ) → done (state_in m l) ≡ import_new_items (fixed_in deck schema elements) f v p 0 (spread (import_in w) na ni) (state_in m₀ l₀)
    unfolding import_new_items
    imports-end h deck = sym (rw (spread-done (import_in w) (na + i) (na + ni) (omega arith))) ∙ k.left deck

    -- n rows from i on, with the answer of their imports and the tables that they left
    module _ (n : ℕ) (h : i + n ≤ ni) (m' l' : List ℕ) (o : Result (Unit {0}) Halt)
        (is : (deck : List ℕ) → outcome_is o (state_in m' l') ≡ import_new_items (fixed_in deck schema elements) f v p i (spread (import_in w) (na + i) n) (state_in m l)) where
      here : (deck : List ℕ)
          → import_new_items (fixed_in deck schema elements) f v p i (spread (import_in w) (na + i) (na + ni - (na + i))) (state_in m l)
          ≡ (import_new_items (fixed_in deck schema elements) f v p i (spread (import_in w) (na + i) n) (state_in m l)
          >>= import_new_items (fixed_in deck schema elements) f v p (i + n) (spread (import_in w) (na + i + n) (na + ni - (na + i + n))))
      here deck =
          let z : na + ni - (na + i) ≡ n + (na + ni - (na + i + n)) = omega arith in
          rw z (imports-rows (fixed_in deck schema elements) f v p w (na + i) i n (na + ni - (na + i + n)) (state_in m l))

      pub imports-stop : (o ≡ Ok tt → ⊥) → (deck : List ℕ)
          → outcome_is o (state_in m' l') ≡ import_new_items (fixed_in deck schema elements) f v p 0 (spread (import_in w) na ni) (state_in m₀ l₀)
      imports-stop t deck = then-stop (state_in m' l') _ o (is deck) t ∙ sym (here deck) ∙ k.left deck

      pub imports-more : o ≡ Ok tt → KeepsState m l m' l' → ImportsLeft m' l' (i + n)
      imports-more d kept =
          let s = kept _ _ (record { model_fits = k.model_fits; log_fits = k.log_fits }) in
          let a : na + (i + n) ≡ na + i + n = omega arith in
          record {
            within = h;
            model_fits = s.model_fits;
            log_fits = s.log_fits;
            keeps = λ n texts q. kept n texts (k.keeps n texts q);
            left = λ deck. rw a (sym (then-done (state_in m' l') _ o (is deck) d) ∙ sym (here deck) ∙ k.left deck);
          }
