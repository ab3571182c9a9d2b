-- The plan in the rows of the scratch slice: one row more, and stores. Assumes nothing.
use mathlib.Core.List.{List, [], ◌∷◌, ◌++◌, append-nil}
use mathlib.Core.Path.{◌≡◌, refl, sym, ap, ◌∙◌}
use Prim.Native.Nat.{ℕ, zero, suc, ◌+◌, ◌-◌, ◌*◌, ◌≤◌, ◌<◌}
use native.Mathlib.Omega.{arith}
use borrow.Author.Tests.{ltb-true, ltb-false}
use lib.Dec.{ltb}
use lib.ListN.{length, get_or, set, take, drop, length-set, length-drop, get_or-eq_default}
use lib.Seq.{get_or-set_same, get_or-set_other, get_or-take, get_or-drop, length-take-le, ext_get_or}
use Rattle.tables.specs.Records.{Element}
use Rattle.tables.proofs.Laws.Cases.{bool-split}
use Rattle.pairing.specs.declared.plan.Sides.{Sides}
use Rattle.pairing.specs.Plans.{spread, restriction_of, pair_of, row_element, row_value, restriction_in, pair_in, import_in, plan_up_to, row_elements}
use Rattle.pairing.specs.Walks.{first_children, second_children}
use Rattle.pairing.proofs.Laws.Spreads.{spread-more, spread-last, spread_same, length-singles, get_d-singles}
use Rattle.pairing.proofs.Laws.Walks.{plus_restriction, plus_import, plus_pair}

-- ---- one row

-- a child of A with no mate, and one with a mate
pub restricted : (a v : ℕ) → v ≡ 0 → restriction_of a v ≡ a ∷ []
unfolding restriction_of
restricted a v e = rw e

pub not-restricted : (a v : ℕ) → (v ≡ 0 → ⊥) → restriction_of a v ≡ []
unfolding restriction_of
not-restricted a zero n = absurd (n refl)
not-restricted a (suc v) n = refl

pub mated : (a v : ℕ) → (v ≡ 0 → ⊥) → pair_of a v ≡ record { a = a; b = v - 1 } ∷ []
unfolding pair_of
mated a zero n = absurd (n refl)
mated a (suc v) n = let e : suc v - 1 ≡ v = omega arith in rw e

pub not-mated : (a v : ℕ) → v ≡ 0 → pair_of a v ≡ []
unfolding pair_of
not-mated a v e = rw e

-- ---- one row more

module _ (w : List ℕ) (na i k : ℕ) where
  pub row-restriction : row_value w i ≡ 0 → plan_up_to na (i + 1) k w ≡ plus_restriction (plan_up_to na i k w) (row_element w i)
  row-restriction e =
      let r : spread (restriction_in w) 0 (i + 1) ≡ spread (restriction_in w) 0 i ++ (row_element w i ∷ []) =
      spread-last (restriction_in w) i ∙ rw (restricted (row_element w i) (row_value w i) e) in
      let q : spread (pair_in w) 0 (i + 1) ≡ spread (pair_in w) 0 i =
      spread-last (pair_in w) i ∙ rw (not-mated (row_element w i) (row_value w i) e, append-nil) in
      rw (r, q)

  pub row-pair : (b : Element) → row_value w i ≡ b + 1 → plan_up_to na (i + 1) k w ≡ plus_pair (plan_up_to na i k w) (row_element w i) b
  row-pair b e =
      let n : row_value w i ≡ 0 → ⊥ = λ z. omega arith in
      let m : row_value w i - 1 ≡ b = omega arith in
      let r : spread (restriction_in w) 0 (i + 1) ≡ spread (restriction_in w) 0 i =
      spread-last (restriction_in w) i ∙ rw (not-restricted (row_element w i) (row_value w i) n, append-nil) in
      let q : spread (pair_in w) 0 (i + 1) ≡ spread (pair_in w) 0 i ++ (record { a = row_element w i; b = b } ∷ []) =
      spread-last (pair_in w) i ∙ rw (mated (row_element w i) (row_value w i) n, m) in
      rw (r, q)

  pub row-import : plan_up_to na i (k + 1) w ≡ plus_import (plan_up_to na i k w) (row_element w (na + k)) (row_value w (na + k))
  row-import = rw (spread-more (import_in w) na k)

-- ---- stores

-- cells from lo up to hi may have changed
pub record CellsKept (w w' : List ℕ) (lo hi : ℕ) : Type 0 where
  pub size : length w' ≡ length w
  pub outside : (c : ℕ) → (lo ≤ c → c < hi → ⊥) → get_or w' c 0 ≡ get_or w c 0

pub kept-one : (w : List ℕ) (c v : ℕ) → CellsKept w (set w c v) c (c + 1)
kept-one w c v =
    record { size = length-set w c v; outside = λ d n. get_or-set_other w c d v 0 (λ (e : d ≡ c). n (omega arith) (omega arith)) }

pub kept-two : (w : List ℕ) (c u v : ℕ) → CellsKept w (set (set w c u) (c + 1) v) c (c + 2)
kept-two w c u v =
    record {
      size = length-set (set w c u) (c + 1) v ∙ length-set w c u;
      outside = λ d n.
          get_or-set_other (set w c u) (c + 1) d v 0 (λ (e : d ≡ c + 1). n (omega arith) (omega arith))
          ∙ get_or-set_other w c d u 0 (λ (e : d ≡ c). n (omega arith) (omega arith));
    }

-- what two stores one behind the other leave there
pub two-first : (w : List ℕ) (c u v : ℕ) → c + 1 < length w → get_or (set (set w c u) (c + 1) v) c 0 ≡ u
two-first w c u v h = get_or-set_other (set w c u) (c + 1) c v 0 (λ z. omega arith) ∙ get_or-set_same w c u 0 (omega arith)

pub two-second : (w : List ℕ) (c u v : ℕ) → c + 1 < length w → get_or (set (set w c u) (c + 1) v) (c + 1) 0 ≡ v
two-second w c u v h = get_or-set_same (set w c u) (c + 1) v 0 (simp length-set h)

pub elements_same : (w w' : List ℕ) (n : ℕ) → ((m : ℕ) → m < n → row_element w' m ≡ row_element w m) → row_elements w' n ≡ row_elements w n
elements_same w w' n h =
    spread_same (λ (m : ℕ). row_element w' m ∷ []) (λ (m : ℕ). row_element w m ∷ []) 0 n (λ m a b. rw (h m (omega arith)))

module _ (w w' : List ℕ) (lo hi : ℕ) (h : CellsKept w w' lo hi) where
  -- a plan of rows that are not touched
  pub plan-kept : (na i k : ℕ) → ((c : ℕ) → c < 2 * i → lo ≤ c → c < hi → ⊥) → ((c : ℕ) → 2 * na ≤ c → c < 2 * (na + k) → lo ≤ c → c < hi → ⊥)
      → plan_up_to na i k w' ≡ plan_up_to na i k w
  plan-kept na i k first second =
      let element : (m : ℕ) → m < i → row_element w' m ≡ row_element w m = λ m l. h.outside (2 * m) (first (2 * m) (omega arith)) in
      let value : (m : ℕ) → m < i → row_value w' m ≡ row_value w m = λ m l. h.outside (2 * m + 1) (first (2 * m + 1) (omega arith)) in
      let r : spread (restriction_in w') 0 i ≡ spread (restriction_in w) 0 i =
      spread_same (restriction_in w') (restriction_in w) 0 i (λ m a b. rw (element m (omega arith), value m (omega arith))) in
      let q : spread (pair_in w') 0 i ≡ spread (pair_in w) 0 i =
      spread_same (pair_in w') (pair_in w) 0 i (λ m a b. rw (element m (omega arith), value m (omega arith))) in
      let t : spread (import_in w') na k ≡ spread (import_in w) na k =
      spread_same (import_in w') (import_in w) na k
      (λ m a b.
      rw (h.outside (2 * m) (second (2 * m) (omega arith) (omega arith)), h.outside (2 * m + 1) (second (2 * m + 1) (omega arith) (omega arith)))) in
      rw (r, q, t)

  pub elements-kept : (n : ℕ) → ((m : ℕ) → m < n → lo ≤ 2 * m → 2 * m < hi → ⊥) → row_elements w' n ≡ row_elements w n
  elements-kept n out = elements_same w w' n (λ m l. h.outside (2 * m) (out m l))

-- ---- the children of both sides

pub length-first : (s : Sides) (w : List ℕ) → length (first_children s w) ≡ s.rows
length-first s w = length-singles (row_element w) 0 s.rows

pub get_d-first : (s : Sides) (w : List ℕ) (i : ℕ) → i < s.rows → get_or (first_children s w) i 0 ≡ row_element w i
get_d-first s w i h = let e : 0 + i ≡ i = omega arith in get_d-singles (row_element w) 0 s.rows i 0 h ∙ rw e

module _ (w : List ℕ) (a n : ℕ) where
  pub length_part : a + n ≤ length w → length (take n (drop a w)) ≡ n
  length_part h = length-take-le n (drop a w) (rw length-drop (omega arith))

  pub get_d_part : (i : ℕ) → i < n → get_or (take n (drop a w)) i 0 ≡ get_or w (a + i) 0
  get_d_part i h = get_or-take n (drop a w) i 0 h ∙ get_or-drop a w i 0

module _ (s : Sides) (w : List ℕ) (ends : s.end + 2 * (s.end - s.start) ≤ length w) where
  pub length-second : length (second_children s w) ≡ s.end - s.start
  length-second = length-take-le (s.end - s.start) (drop s.start w) (rw length-drop (omega arith))

  pub get_d-second : (j : ℕ) → s.start + j < s.end → get_or (second_children s w) j 0 ≡ get_or w (s.start + j) 0
  get_d-second j h = get_d_part w s.start (s.end - s.start) j (omega arith)

-- all from B's children on, where only cells before them have changed
pub behind-kept : (s : Sides) (w w' : List ℕ) (lo hi : ℕ) → CellsKept w w' lo hi → hi ≤ s.start → drop s.start w' ≡ drop s.start w
behind-kept s w w' lo hi h k =
    ext_get_or 0 (drop s.start w') (drop s.start w) (rw (length-drop, length-drop, h.size))
    (λ j l. get_or-drop s.start w' j 0 ∙ h.outside (s.start + j) (λ a b. omega arith) ∙ sym (get_or-drop s.start w j 0))

pub second-behind : (s : Sides) (w w' : List ℕ) → drop s.start w' ≡ drop s.start w → second_children s w' ≡ second_children s w
second-behind s w w' e = ap (take (s.end - s.start)) e

-- ---- a front that is kept

module _ (t : ℕ) (w w' : List ℕ) (front : take t w' ≡ take t w) where
  pub front_at : (c : ℕ) → c < t → get_or w' c 0 ≡ get_or w c 0
  front_at c h = sym (get_or-take t w' c 0 h) ∙ ap (λ (l : List ℕ). get_or l c 0) front ∙ get_or-take t w c 0 h

  pub part-kept : length w' ≡ length w → t ≤ length w → (a n : ℕ) → a + n ≤ t → take n (drop a w') ≡ take n (drop a w)
  part-kept size fits a n h =
      let long : length (take n (drop a w')) ≡ n = length_part w' a n (omega arith) in
      ext_get_or 0 (take n (drop a w')) (take n (drop a w)) (long ∙ sym (length_part w a n (omega arith)))
      (λ i l. get_d_part w' a n i (omega arith) ∙ front_at (a + i) (omega arith) ∙ sym (get_d_part w a n i (omega arith)))

pub second-front : (s : Sides) (w w' : List ℕ) → s.start ≤ s.end → s.end ≤ length w → length w' ≡ length w → take s.end w' ≡ take s.end w
    → second_children s w' ≡ second_children s w
second-front s w w' order fits size front = part-kept s.end w w' front size fits s.start (s.end - s.start) (omega arith)

-- cells from t on may have changed
pub front_kept : (t : ℕ) (w w' : List ℕ) → take t w' ≡ take t w → length w' ≡ length w → CellsKept w w' t (length w)
front_kept t w w' front size =
    record {
      size = size;
      outside = λ c n.
          bool-split (ltb c t) (λ h. front_at t w w' front c (ltb-true c t h))
          (λ h.
          bool-split (ltb c (length w)) (λ k. absurd (n (ltb-false c t h) (ltb-true c (length w) k)))
          (λ k.
          let l = ltb-false c (length w) k in
          get_or-eq_default w' 0 {n = c} (omega arith) ∙ sym (get_or-eq_default w 0 {n = c} l)));
    }
