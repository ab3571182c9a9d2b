-- Parts between separators, unfolded at the first separator: lines of a deck, fields of a line, parts of a path. Assumes nothing.
use mathlib.Core.Bool.{Bool, true, false}
use mathlib.Core.List.{List, [], ◌∷◌}
use mathlib.Core.Path.{◌≡◌, refl, sym, ◌∙◌, ap}
use Prim.Native.Nat.{ℕ, zero, suc, ◌+◌, ◌-◌, ◌≤◌, ◌<◌}
use native.Mathlib.Nat.{zero-add, add-zero, add-suc, suc-add}
use native.Mathlib.Numerals.{add-one}
use native.Mathlib.Omega.{arith}
use borrow.Author.Tests.{eq-eqb, ne_eqb}
use lib.Dec.{eqb}
use lib.ListN.{length, get_or, take, drop, length-take, length-drop}
use lib.Seq.{drop-cons, drop-drop, take-take, take_all, take-nil}
use Rattle.deck.specs.Deck.{Part, ahead, parts}
use Rattle.tables.specs.Cells.{between}
use Rattle.deck.specs.Answers.{part_at, reach, Next}

-- ---- parts of any bytes

-- up to the first separator, and then the parts behind it
pub parts_next : (separator at : ℕ) (xs : List ℕ) → reach separator xs < length xs
    → parts separator at xs
    ≡ record { start = at; bytes = take (reach separator xs) xs }
    ∷ parts separator (suc (at + reach separator xs)) (drop (suc (reach separator xs)) xs)
unfolding reach parts ahead
parts_next separator at [] h = absurd (omega arith)
parts_next separator at (b ∷ bs) h = go (eqb b separator) h (λ k. parts_next separator (suc at) bs k)
  where
    far : Bool → ℕ
    far t = elim t [ true ↦ 0 | false ↦ suc (reach separator bs) ]

    go : (t : Bool) → far t < suc (length bs)
        → (reach separator bs < length bs → parts separator (suc at) bs
        ≡ record { start = suc at; bytes = take (reach separator bs) bs }
        ∷ parts separator (suc (suc at + reach separator bs)) (drop (suc (reach separator bs)) bs))
        → elim t [ true ↦ record { start = at; bytes = [] } ∷ parts separator (suc at) bs | false ↦ ahead at b (parts separator (suc at) bs) ]
        ≡ record { start = at; bytes = take (far t) (b ∷ bs) } ∷ parts separator (suc (at + far t)) (drop (suc (far t)) (b ∷ bs))
    go true h rest = rw add-zero
    go false h rest = rw (rest (omega arith), add-suc, suc-add)

-- with no separator the bytes are the one part
pub parts_last : (separator at : ℕ) (xs : List ℕ) → length xs ≤ reach separator xs
    → parts separator at xs ≡ record { start = at; bytes = xs } ∷ []
unfolding reach parts ahead
parts_last separator at [] h = refl
parts_last separator at (b ∷ bs) h = go (eqb b separator) h (λ k. parts_last separator (suc at) bs k)
  where
    go : (t : Bool) → suc (length bs) ≤ elim t [ true ↦ 0 | false ↦ suc (reach separator bs) ]
        → (length bs ≤ reach separator bs → parts separator (suc at) bs ≡ record { start = suc at; bytes = bs } ∷ [])
        → ◌≡◌ {A = List Part}
        (elim t [ true ↦ record { start = at; bytes = [] } ∷ parts separator (suc at) bs | false ↦ ahead at b (parts separator (suc at) bs) ])
        (record { start = at; bytes = b ∷ bs } ∷ [])
    go true h rest = absurd (omega arith)
    go false h rest = rw (rest (omega arith))

-- there is always a part
pub parts-some : (separator at : ℕ) (xs : List ℕ) → 0 < length (parts separator at xs)
unfolding parts ahead
parts-some separator at [] = omega arith
parts-some separator at (b ∷ bs) = go (eqb b separator) (parts separator (suc at) bs)
  where
    go : (t : Bool) (ps : List Part) → 0 < length {A = Part} (elim t [ true ↦ record { start = at; bytes = [] } ∷ ps | false ↦ ahead at b ps ])
    go true ps = omega arith
    go false [] = omega arith
    go false (p ∷ ps) = omega arith

-- ---- bytes between two places

pub drop-take : {A : Type 0} (m k : ℕ) (l : List A) → drop m (take (m + k) l) ≡ take k (drop m l)
drop-take zero k l = rw zero-add
drop-take (suc m) k [] = rw (take-nil, take-nil)
drop-take (suc m) k (x ∷ xs) = rw suc-add (drop-take m k xs)

module _ (s : List ℕ) (i end : ℕ) where
  pub length-between : end ≤ length s → length (between i end s) ≡ end - i
  length-between h = rw (length-take, length-drop) (omega arith)

  pub between_cons : i < end → end ≤ length s → between i end s ≡ get_or s i 0 ∷ between (i + 1) end s
  between_cons h k =
      let z : end - i ≡ suc (end - (i + 1)) = omega arith in
      rw (z, drop-cons s i 0 (omega arith), add-one i)

  pub between_none : end ≤ i → between i end s ≡ []
  between_none h = let z : end - i ≡ 0 = omega arith in rw z

-- ---- the search for a separator

module _ (s : List ℕ) (separator i end : ℕ) where
  pub reach_here : i < end → end ≤ length s → get_or s i 0 ≡ separator → reach separator (between i end s) ≡ 0
  unfolding reach
  reach_here h k e = rw (between_cons s i end h k, reach, eq-eqb (get_or s i 0) separator e)

  pub reach-on : i < end → end ≤ length s → (get_or s i 0 ≡ separator → ⊥)
      → reach separator (between i end s) ≡ suc (reach separator (between (i + 1) end s))
  unfolding reach
  reach-on h k n = rw (between_cons s i end h k, reach, ne_eqb (get_or s i 0) separator n)

  pub reach-end : end ≤ i → reach separator (between i end s) ≡ 0
  unfolding reach
  reach-end h = rw (between_none s i end h)

-- no separator stands in [at, i)
pub record Seeking (s : List ℕ) (separator at end i : ℕ) : Type 0 where
  pub past : at ≤ i
  pub within : i ≤ end
  pub is : i + reach separator (between i end s) ≡ at + reach separator (between at end s)

-- ---- parts between two places, at the place of the next separator

module _ (s : List ℕ) (separator at end e : ℕ) (fits : end ≤ length s) (n : Next s separator at end e) where
  -- up to the separator, and then the parts behind it
  pub next-part : e < end → parts separator at (between at end s) ≡ part_at s at e ∷ parts separator (e + 1) (between (e + 1) end s)
  next-part h =
      let r : ℕ = reach separator (between at end s) in
      let z : r ≡ e - at = omega (arith, n.is) in
      let y : end - at ≡ suc (e - at) + (end - (e + 1)) = omega (arith, n.past) in
      let x : suc (at + (e - at)) ≡ e + 1 = omega (arith, n.past) in
      let w : at + suc (e - at) ≡ e + 1 = omega (arith, n.past) in
      parts_next separator at (between at end s) (rw (length-between s at end fits) (omega (arith, n.is, n.past)))
      ∙ rw (z, x, take-take (e - at) (end - at) (drop at s) (omega arith), y, drop-take (suc (e - at)) (end - (e + 1)) (drop at s), drop-drop (suc (e - at)) at s, w)

  -- the last part
  pub last-part : end ≤ e → parts separator at (between at end s) ≡ part_at s at e ∷ []
  last-part h =
      let z : end ≡ e = omega (arith, n.within) in
      parts_last separator at (between at end s) (rw (length-between s at end fits) (omega (arith, n.is))) ∙ rw z

-- ---- lines: parts of what stands behind a place

pub behind : (s : List ℕ) (at : ℕ) → between at (length s) s ≡ drop at s
behind s at = take_all (length s - at) (drop at s) (rw length-drop (omega arith))

module _ (s : List ℕ) (separator at e : ℕ) (n : Next s separator at (length s) e) where
  pub next-line : e < length s → parts separator at (drop at s) ≡ part_at s at e ∷ parts separator (e + 1) (drop (e + 1) s)
  next-line h =
      ap (parts separator at) (sym (behind s at)) ∙ next-part s separator at (length s) e (omega arith) n h
      ∙ ap (λ (l : List ℕ). part_at s at e ∷ parts separator (e + 1) l) (behind s (e + 1))

  pub last_line : length s ≤ e → parts separator at (drop at s) ≡ part_at s at e ∷ []
  last_line h = ap (parts separator at) (sym (behind s at)) ∙ last-part s separator at (length s) e (omega arith) n h
