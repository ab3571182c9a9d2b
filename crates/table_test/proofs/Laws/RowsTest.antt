-- Laws of a row's tests: tests joined, and a row by its cells. Assumes nothing.
use mathlib.Core.Bool.{Bool, true, false, ◌&&◌, and-eq-true_iff, and-false, true≢false}
use mathlib.Core.List.{List, [], ◌∷◌, ◌++◌, append-nil}
use mathlib.Core.Path.{◌≡◌, refl, sym, ap, ◌∙◌}
use Prim.Native.Nat.{ℕ, zero, suc, ◌+◌, ◌≤◌}
use native.Mathlib.Nat.{add-zero}
use native.Mathlib.Omega.{arith}
use lib.ListN.{length, get_or, drop, drop_of_length-le}
use lib.Seq.{drop-cons}
use Rattle.table_test.specs.RowTests.{also_every, every}

-- ---- tests joined

also-first : (a : Bool) (bs : List Bool) → also_every a bs ≡ true → a ≡ true
also-first a [] h = h
also-first a (b ∷ bs) h = ((and-eq-true_iff a b).0 (also-first (a && b) bs h)).0

also-at : (a : Bool) (bs : List Bool) → also_every a bs ≡ true → (i : ℕ) → get_or bs i true ≡ true
also-at a [] h i = refl
also-at a (b ∷ bs) h zero = ((and-eq-true_iff a b).0 (also-first (a && b) bs h)).1
also-at a (b ∷ bs) h (suc i) = also-at (a && b) bs h i

pub every-at : (bs : List Bool) → every bs ≡ true → (i : ℕ) → get_or bs i true ≡ true
every-at [] h i = refl
every-at (b ∷ bs) h zero = also-first b bs h
every-at (b ∷ bs) h (suc i) = also-at b bs h i

also-false : (bs : List Bool) → also_every false bs ≡ false
also-false [] = refl
also-false (b ∷ bs) = also-false bs

also-fails : (a : Bool) (bs : List Bool) (i : ℕ) → get_or bs i true ≡ false → also_every a bs ≡ false
also-fails a [] i h = absurd (true≢false h)
also-fails a (b ∷ bs) zero h = ap (λ (x : Bool). also_every (a && x) bs) h ∙ ap (λ (x : Bool). also_every x bs) (and-false a) ∙ also-false bs
also-fails a (b ∷ bs) (suc i) h = also-fails (a && b) bs i h

-- one test that fails is enough
pub every-fails : (bs : List Bool) (i : ℕ) → get_or bs i true ≡ false → false ≡ every bs
every-fails [] i h = sym h
every-fails (b ∷ bs) zero h = sym (ap (λ (x : Bool). also_every x bs) h ∙ also-false bs)
every-fails (b ∷ bs) (suc i) h = sym (also-fails b bs i h)

-- ---- a row by its cells

-- the next k cells from a on
abbrev pub cells_from : List ℕ → ℕ → ℕ → List ℕ
cells_from r a zero = []
cells_from r a (suc k) = get_or r a 0 ∷ cells_from r (suc a) k

pub cells-from : (r : List ℕ) (a k : ℕ) → a + k ≤ length r → drop a r ≡ cells_from r a k ++ drop (a + k) r
cells-from r a zero e = rw (add-zero a)
cells-from r a (suc k) e =
    let n : a + suc k ≡ suc a + k = omega arith in
    drop-cons r a 0 (omega arith) ∙ ap (λ (l : List ℕ). get_or r a 0 ∷ l) (cells-from r (suc a) k (omega arith) ∙ ap (λ (i : ℕ). cells_from r (suc a) k ++ drop i r) (sym n))

-- a row of w cells is their list
pub row_is : (r : List ℕ) (w : ℕ) → length r ≡ w → r ≡ cells_from r 0 w
row_is r w e =
    cells-from r 0 w (omega arith) ∙ ap (λ (l : List ℕ). cells_from r 0 w ++ l) (drop_of_length-le r {i = 0 + w} (omega arith)) ∙ append-nil (cells_from r 0 w)
