-- The test of an area of rows: the loop that makes it, and an area that passes is the encoding of what it says. Assumes nothing.
use mathlib.Core.Bool.{Bool, true, false, ◌&&◌, and-eq-true_iff, and-false}
use mathlib.Core.List.{List, [], ◌∷◌, ◌++◌, append-nil}
use mathlib.Core.Path.{◌≡◌, refl, sym, ap, ◌∙◌}
use Prim.Native.Nat.{ℕ, zero, suc, ◌+◌, ◌*◌, ◌-◌, ◌≤◌, ◌<◌}
use native.Mathlib.Nat.{zero-add, suc-add, suc-mul, add-sub_cancel_left, mul-le-mul_right}
use native.Mathlib.Omega.{arith}
use borrow.Author.Tests.{le-leb, lt-leb, leb-true}
use lib.Dec.{leb}
use lib.ListN.{length, get_or, take, drop, replicate, length-replicate, length-drop, take-append-drop, drop_of_length-le}
use lib.Seq.{take_all, take-take, drop-drop, length-take-le}
use Rattle.tables.specs.Cells.{Each, cells, rows_of, row_at, between}
use Rattle.tables.specs.Lists.{all_of}
use Rattle.table_test.specs.ModelTest.{is_zero}
use Rattle.table_test.specs.AreaTest.{area_width, area_limit, row_tests, row_passes, rows_in, area_passes}
use Rattle.table_test.specs.declared.area_test.Area.{Area}
use Rattle.tables.proofs.Laws.Cells.{cells-again, get_d-rows_of, length-rows_of}
use Rattle.tables.proofs.Laws.Scans.{all_more, all-stop, all_end, all_head, all_tail, all-at}
use Rattle.table_test.proofs.Laws.ModelTest.{zeros-are}
use Rattle.table_test.proofs.Laws.RowsTest.{every-at}

-- ---- the loop over an area's rows

module _ (w : ℕ) where
  abbrev zero_row : List ℕ → List ℕ
  zero_row r = replicate w 0

  wide_row : (r : List ℕ) → length (zero_row r) ≡ w
  wide_row r = length-replicate {A = ℕ} w 0

  pub row-at : (n i : ℕ) (s : List ℕ) → i < n → get_or (rows_in w n s) i [] ≡ row_at w i s
  row-at n i s h = get_d-rows_of w zero_row wide_row (λ (r : List ℕ). r) n i s [] h

  pub row_count_lem : (n : ℕ) (s : List ℕ) → length (rows_in w n s) ≡ n
  row_count_lem n s = length-rows_of w zero_row wide_row (λ (r : List ℕ). r) n s

-- the cells from a place to the end
pub rest-is : (s : List ℕ) (k : ℕ) → between k (length s) s ≡ drop k s
rest-is s k = take_all (length s - k) (drop k s) (rw (length-drop k s) (omega arith))

-- row i of n, in an area with room for n rows
pub row_within : (i n w : ℕ) → i < n → i * w + w ≤ n * w
row_within i n w h = rw suc-mul at (mul-le-mul_right w h)

-- before row i: each row before it passes
pub record RowsLeft (k : Area) (s : List ℕ) (n w i : ℕ) : Type 0 where
  pub width : w ≡ area_width k
  pub few : n ≤ area_limit k
  pub fits : n * w ≤ length s
  pub left : all_of (row_passes k) (drop i (rows_in w n s)) ≡ all_of (row_passes k) (rows_in w n s)

pub too_many : (k : Area) (n : ℕ) (s : List ℕ) → area_limit k < n → false ≡ area_passes k n s
unfolding area_passes
too_many k n s h = rw (lt-leb n (area_limit k) h)

pub rows_start : (k : Area) (s : List ℕ) (n w : ℕ) → w ≡ area_width k → n ≤ area_limit k → length s ≡ area_limit k * area_width k → RowsLeft k s n w 0
rows_start k s n w e few size =
    record { width = e; few = few; fits = rw (e, size) (mul-le-mul_right (area_width k) few); left = refl }

module _ (k : Area) (s : List ℕ) (n w i : ℕ) (l : RowsLeft k s n w i) where
  lent_row : i < n → get_or (rows_in w n s) i [] ≡ between (i * w) (i * w + w) s
  lent_row h = row-at w n i s h ∙ ap (λ (j : ℕ). take j (drop (i * w) s)) (sym (add-sub_cancel_left (i * w) w))

  pub row-wide : i < n → length (between (i * w) (i * w + w) s) ≡ area_width k
  row-wide h =
      let m = row_within i n w h in
      let f = l.fits in
      ap (λ (j : ℕ). length (take j (drop (i * w) s))) (add-sub_cancel_left (i * w) w)
      ∙ length-take-le w (drop (i * w) s) (rw (length-drop (i * w) s) (omega arith))
      ∙ l.width

  pub rows_more : i < n → row_passes k (between (i * w) (i * w + w) s) ≡ true → RowsLeft k s n w (i + 1)
  rows_more h e =
      record {
        width = l.width;
        few = l.few;
        fits = l.fits;
        left = all_more (row_passes k) (rows_in w n s) i [] (rw (row_count_lem w n s) h) (ap (row_passes k) (lent_row h) ∙ e) ∙ l.left;
      }

  pub rows-stop : i < n → row_passes k (between (i * w) (i * w + w) s) ≡ false → false ≡ area_passes k n s
  unfolding area_passes
  rows-stop h e =
      let f : all_of (row_passes k) (rows_in w n s) ≡ false =
      sym l.left ∙ all-stop (row_passes k) (rows_in w n s) i [] (rw (row_count_lem w n s) h) (ap (row_passes k) (lent_row h) ∙ e)
      in
      sym (and-false (leb n (area_limit k)))
      ∙ ap (λ (b : Bool). leb n (area_limit k) && (b && all_of is_zero (drop (n * area_width k) s))) (sym f ∙ ap (λ (v : ℕ). all_of (row_passes k) (rows_in v n s)) l.width)

  -- r tells whether the cells behind the rows are zero
  pub rows_end : n ≤ i → (r : Bool) → r ≡ all_of is_zero (between (n * w) (length s) s) → r ≡ area_passes k n s
  unfolding area_passes
  rows_end h r e =
      let f : all_of (row_passes k) (rows_in w n s) ≡ true = sym l.left ∙ all_end (row_passes k) (rows_in w n s) i (rw (row_count_lem w n s) h) in
      let z : r ≡ all_of is_zero (drop (n * w) s) = e ∙ ap (all_of is_zero) (rest-is s (n * w)) in
      rw (le-leb n (area_limit k) l.few, ← l.width, f) z

-- ---- an area that passes

drop-front : {A : Type 0} (n m : ℕ) (l : List A) → drop n (take (n + m) l) ≡ take m (drop n l)
drop-front zero m l = rw (zero-add m)
drop-front (suc n) m [] = rw (suc-add n m) (by m)
  where
    by : {A : Type 0} (m : ℕ) → [] ≡ take {A = A} m []
    by zero = refl
    by (suc m) = refl
drop-front (suc n) m (x ∷ l) = rw (suc-add n m) (drop-front n m l)

module _ {A : Type 0} (w : ℕ) (dec : List ℕ → A) where
  -- rows read from the area alone
  rows-front : (n k : ℕ) (s : List ℕ) → rows_of w n dec (take (n * w + k) s) ≡ rows_of w n dec s
  unfolding rows_of
  rows-front zero k s = refl
  rows-front (suc n) k s =
      let e : suc n * w + k ≡ w + (n * w + k) = rw (suc-mul n w) (omega arith) in
      rw (e, take-take w (w + (n * w + k)) s (omega arith), drop-front w (n * w + k) s, rows-front n k (drop w s))

  each_row : (t : List ℕ → Bool) (P : A → Type 0) → ((r : List ℕ) → length r ≡ w → t r ≡ true → P (dec r))
      → (n : ℕ) (s : List ℕ) → n * w ≤ length s → all_of t (rows_in w n s) ≡ true → Each P (rows_of w n dec s)
  unfolding rows_of
  each_row t P f zero s k h = tt
  each_row t P f (suc n) s k h =
      let m : n * w + w ≤ length s = rw (suc-mul n w) at k in (
        f (take w s) (length-take-le w s (omega arith)) (all_head t (take w s) (rows_in w n (drop w s)) h),
        each_row t P f n (drop w s) (rw (length-drop w s) (omega arith)) (all_tail t (take w s) (rows_in w n (drop w s)) h),
      )

pub row-tested : (k : Area) (r : List ℕ) → row_passes k r ≡ true → (i : ℕ) → get_or (row_tests k r) i true ≡ true
unfolding row_passes
row-tested k r p = every-at (row_tests k r) p

-- there is room for n rows, they pass, and the cells behind them are zero
pub area-parts : (k : Area) (n : ℕ) (s : List ℕ) → area_passes k n s ≡ true
    → (n ≤ area_limit k) × (all_of (row_passes k) (rows_in (area_width k) n s) ≡ true) × (all_of is_zero (drop (n * area_width k) s) ≡ true)
unfolding area_passes
area-parts k n s p =
    let few = leb n (area_limit k) in
    let rows = all_of (row_passes k) (rows_in (area_width k) n s) in
    let rest = all_of is_zero (drop (n * area_width k) s) in
    let h = (and-eq-true_iff few (rows && rest)).0 p in
    (leb-true n (area_limit k) h.0, ((and-eq-true_iff rows rest).0 h.1).0, ((and-eq-true_iff rows rest).0 h.1).1)

-- an area with this place, and n rows of it used
module _ (k : Area) (at n : ℕ) (xs : List ℕ) (fits : at + area_limit k * area_width k ≤ length xs)
    (p : area_passes k n (between at (at + area_limit k * area_width k) xs) ≡ true) where
  area : List ℕ
  area = take (area_limit k * area_width k) (drop at xs)

  area-size : length area ≡ area_limit k * area_width k
  unfolding area
  area-size = length-take-le (area_limit k * area_width k) (drop at xs) (rw (length-drop at xs) (omega arith))

  passes : area_passes k n area ≡ true
  unfolding area
  passes = ap (λ (i : ℕ). area_passes k n (take i (drop at xs))) (sym (add-sub_cancel_left at (area_limit k * area_width k))) ∙ p

  parts : (n ≤ area_limit k) × (all_of (row_passes k) (rows_in (area_width k) n area) ≡ true) × (all_of is_zero (drop (n * area_width k) area) ≡ true)
  parts = area-parts k n area passes

  used-room : n * area_width k ≤ area_limit k * area_width k
  used-room = mul-le-mul_right (area_width k) parts.0

  rest-zero : drop (n * area_width k) area ≡ replicate (area_limit k * area_width k - n * area_width k) 0
  rest-zero =
      zeros-are (drop (n * area_width k) area) parts.2
      ∙ ap (λ (i : ℕ). replicate i 0) (length-drop (n * area_width k) area ∙ ap (λ (i : ℕ). i - n * area_width k) area-size)

  row-passes : (i : ℕ) → i < n → row_passes k (row_at (area_width k) i area) ≡ true
  row-passes i h =
      ap (row_passes k) (sym (row-at (area_width k) n i area h))
      ∙ all-at (row_passes k) (rows_in (area_width k) n area) i [] parts.1 (rw (row_count_lem (area_width k) n area) h)

  row-length : (i : ℕ) → i < n → length (row_at (area_width k) i area) ≡ area_width k
  row-length i h =
      let m = row_within i n (area_width k) h in
      let u = used-room in
      let s = area-size in
      length-take-le (area_width k) (drop (i * area_width k) area) (rw (length-drop (i * area_width k) area) (omega arith))

  module _ {A : Type 0} (dec : List ℕ → A) where
    rows-of : rows_of (area_width k) n dec area ≡ rows_of (area_width k) n dec (drop at xs)
    unfolding area
    rows-of =
        let w = area_width k in
        let room = area_limit k in
        let u : n * w ≤ room * w = used-room in
        let e : room * w ≡ n * w + (room * w - n * w) = omega arith in
        ap (λ (i : ℕ). rows_of w n dec (take i (drop at xs))) e ∙ rows-front w dec n (room * w - n * w) (drop at xs)

    pub rows-between : rows_of (area_width k) n dec (between at (at + area_limit k * area_width k) xs) ≡ rows_of (area_width k) n dec (drop at xs)
    unfolding area
    rows-between = ap (λ (i : ℕ). rows_of (area_width k) n dec (take i (drop at xs))) (add-sub_cancel_left at (area_limit k * area_width k)) ∙ rows-of

    -- rows that pass are the cells of what they say: so is the area
    module _ (enc : A → List ℕ) (wide : (a : A) → length (enc a) ≡ area_width k) (f : (r : List ℕ) → length r ≡ area_width k → row_passes k r ≡ true → enc (dec r) ≡ r) where
      area-cells : area ≡ cells (area_width k) (area_limit k) enc (rows_of (area_width k) n dec (drop at xs))
      area-cells =
          sym (cells-again (area_width k) enc wide dec (area_limit k) n area area-size parts.0 (λ i h. f (row_at (area_width k) i area) (row-length i h) (row-passes i h)) rest-zero)
          ∙ ap (cells (area_width k) (area_limit k) enc) rows-of

      -- q is what stands behind it
      pub area-again : {q : List ℕ} → drop (at + area_limit k * area_width k) xs ≡ q
          → drop at xs ≡ cells (area_width k) (area_limit k) enc (rows_of (area_width k) n dec (drop at xs)) ++ q
      unfolding area
      area-again {q} e =
          sym (take-append-drop (area_limit k * area_width k) (drop at xs)) ∙ (λ i. area-cells i ++ (drop-drop (area_limit k * area_width k) at xs ∙ e) i)

      -- nothing stands behind it
      pub area-last : length xs ≡ at + area_limit k * area_width k → drop at xs ≡ cells (area_width k) (area_limit k) enc (rows_of (area_width k) n dec (drop at xs))
      area-last e =
          area-again (drop_of_length-le xs {i = at + area_limit k * area_width k} (omega arith))
          ∙ append-nil (cells (area_width k) (area_limit k) enc (rows_of (area_width k) n dec (drop at xs)))

    pub area-each : (P : A → Type 0) → ((r : List ℕ) → length r ≡ area_width k → row_passes k r ≡ true → P (dec r)) → Each P (rows_of (area_width k) n dec (drop at xs))
    area-each P f =
        let u = used-room in
        rw rows-of at (each_row (area_width k) dec (row_passes k) P f n area (rw area-size u) parts.1)
