-- The test of an area of rows: an area that is the encoding of rows which pass, passes. Assumes nothing.
use mathlib.Core.Bool.{Bool, true}
use mathlib.Core.List.{List, [], ◌∷◌, ◌++◌, map, append_assoc}
use mathlib.Core.Path.{◌≡◌, refl, ap, ◌∙◌}
use Prim.Native.Nat.{ℕ, ◌+◌, ◌*◌, ◌-◌, ◌≤◌}
use native.Mathlib.Nat.{add-sub_cancel_left}
use borrow.Author.Tests.{le-leb}
use lib.ListN.{length, take, drop, replicate}
use lib.Seq.{take_at, drop_at}
use Rattle.tables.specs.Cells.{padded, Each, row_cells, cells, rows_of, between}
use Rattle.tables.specs.Lists.{all_of}
use Rattle.table_test.specs.ModelTest.{is_zero}
use Rattle.table_test.specs.AreaTest.{area_width, area_limit, row_passes, rows_in, area_passes}
use Rattle.table_test.specs.declared.area_test.Area.{Area}
use Rattle.tables.proofs.Laws.Cells.{length-rows, length-cells}
use Rattle.table_test.proofs.Laws.ModelTest.{all-zeros}
use Rattle.tables.proofs.Laws.Scans.{all_map, each-passes}

-- rows that pass, each as its cells
all-rows : {A : Type 0} (t : List ℕ → Bool) (enc : A → List ℕ) (l : List A) → Each (λ (a : A). t (enc a) ≡ true) l → all_of t (map enc l) ≡ true
all-rows t enc l h = all_map t enc l ∙ each-passes (λ a. t (enc a)) l h

-- ---- an area of rows

module _ {A : Type 0} (w : ℕ) (enc : A → List ℕ) (wide : (a : A) → length (enc a) ≡ w) where
  rows_then : (l : List A) (r : List ℕ) → rows_in w (length l) (row_cells enc l ++ r) ≡ map enc l
  unfolding rows_of row_cells
  rows_then [] r = refl
  rows_then (a ∷ l) r =
      rw (append_assoc, take_at (enc a) (row_cells enc l ++ r) w (wide a), drop_at (enc a) (row_cells enc l ++ r) w (wide a), rows_then l r)

  module _ (room : ℕ) (l : List A) where
    pub rows_are : rows_in w (length l) (cells w room enc l) ≡ map enc l
    unfolding cells padded
    rows_are = rows_then l (replicate (room * w - length (row_cells enc l)) 0)

    pub rest-zero : all_of is_zero (drop (length l * w) (cells w room enc l)) ≡ true
    unfolding cells padded
    rest-zero =
        ap (all_of is_zero) (drop_at (row_cells enc l) (replicate (room * w - length (row_cells enc l)) 0) (length l * w) (length-rows w enc wide l))
        ∙ all-zeros (room * w - length (row_cells enc l))

-- the area of these rows from a place of the table on, and what stands behind it
module _ {A : Type 0} (k : Area) (enc : A → List ℕ) (wide : (a : A) → length (enc a) ≡ area_width k) (l : List A) (few : length l ≤ area_limit k)
    (xs q : List ℕ) (at : ℕ) (e : drop at xs ≡ cells (area_width k) (area_limit k) enc l ++ q) where
  pub cells-between : between at (at + area_limit k * area_width k) xs ≡ cells (area_width k) (area_limit k) enc l
  cells-between =
      ap (λ (n : ℕ). take n (drop at xs)) (add-sub_cancel_left at (area_limit k * area_width k))
      ∙ ap (take (area_limit k * area_width k)) e
      ∙ take_at (cells (area_width k) (area_limit k) enc l) q (area_limit k * area_width k) (length-cells (area_width k) enc wide (area_limit k) l few)

  pub area-passes : (n : ℕ) → n ≡ length l → Each (λ (a : A). row_passes k (enc a) ≡ true) l → area_passes k n (between at (at + area_limit k * area_width k) xs) ≡ true
  unfolding area_passes
  area-passes n c h =
      let rows : all_of (row_passes k) (rows_in (area_width k) (length l) (cells (area_width k) (area_limit k) enc l)) ≡ true =
      ap (all_of (row_passes k)) (rows_are (area_width k) enc wide (area_limit k) l) ∙ all-rows (row_passes k) enc l h
      in
      rw (c, cells-between, le-leb (length l) (area_limit k) few, rows) (rest-zero (area_width k) enc wide (area_limit k) l)
