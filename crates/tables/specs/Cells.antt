-- Cells of a table: rows of one width, then zeros up to the area's end. Assumes nothing.
use Rattle.std.specs.Prelude.{List, [], ◌∷◌, ◌++◌, ℕ, zero, suc, ◌+◌, ◌*◌, ◌-◌, length, set, take, drop, replicate}

-- the list, then zeros up to room
unfoldable pub padded : ℕ → List ℕ → List ℕ
padded room xs = xs ++ replicate (room - length xs) 0

-- the values stored one behind the other, the first at this place
abbrev pub puts : List ℕ → ℕ → List ℕ → List ℕ
puts l at [] = l
puts l at (v ∷ vs) = puts (set l at v) (at + 1) vs

module _ {A : Type 0} where
  -- the fact holds of each entry
  abbrev pub Each : (A → Type 0) → List A → Type 0
  Each P [] = Unit {0}
  Each P (x ∷ xs) = P x × Each P xs

  -- the entries from place a up to place b
  abbrev pub between : ℕ → ℕ → List A → List A
  between a b xs = take (b - a) (drop a xs)

  -- the cells of each row, one row behind the other
  unfoldable pub row_cells : (A → List ℕ) → List A → List ℕ
  row_cells enc [] = []
  row_cells enc (r ∷ rs) = enc r ++ row_cells enc rs

  -- the cells of rows of width w, then zeros up to room rows
  unfoldable pub cells : ℕ → ℕ → (A → List ℕ) → List A → List ℕ
  cells w room enc rows = padded (room * w) (row_cells enc rows)

  -- the first n rows of width w
  unfoldable pub rows_of : ℕ → ℕ → (List ℕ → A) → List ℕ → List A
  rows_of w zero dec xs = []
  rows_of w (suc n) dec xs = dec (take w xs) ∷ rows_of w n dec (drop w xs)

-- the cells of row i, of width w
abbrev pub row_at : ℕ → ℕ → List ℕ → List ℕ
row_at w i xs = take w (drop (i * w) xs)
