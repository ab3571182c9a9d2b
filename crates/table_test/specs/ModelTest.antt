-- The test of a model table, the part of refusal 0 that needs this table and the number of texts alone: its size, its count, starts
-- from 0 that do not fall and end within the items, parents and items within their range, unused cells zero, no element twice in its list.
-- Assumes nothing.
use Rattle.std.specs.Prelude.{Bool, true, false, ◌&&◌, List, [], ◌∷◌, ◌≡◌, ℕ, ◌+◌, ◌*◌, ◌≤◌, eqb, leb, ltb, length, get_or}
use Rattle.tables.specs.Cells.{between}
use Rattle.tables.specs.Limits.{element_limit, item_limit}
use Rattle.tables.specs.Lists.{any_of, all_of}
use Rattle.tables.specs.Records.{Item, child, text, Model}
use Rattle.tables.specs.SetCells.{set_width}
use Rattle.tables.specs.ModelTable.{parents_at, sets_at, starts_at, items_at, model_size, cell_item, model_of, flat, count_of, GoodModel}

abbrev pub is_zero : ℕ → Bool
is_zero c = eqb c 0

abbrev pub at_most : ℕ → ℕ → Bool
at_most n c = leb c n

-- none is less than the one before it, and the last is within the items
unfoldable pub rising : ℕ → List ℕ → Bool
rising a [] = leb a item_limit
rising a (s ∷ ss) = leb a s && rising s ss

unfoldable pub item_in_range : ℕ → ℕ → Item → Bool
item_in_range n texts (child e) = ltb e n
item_in_range n texts (text t) = ltb t texts

abbrev pub cell_in_range : ℕ → ℕ → ℕ → Bool
cell_in_range n texts c = item_in_range n texts (cell_item c)

unfoldable pub same_child : Item → Item → Bool
same_child (child a) (child b) = eqb a b
same_child (child a) (text t) = false
same_child (text t) (child b) = false
same_child (text t) (text u) = false

-- no element twice
unfoldable pub once_in : List Item → Bool
once_in [] = true
once_in (a ∷ l) = elim (any_of (same_child a) l) [ true ↦ false | false ↦ once_in l ]

-- the count, and where the last list ends
abbrev pub count_in : List ℕ → ℕ
count_in xs = get_or xs 0 0

abbrev pub total_in : List ℕ → ℕ
total_in xs = get_or xs (starts_at + count_in xs) 0

unfoldable pub model_shape : List ℕ → Bool
model_shape xs =
    eqb (length xs) model_size
    && (leb (count_in xs) element_limit
    && (eqb (get_or xs starts_at 0) 0 && rising 0 (between (starts_at + 1) (starts_at + 1 + count_in xs) xs)))

unfoldable pub model_unused : List ℕ → Bool
model_unused xs =
    all_of is_zero (between (parents_at + count_in xs) starts_at xs)
    && (all_of is_zero (between (starts_at + 1 + count_in xs) items_at xs)
    && (all_of is_zero (between (items_at + total_in xs) sets_at xs) && all_of is_zero (between (sets_at + count_in xs * set_width) model_size xs)))

unfoldable pub model_used : ℕ → List ℕ → Bool
model_used texts xs =
    all_of (at_most (count_in xs)) (between parents_at (parents_at + count_in xs) xs)
    && all_of (cell_in_range (count_in xs) texts) (between items_at (items_at + total_in xs) xs)

unfoldable pub model_once : Model → Bool
model_once m = all_of once_in m.lists

unfoldable pub is_model_table : ℕ → List ℕ → Bool
is_model_table texts xs = model_shape xs && (model_unused xs && (model_used texts xs && model_once (model_of xs)))

-- what the shape gives to go on
pub record Shaped (xs : List ℕ) : Type 0 where
  pub size : length xs ≡ model_size
  pub count : count_in xs ≤ element_limit
  pub first : get_or xs starts_at 0 ≡ 0
  pub rises : rising 0 (between (starts_at + 1) (starts_at + 1 + count_in xs) xs) ≡ true
  pub total : total_in xs ≤ item_limit

-- what a table that passes is
pub record TestedModel (texts : ℕ) (xs : List ℕ) : Type 0 where
  pub good : GoodModel xs
  pub items : all_of (item_in_range (count_of (model_of xs)) texts) (flat (model_of xs).lists) ≡ true
  pub once : model_once (model_of xs) ≡ true
