-- The model as a table: the count of elements; each element's parent + 1, 0 for none; where each element's list starts among the items, and
-- where the last one ends; the items of all lists, in the order of their owners; each element's set. Unused cells are zero. Assumes nothing.
use Rattle.std.specs.Prelude.{true, false, List, [], ◌∷◌, ◌++◌, map, ◌≡◌, ℕ, zero, suc, ◌+◌, ◌-◌, ◌*◌, ◌≤◌, ◌<◌, ltb, length, get_or, take, drop, replicate}
use Rattle.std.proofs.Math.Option.{Option, none, some}
use Rattle.tables.specs.Cells.{padded, cells, rows_of, Each}
use Rattle.tables.specs.Limits.{element_limit, item_limit}
use Rattle.tables.specs.Lists.{insert_run, remove_run}
use Rattle.tables.specs.Records.{Item, child, text, Model, content_items, list_of}
use Rattle.tables.specs.SetCells.{set_width, set_cells, cells_set}
use Rattle.std.specs.Prelude.{Some, None}
use Rattle.std.specs.Prelude as program_option
use Rattle.tables.specs.declared.numbers.Element as program_element
use Rattle.tables.specs.declared.model.Item as program
use Rattle.tables.specs.declared.model.Item.TheVariants.{Child, Text}

-- ---- where the areas begin, and the table's size

abbrev pub parents_at : ℕ
parents_at = 1

abbrev pub starts_at : ℕ
starts_at = parents_at + element_limit

abbrev pub items_at : ℕ
items_at = starts_at + suc element_limit

abbrev pub sets_at : ℕ
sets_at = items_at + item_limit

abbrev pub model_size : ℕ
model_size = sets_at + element_limit * set_width

-- ---- the program's enums as the records have them

abbrev pub parent_is : program_option.Option program_element.Element → Option ℕ
parent_is (Some e) = some e.0
parent_is None = none

abbrev pub item_is : program.Item → Item
item_is (Child e) = child e.0
item_is (Text t) = text t

-- ---- one cell

unfoldable pub parent_cell : Option ℕ → ℕ
parent_cell none = 0
parent_cell (some p) = suc p

unfoldable pub cell_parent : ℕ → Option ℕ
cell_parent zero = none
cell_parent (suc p) = some p

unfoldable pub item_cell : Item → ℕ
item_cell (child e) = e
item_cell (text t) = element_limit + t

unfoldable pub cell_item : ℕ → Item
cell_item c = elim (ltb c element_limit) [ true ↦ child c | false ↦ text (c - element_limit) ]

-- ---- starts

-- a, and then a with each number added in turn
unfoldable pub sums : ℕ → List ℕ → List ℕ
sums a [] = a ∷ []
sums a (n ∷ ns) = a ∷ sums (a + n) ns

-- from each number to the next, the first one from a
unfoldable pub gaps : ℕ → List ℕ → List ℕ
gaps a [] = []
gaps a (s ∷ ss) = (s - a) ∷ gaps s ss

unfoldable pub gaps_of : List ℕ → List ℕ
gaps_of [] = []
gaps_of (s ∷ ss) = gaps s ss

module _ {A : Type 0} where
  unfoldable pub flat : List (List A) → List A
  flat [] = []
  flat (l ∷ ls) = l ++ flat ls

  -- where the list of e starts in the flat list
  unfoldable pub start_of : List (List A) → ℕ → ℕ
  start_of [] e = 0
  start_of (l ∷ ls) zero = 0
  start_of (l ∷ ls) (suc e) = length l + start_of ls e

  -- lists of these lengths, one behind the other
  unfoldable pub cut : List ℕ → List A → List (List A)
  cut [] xs = []
  cut (n ∷ ns) xs = take n xs ∷ cut ns (drop n xs)

-- ---- the table

abbrev pub count_of : Model → ℕ
count_of m = length m.parents

unfoldable pub encode_model : Model → List ℕ
encode_model m =
    count_of m
    ∷ (padded element_limit (map parent_cell m.parents)
    ++ (padded (suc element_limit) (sums 0 (map length m.lists))
    ++ (padded item_limit (map item_cell (flat m.lists)) ++ cells set_width element_limit set_cells m.sets)))

unfoldable pub model_of : List ℕ → Model
model_of xs =
    record {
      parents = map cell_parent (take (get_or xs 0 0) (drop parents_at xs));
      sets = rows_of set_width (get_or xs 0 0) cells_set (drop sets_at xs);
      lists = cut (gaps_of (take (suc (get_or xs 0 0)) (drop starts_at xs))) (map cell_item (drop items_at xs));
    }

-- a parent that is an element
abbrev pub ParentBelow : ℕ → Option ℕ → Type 0
ParentBelow n none = Unit {0}
ParentBelow n (some p) = p < n

-- an item that is an element, or a text that a table has room for
abbrev pub ItemBelow : ℕ → Item → Type 0
ItemBelow n (child e) = e < n
ItemBelow n (text t) = t < item_limit

-- what a table can hold
pub record SizedModel (m : Model) : Type 0 where
  pub sets : length m.sets ≡ length m.parents
  pub lists : length m.lists ≡ length m.parents
  pub count : length m.parents ≤ element_limit
  pub total : content_items m ≤ item_limit
  pub parents_in : Each (ParentBelow (length m.parents)) m.parents
  pub items_in : Each (ItemBelow (length m.parents)) (flat m.lists)

pub record GoodModel (xs : List ℕ) : Type 0 where
  pub size : length xs ≡ model_size
  pub raw : xs ≡ encode_model (model_of xs)
  pub sized : SizedModel (model_of xs)

pub record HoldsModel (xs : List ℕ) (m : Model) : Type 0 where
  pub good : GoodModel xs
  pub is : model_of xs ≡ m

-- ---- what the stores do to a part of the table

-- the value k times at a place, what stands from there on moved up by k; the last k fall out
unfoldable pub shift_in : List ℕ → ℕ → ℕ → ℕ → List ℕ
shift_in xs i k v = insert_run (take (length xs - k) xs) i k v

-- without the k entries at a place, what stands behind them moved down by k, and zeros at the end
unfoldable pub shift_out : List ℕ → ℕ → ℕ → List ℕ
shift_out xs i k = remove_run xs i k ++ replicate k 0

-- f of each entry from a place on
unfoldable pub on_from : (ℕ → ℕ) → List ℕ → ℕ → List ℕ
on_from f [] i = []
on_from f (x ∷ xs) zero = f x ∷ on_from f xs zero
on_from f (x ∷ xs) (suc i) = x ∷ on_from f xs i

-- no element
abbrev pub no_model : Model
no_model = record { parents = []; sets = []; lists = [] }

-- where the list of e starts, within the items that are used
pub record StartOf (m : Model) (e r : ℕ) : Type 0 where
  pub is : r ≡ start_of m.lists e
  pub fits : r + length (list_of m e) ≤ content_items m
