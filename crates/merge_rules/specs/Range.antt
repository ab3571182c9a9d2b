-- Document 01, "Insert range, `calc_element_insert_range`". Assumes nothing.
use Rattle.std.specs.Prelude.{List, [], ◌∷◌, length}
use Rattle.std.proofs.Math.Option.{none, some}
use Prim.Native.Nat.{ℕ, suc, Ordering}
use Rattle.tables.specs.Paths.{path_order}
use Rattle.tables.specs.Records.{Element, Name, Version, Mode, sequence, choice, bag, mixed, characters, Mult, at_most_one, one, any, SubElement, Item, child, text, Model, Fixed, type_row, name_of, type_of, list_of}
use Rattle.deck.specs.Schema.{find_sub_element, row_of_name, version_mask, find_common_group}

-- the first and last place; no row of the name in the version; a conflict
pub data Range : Type 0 where
  places : ℕ → ℕ → Range
  no_row : Range
  conflicting : Range

pub data Move : Type 0 where
  stop : Move
  move : ℕ → ℕ → Move
  clash : Move

-- equal, last = index + 1, conflict if mult is not 2
unfoldable pub equal_path : Mult → ℕ → ℕ → Move
equal_path at_most_one first index = clash
equal_path one first index = clash
equal_path any first index = move first (suc index)

-- by the common group's mode and the path order
unfoldable pub move_by : Mode → Ordering → Mult → ℕ → ℕ → Move
-- Sequence: new path smaller, stop;
move_by sequence Ordering.lt mult first index = stop
-- equal, last = index + 1, conflict if mult is not 2;
move_by sequence Ordering.eq mult first index = equal_path mult first index
-- greater, both = index + 1.
move_by sequence Ordering.gt mult first index = move (suc index) (suc index)
-- Choice: equal as above; different, conflict.
move_by choice Ordering.lt mult first index = clash
move_by choice Ordering.eq mult first index = equal_path mult first index
move_by choice Ordering.gt mult first index = clash
-- Bag, mixed: last = index + 1.
move_by bag order mult first index = move first (suc index)
move_by mixed order mult first index = move first (suc index)
-- no group is characters
move_by characters order mult first index = move first (suc index)

-- one item against the row of the new name; a text moves the last place
unfoldable pub move_at : Fixed → Element → SubElement → Item → ℕ → ℕ → ℕ → Move
move_at x p new (text t) index first last = move first (suc index)
move_at x p new (child e) index first last =
    elim (row_of_name x.schema (type_of x p) (name_of x e)) [
      | none ↦ move first last
      | some old ↦
          move_by (find_common_group x.schema (type_of x p) new.path old.path) (path_order new.path old.path) new.mult first index
    ]

-- the first and last place start at 0 and are moved as content is read in order
unfoldable pub read_content : Fixed → Element → SubElement → List Item → ℕ → ℕ → ℕ → Range
read_content x p new [] index first last = places first last
read_content x p new (i ∷ is) index first last =
    elim (move_at x p new i index first last) [
      | stop ↦ places first last
      | move first' last' ↦ read_content x p new is (suc index) first' last'
      | clash ↦ conflicting
    ]

-- Bag or mixed parent: (0, content length). Otherwise
unfoldable pub range_in : Fixed → Model → Element → SubElement → Mode → Range
range_in x m p new sequence = read_content x p new (list_of m p) 0 0 0
range_in x m p new choice = read_content x p new (list_of m p) 0 0 0
range_in x m p new bag = places 0 (length (list_of m p))
range_in x m p new mixed = places 0 (length (list_of m p))
range_in x m p new characters = no_row

-- where an element of this name may stand in the parent's list
unfoldable pub calc_element_insert_range : Fixed → Model → Element → Name → Version → Range
calc_element_insert_range x m p n v =
    elim (find_sub_element x.schema (type_of x p) n (version_mask v)) [
      | none ↦ no_row
      | some new ↦ range_in x m p new (type_row x.schema (type_of x p)).mode
    ]
