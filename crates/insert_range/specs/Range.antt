-- What the code's moves and ranges stand for in the rules. Assumes nothing.
use Rattle.std.specs.Prelude.{Option, Some, None, Result, Ok, Err, List, ◌≡◌, length, get_or}
use Prim.Native.Nat.{ℕ, ◌+◌, ◌≤◌, Ordering}
use Rattle.tables.specs.Records.{Fixed, Mode, sequence, choice, bag, mixed, characters, Item, child, text, type_row, name_of, type_of, list_of}
use Rattle.tables.specs.ElementsTable.{elements_of}
use Rattle.tables.specs.ModelTable.{model_of}
use Rattle.tables.specs.SchemaTable.{schema_of, mode_from, mult_is, no_sub_element}
use Rattle.tables.specs.declared.schema.Mult.{Mult}
use Rattle.std.specs.declared.cmp.Ordering as program_order
use Rattle.std.specs.declared.cmp.Ordering.TheVariants.{Less, Equal, Greater}
use Rattle.state_test.specs.StateTest.{fixed_in}
use Rattle.merge_rules.specs.Range.{Range, places, no_row, conflicting, Move, stop, move, clash, move_by, move_at, calc_element_insert_range}
use Rattle.insert_range.specs.declared.range.Against.{Against}
use Rattle.insert_range.specs.declared.range.Bounds.{Bounds}
use Rattle.insert_range.specs.declared.range.Move as step
use Rattle.insert_range.specs.declared.range.Move.TheVariants.{Stop, To, Clash}
use Rattle.insert_range.specs.declared.range.Unplaced.{Unplaced}
use Rattle.insert_range.specs.declared.range.Unplaced.TheVariants.{NoRow, Conflicting}

-- the path order that the code's answer stands for
abbrev pub ordering_is : program_order.Ordering → Ordering
ordering_is Less = Ordering.lt
ordering_is Equal = Ordering.eq
ordering_is Greater = Ordering.gt

abbrev pub move_is : step.Move → Move
move_is Stop = stop
move_is (To b) = move b.first b.last
move_is Clash = clash

-- the bounds behind a move
abbrev pub bounds_after : step.Move → Bounds → Bounds
bounds_after Stop b = b
bounds_after (To c) b = c
bounds_after Clash b = b

-- the move of an element of a name, by how its elements stand to the new one
abbrev pub move_for : Option Against → Mult → ℕ → Bounds → Move
move_for None mult index b = move b.first b.last
move_for (Some x) mult index b = move_by (mode_from x.mode) (ordering_is x.order) (mult_is mult) b.first index

-- the move of an item; a text moves the last place
abbrev pub move_of : Item → Option Against → Mult → ℕ → Bounds → Move
move_of (child e) x mult index b = move_for x mult index b
move_of (text t) x mult index b = move b.first (index + 1)

-- x is how the elements of name n stand to row new in a list of type t
pub record Compares (schema : List ℕ) (t new n : ℕ) (x : Option Against) : Type 0 where
  pub is : (f : Fixed) (p e : ℕ) (mult : Mult) (index : ℕ) (b : Bounds) → f.schema ≡ schema_of schema → t ≡ type_of f p → n ≡ name_of f e
      → mult_is mult ≡ (get_or (schema_of schema).sub_elements new no_sub_element).mult
      → move_for x mult index b ≡ move_at f p (get_or (schema_of schema).sub_elements new no_sub_element) (child e) index b.first b.last

-- the name of an item; of a text, the last one
abbrev pub name_or : List ℕ → ℕ → Item → ℕ
name_or elements last (child e) = get_or (elements_of elements).names e 0
name_or elements last (text t) = last

-- r is the item's move of the bounds, which were before and are after
pub record Moves (a : Item) (x : Option Against) (mult : Mult) (index : ℕ) (before after : Bounds) (r : step.Move) : Type 0 where
  pub is : move_is r ≡ move_of a x mult index before
  pub moved : after ≡ bounds_after r before

abbrev pub range_is : Result Bounds Unplaced → Range
range_is (Ok b) = places b.first b.last
range_is (Err NoRow) = no_row
range_is (Err Conflicting) = conflicting

-- first ≤ last ≤ n
abbrev pub PlacesIn : ℕ → Result Bounds Unplaced → Type 0
PlacesIn n (Ok b) = (b.first ≤ b.last) × (b.last ≤ n)
PlacesIn n (Err e) = Unit {0}

-- r is where an element of the name may stand in the list of p, and its places are places of that list
pub record Ranges (schema elements model : List ℕ) (p n v : ℕ) (r : Result Bounds Unplaced) : Type 0 where
  pub is : (deck : List ℕ) → range_is r ≡ calc_element_insert_range (fixed_in deck schema elements) (model_of model) p n v
  pub within : PlacesIn (length (list_of (model_of model) p)) r

-- Bag, mixed: an element may stand at any place.
abbrev pub AnyPlaceIn : Mode → Type 0
AnyPlaceIn sequence = ⊥
AnyPlaceIn choice = ⊥
AnyPlaceIn bag = Unit {0}
AnyPlaceIn mixed = Unit {0}
AnyPlaceIn characters = ⊥

-- the list of p is of such a mode
abbrev pub AnyPlace : List ℕ → List ℕ → ℕ → Type 0
AnyPlace schema elements p = AnyPlaceIn (type_row (schema_of schema) (get_or (elements_of elements).types p 0)).mode
