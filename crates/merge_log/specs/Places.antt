-- The place of an element in a content list, as the code answers it. Assumes nothing.
use Rattle.std.specs.Prelude.{Bool, false, List, ◌≡◌, ℕ, eqb, length}
use Rattle.std.proofs.Math.Option.{Option, none, some}
use Rattle.tables.specs.Records.{Element, Item, child, text}
use Rattle.schema_calls.specs.Calls.{FoundWithin}
use Rattle.std.specs.Prelude as program_option
use Rattle.std.specs.Prelude.{Some, None}
use Rattle.merge_rules.specs.Log.{first_place_of}

-- the item is the element
abbrev pub is_child : Element → Item → Bool
is_child e (child c) = eqb c e
is_child e (text t) = false

abbrev pub place_is : program_option.Option ℕ → Option ℕ
place_is (Some i) = some i
place_is None = none

-- r is the element's first place in the list
pub record FirstPlace (e : Element) (l : List Item) (r : program_option.Option ℕ) : Type 0 where
  pub is : place_is r ≡ first_place_of e l
  pub within : FoundWithin (length l) r
