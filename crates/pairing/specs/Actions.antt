-- What the code's actions stand for in the rules. Assumes nothing.
use Rattle.std.specs.Prelude.{Option, Some, None, Bool, false, List, ◌≡◌, ℕ, ◌<◌, length, get_or}
use Rattle.tables.specs.Records.{Element, TypeNumber, Model, Fixed, name_of}
use Rattle.merge_rules.specs.Pairing.{identifiable, same_key, Action, merge_equal, merge_unequal, a_only, b_only, unmergeable_parent, action_of}
use Rattle.pairing.specs.declared.action.Action as program
use Rattle.pairing.specs.declared.action.Action.TheVariants.{MergeEqual, MergeUnequal, AOnly, BOnly, UnmergeableParent}
use Rattle.pairing.specs.Keys.{key_by}

-- each number in the list is that of one of n elements
abbrev pub Listed : ℕ → List ℕ → Type 0
Listed n l = (i : ℕ) → i < length l → get_or l i 0 < n

abbrev pub action_is : program.Action → Action
action_is MergeEqual = merge_equal
action_is (MergeUnequal e) = merge_unequal e.0
action_is AOnly = a_only
action_is BOnly = b_only
action_is UnmergeableParent = unmergeable_parent

abbrev pub ActionIn : ℕ → program.Action → Type 0
ActionIn n MergeEqual = Unit {0}
ActionIn n (MergeUnequal e) = e.0 < n
ActionIn n AOnly = Unit {0}
ActionIn n BOnly = Unit {0}
ActionIn n UnmergeableParent = Unit {0}

-- r is the rule's action, its element one of n
pub record Acts (n : ℕ) (r : program.Action) (o : Action) : Type 0 where
  pub is : action_is r ≡ o
  pub within : ActionIn n r

-- the names of a and b are equal, and their keys, item names or definitions, are not
pub record Sought (x : Fixed) (m : Model) (a b : Element) : Type 0 where
  pub name : name_of x a ≡ name_of x b
  pub key : same_key (key_by (identifiable x m a) x m a) (key_by (identifiable x m a) x m b) ≡ false

-- the action that the cursor children alone decide; none where a B sibling is to be sought
abbrev pub Decision : Type 0
Decision = Option program.Action

-- what the cursor children decide: the rule's action, whatever B's other children are, or a search
abbrev pub DecisionIs : ℕ → Fixed → Model → TypeNumber → Element → Element → Decision → Type 0
DecisionIs n x m t a b (Some r) = (splittable : Bool) (bs : List Element) → Acts n r (action_of x m t splittable bs a b)
DecisionIs n x m t a b None = Sought x m a b

pub record Decides (n : ℕ) (x : Fixed) (m : Model) (t : TypeNumber) (a b : Element) (r : Decision) : Type 0 where
  pub is : DecisionIs n x m t a b r

-- r is the rule's action where a sibling of a is sought
abbrev pub Searches : ℕ → Fixed → Model → Bool → List Element → Element → program.Action → Type 0
Searches n x m splittable bs a r = (t : TypeNumber) (b : Element) → Sought x m a b → Acts n r (action_of x m t splittable bs a b)
