-- What holds of every state that a list of calls reaches from a load: it is sound, and the model and each waiting tree are trees by their
-- parents. Assumes nothing.
use mathlib.Core.Bool.{false}
use mathlib.Core.Option.{none, some}
use mathlib.Core.Path.{◌≡◌}
use Rattle.tables.specs.FileSets.{holds, loaded_files}
use Rattle.tables.specs.Records.{Element, Tree, child, Model, State, Fixed, root, parent_of, list_of}
use Rattle.merge_rules.specs.Sound.{In, Sound}

-- p is r, or its chain of parents reaches r
pub data Under (m : Model) (r : Element) : Element → Type 0 where
  here : {p : Element} → p ≡ r → Under m r p
  below : {p q : Element} → parent_of m p ≡ some q → Under m r q → Under m r p

-- p is the parent of all that its list holds
abbrev pub Owns : Model → Element → Type 0
Owns m p = (e : Element) → In (child e) (list_of m p) → parent_of m e ≡ some p

-- ---- the whole

-- sound, and trees by their parents: the model, and each tree whose file is not loaded
pub record Inv (x : Fixed) (s : State) : Type 0 where
  pub sound : Sound x s
  pub root_top : parent_of s.model root ≡ none
  pub tree_top : (t : Tree) → In t x.elements.trees → parent_of s.model t.root ≡ none
  pub model : (p : Element) → Under s.model root p → Owns s.model p
  pub waiting : (t : Tree) → In t x.elements.trees → holds (loaded_files s.model) t.file ≡ false
      → (p : Element) → Under s.model t.root p → Owns s.model p
