-- The walk of a level on the scratch slice: what holds between two steps. Assumes nothing.
use Rattle.std.specs.Prelude.{Bool, true, false, List, ◌++◌, ◌≡◌, ℕ, zero, suc, ◌+◌, ◌-◌, ◌*◌, ◌<◌, ◌≤◌, eqb, ltb, length, get_or, take, drop}
use Rattle.std.proofs.Math.Option.{Option}
use Rattle.tables.specs.Limits.{element_limit, item_limit}
use Rattle.tables.specs.Lists.{any_of, keep}
use Rattle.tables.specs.Records.{Element, TypeNumber, Model, Fixed}
use Rattle.tables.specs.ModelTable.{count_of}
use Rattle.merge_rules.specs.Pairing.{item_name, definition, children_of, Action, merge_equal, a_only, Pair, NewItem, Plan, Walked, planned, unmergeable_in, import_unpaired, action_of, walk}
use Rattle.pairing.specs.declared.plan.Sides.{Sides}
use Rattle.pairing.specs.declared.plan.Cursors.{Cursors}
use Rattle.pairing.specs.declared.plan.Use.{Use}
use Rattle.pairing.specs.declared.plan.Use.TheVariants.{Unused, Imported, ImportedAgain, Paired, PairedAgain}
use Rattle.pairing.specs.declared.action.Action as program
use Rattle.pairing.specs.declared.action.Action.TheVariants.{MergeEqual, MergeUnequal, AOnly, BOnly, UnmergeableParent}
use Rattle.pairing.specs.Actions.{Listed, action_is, ActionIn}
use Rattle.pairing.specs.Keys.{KeyMarks}
use Rattle.pairing.specs.Plans.{plan_up_to, row_elements, row_value, RowsIn}

-- ---- the children of both sides

abbrev pub first_children : Sides → List ℕ → List Element
first_children s w = row_elements w s.rows

abbrev pub second_children : Sides → List ℕ → List Element
second_children s w = take (s.end - s.start) (drop s.start w)

-- as many cells as B has children, from this place on
abbrev pub marks_from : Sides → ℕ → List ℕ → List ℕ
marks_from s at w = take (s.end - s.start) (drop at w)

-- room for the marks of both kinds
pub record MarkRoom (s : Sides) (w : List ℕ) : Type 0 where
  pub order : s.start ≤ s.end
  pub within : s.end + 2 * (s.end - s.start) ≤ length w

-- the marks of the keys of B's children are written there, and nothing before them
pub record WritesMarks (key : Element → Option (List ℕ)) (s : Sides) (at : ℕ) (w w' : List ℕ) : Type 0 where
  pub written : KeyMarks key (second_children s w) (marks_from s at w')
  pub front : take at w' ≡ take at w

-- the marks of the item names of B's children stand behind their numbers, and behind these the marks of their definitions
pub record Marked (x : Fixed) (m : Model) (s : Sides) (w : List ℕ) : Type 0 where
  pub names : KeyMarks (item_name x m) (second_children s w) (marks_from s s.end w)
  pub definitions : KeyMarks (definition x m) (second_children s w) (marks_from s (s.end + (s.end - s.start)) w)

-- they stand there, if so told
abbrev pub MarkedIf : Bool → Fixed → Model → Sides → List ℕ → Type 0
MarkedIf told x m s w = told ≡ true → Marked x m s w

-- the rule's action at child i of A and j of B; left-over A is A-only
unfoldable pub next_action : (Element → Element → Action) → List Element → List Element → ℕ → ℕ → Action
next_action act as' bs i j = elim (ltb j (length bs)) [ true ↦ act (get_or as' i 0) (get_or bs j 0) | false ↦ a_only ]

-- the action is no refusal, and what it names is there
abbrev pub StepIn : Sides → ℕ → program.Action → Type 0
StepIn s j MergeEqual = s.start + j < s.end
StepIn s j (MergeUnequal e) = e.0 < element_limit
StepIn s j AOnly = Unit {0}
StepIn s j BOnly = s.start + j < s.end
StepIn s j UnmergeableParent = ⊥

-- ---- the plan so far

-- the walk that is left, with as many steps as it can take
abbrev pub walk_on : (Element → Element → Action) → ℕ → ℕ → List Element → List Element → List Element → Walked
walk_on act end index as' bs paired = walk act end (length as' + length bs) index as' bs paired

-- the plan, and behind it what is walked
unfoldable pub after : Plan → Walked → Walked
after p (planned q) =
    planned (record { restrictions = p.restrictions ++ q.restrictions; imports = p.imports ++ q.imports; pairs = p.pairs ++ q.pairs })
after p unmergeable_in = unmergeable_in

unfoldable pub pair_uses : Plan → Element → ℕ
pair_uses p e = length (keep (λ (q : Pair). eqb q.b e) p.pairs)

unfoldable pub import_uses : Plan → Element → ℕ
import_uses p e = length (keep (λ (i : NewItem). eqb i.element e) p.imports)

-- of so many pairs and so many imports
unfoldable pub use_of : ℕ → ℕ → Use
use_of zero zero = Unused
use_of zero (suc zero) = Imported
use_of zero (suc (suc imports)) = ImportedAgain
use_of (suc zero) zero = Paired
use_of (suc zero) (suc imports) = PairedAgain
use_of (suc (suc pairs)) imports = PairedAgain

-- after one import more of what is in no pair
abbrev pub imported_again : Use → Use
imported_again Unused = Imported
imported_again Imported = ImportedAgain
imported_again ImportedAgain = ImportedAgain
imported_again Paired = ImportedAgain
imported_again PairedAgain = ImportedAgain

-- after one pair more
abbrev pub paired_again : Use → Use
paired_again Unused = Paired
paired_again Imported = PairedAgain
paired_again ImportedAgain = PairedAgain
paired_again Paired = PairedAgain
paired_again PairedAgain = PairedAgain

-- in a pair
abbrev pub is_paired : Use → Bool
is_paired Unused = false
is_paired Imported = false
is_paired ImportedAgain = false
is_paired Paired = true
is_paired PairedAgain = true

-- used more than once
abbrev pub is_repeated : Use → Bool
is_repeated Unused = false
is_repeated Imported = false
is_repeated ImportedAgain = true
is_repeated Paired = false
is_repeated PairedAgain = true

-- the array tells the uses of each element in the plan
pub record Counted (p : Plan) (used : List Use) : Type 0 where
  pub size : length used ≡ element_limit
  pub is : (e : ℕ) → e < element_limit → get_or used e Unused ≡ use_of (pair_uses p e) (import_uses p e)

-- p so far, and the walk from child i of A and j of B on, are the whole
pub record Planning (act : Element → Element → Action) (end : ℕ) (whole : Walked) (p : Plan) (as' bs : List Element) (i j : ℕ) : Type 0 where
  pub paired : List Element
  pub same : (e : Element) → any_of (eqb e) paired ≡ ltb 0 (pair_uses p e)
  pub rest : after p (walk_on act end i (drop i as') (drop j bs) paired) ≡ whole

-- ---- one step, and many

-- room for the marks, and for the walk from child i of A and j of B on, k children in the B-only list
pub record WorkRoom (s : Sides) (w : List ℕ) (i j k : ℕ) : Type 0 where
  pub first : i ≤ s.rows
  pub second : s.start + j ≤ s.end
  pub new : k ≤ j
  pub behind : 2 * (s.rows + (s.end - s.start)) ≤ s.start
  pub within : s.end + 2 * (s.end - s.start) ≤ length w
  pub few_first : s.rows ≤ item_limit
  pub few_second : s.end - s.start ≤ item_limit
  pub small : Listed element_limit (second_children s w)
  pub unpaired : (m : ℕ) → i ≤ m → m < s.rows → row_value w m ≡ 0

-- the numbers are those of n elements
pub record Ranged (n : ℕ) (s : Sides) (w : List ℕ) (k : ℕ) : Type 0 where
  pub rows : RowsIn n w s.rows k
  pub second : Listed n (second_children s w)

-- from child i of A and j of B the walk came to i' and j', if P holds of the rule's action and end, and Q of the number of elements
pub record Walks (s : Sides) (P : (Element → Element → Action) → ℕ → Type 0) (Q : ℕ → Type 0) (w : List ℕ) (i j k : ℕ) (w' : List ℕ) (used : List Use) (i' j' k' : ℕ) : Type 0 where
  pub room : WorkRoom s w' i' j' k'
  pub counted : Counted (plan_up_to s.rows i' k' w') used
  pub behind : drop s.start w' ≡ drop s.start w
  pub ranged : (n : ℕ) → Q n → Ranged n s w k → Ranged n s w' k'
  pub plans : (act : Element → Element → Action) (end : ℕ) (whole : Walked) → P act end
      → Planning act end whole (plan_up_to s.rows i k w) (first_children s w) (second_children s w) i j
      → Planning act end whole (plan_up_to s.rows i' k' w') (first_children s w') (second_children s w') i' j'

-- one step by an action
abbrev pub Advances : Sides → program.Action → List ℕ → Cursors → List ℕ → List Use → Cursors → Type 0
Advances s o w c w' used r =
    Walks s (λ (act : Element → Element → Action) (end : ℕ). action_is o ≡ next_action act (first_children s w) (second_children s w) c.a c.b)
    (λ (n : ℕ). ActionIn n o) w c.a c.b c.new w' used r.a r.b r.new

-- the walk of the rule passes child j of B by, or imports it at this position
abbrev pub StepPasses : (Element → Element → Action) → ℕ → List Element → List Element → ℕ → ℕ → ℕ → Type 0
StepPasses act end as' bs i j position =
    (paired : List Element)
    → walk_on act end i (drop i as') (drop j bs) paired ≡ import_unpaired paired (get_or bs j 0) position (walk_on act end i (drop i as') (drop (j + 1) bs) paired)

-- one child of B passed
abbrev pub Imports : Sides → ℕ → List ℕ → Cursors → List ℕ → List Use → ℕ → Type 0
Imports s position w c w' used r =
    Walks s (λ (act : Element → Element → Action) (end : ℕ). StepPasses act end (first_children s w) (second_children s w) c.a c.b position)
    (λ (n : ℕ). position ≤ item_limit) w c.a c.b c.new w' used c.a (c.b + 1) r

-- left-over B
abbrev pub Finishes : Sides → ℕ → List ℕ → Cursors → List ℕ → List Use → ℕ → Type 0
Finishes s position w c w' used r =
    Walks s (λ (act : Element → Element → Action) (end : ℕ). end ≡ position) (λ (n : ℕ). position ≤ item_limit) w c.a c.b c.new w' used
    c.a (s.end - s.start) r

-- the children of a and b of this model, before the walk
pub record Laid (m : Model) (a b : Element) (s : Sides) (w : List ℕ) : Type 0 where
  pub first : first_children s w ≡ children_of m a
  pub second : second_children s w ≡ children_of m b
  pub room : WorkRoom s w 0 0 0
  pub ranged : Ranged (count_of m) s w 0

-- one child on each side, which the rule pairs, whatever else
pub record Alone (x : Fixed) (m : Model) (t : TypeNumber) (s : Sides) (w : List ℕ) : Type 0 where
  pub first : s.rows ≡ 1
  pub second : s.end - s.start ≡ 1
  pub equal : (splittable : Bool) (bs : List Element) → merge_equal ≡ action_of x m t splittable bs (get_or w 0 0) (get_or w s.start 0)
