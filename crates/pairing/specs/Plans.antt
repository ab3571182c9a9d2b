-- A level's plan in the scratch slice. For each child of A a row of two cells, its number and its mate's number + 1, or 0; then the B-only
-- list, rows of two cells, element and position. Assumes nothing.
use Rattle.std.specs.Prelude.{Result, Ok, Err, List, [], ◌∷◌, ◌++◌, ◌≡◌, ℕ, zero, suc, ◌+◌, ◌*◌, ◌<◌, ◌≤◌, length, get_or}
use Rattle.std.proofs.Math.Option.{Option, none, some}
use Rattle.tables.specs.Limits.{item_limit}
use Rattle.tables.specs.Records.{Element, Version, Model, Fixed}
use Rattle.merge_rules.specs.Pairing.{children_of, Pair, NewItem, Plan, Walked, planned, unmergeable_in, walk_level, first_used_twice}
use Rattle.pairing.specs.declared.plan.Rows.{Rows}
use Rattle.pairing.specs.declared.plan.Unplanned.{Unplanned}
use Rattle.pairing.specs.declared.plan.Unplanned.TheVariants.{UsedTwice, Unmergeable}

-- ---- rows

-- what f gives of n numbers, from i on
unfoldable pub spread : {A : Type 0} → (ℕ → List A) → ℕ → ℕ → List A
spread f i zero = []
spread f i (suc n) = f i ++ spread f (suc i) n

-- a child of A with no mate is A-only,
unfoldable pub restriction_of : Element → ℕ → List Element
restriction_of a zero = a ∷ []
restriction_of a (suc b) = []

-- one with a mate is paired
unfoldable pub pair_of : Element → ℕ → List Pair
pair_of a zero = []
pair_of a (suc b) = record { a = a; b = b } ∷ []

-- the two cells of row i
abbrev pub row_element : List ℕ → ℕ → ℕ
row_element w i = get_or w (2 * i) 0

abbrev pub row_value : List ℕ → ℕ → ℕ
row_value w i = get_or w (2 * i + 1) 0

abbrev pub restriction_in : List ℕ → ℕ → List Element
restriction_in w i = restriction_of (row_element w i) (row_value w i)

abbrev pub pair_in : List ℕ → ℕ → List Pair
pair_in w i = pair_of (row_element w i) (row_value w i)

abbrev pub import_in : List ℕ → ℕ → List NewItem
import_in w i = record { element = row_element w i; position = row_value w i } ∷ []

-- the plan of the first i of na rows of A, and of k rows of the B-only list
abbrev pub plan_up_to : ℕ → ℕ → ℕ → List ℕ → Plan
plan_up_to na i k w =
    record { restrictions = spread (restriction_in w) 0 i; imports = spread (import_in w) na k; pairs = spread (pair_in w) 0 i }

-- the plan of na rows of A and ni rows of the B-only list
abbrev pub plan_in : ℕ → ℕ → List ℕ → Plan
plan_in na ni w = plan_up_to na na ni w

-- the elements of the first n rows
abbrev pub row_elements : List ℕ → ℕ → List Element
row_elements w n = spread (λ (i : ℕ). row_element w i ∷ []) 0 n

-- ---- the plan of a level

-- a plan; refusal 8 with the B child; refusal 6 with the A parent
pub data LevelPlan : Type 0 where
  level_plan : Plan → LevelPlan
  child_used_twice : Element → LevelPlan
  level_unmergeable : LevelPlan

unfoldable pub or_used_twice : Plan → Option Element → LevelPlan
or_used_twice p none = level_plan p
or_used_twice p (some c) = child_used_twice c

-- the walk over B children, and whether it uses one twice
unfoldable pub checked_plan : List Element → Walked → LevelPlan
checked_plan bs (planned p) = or_used_twice p (first_used_twice p bs)
checked_plan bs unmergeable_in = level_unmergeable

unfoldable pub plan_level : Fixed → Model → Version → Element → Element → LevelPlan
plan_level x m v a b = checked_plan (children_of m b) (walk_level x m v a b)

-- the code's answer
abbrev pub Planned : Type 0
Planned = Result Rows Unplanned

-- what it stands for, with the scratch slice that it left
abbrev pub planned_is : Planned → List ℕ → LevelPlan
planned_is (Ok r) w = level_plan (plan_in r.first r.new w)
planned_is (Err (UsedTwice e)) w = child_used_twice e.0
planned_is (Err Unmergeable) w = level_unmergeable

-- na rows of A and ni rows of the B-only list, of n elements
pub record RowsIn (n : ℕ) (w : List ℕ) (na ni : ℕ) : Type 0 where
  pub room : 2 * (na + ni) ≤ length w
  pub few : na + ni ≤ 2 * item_limit
  pub element : (i : ℕ) → i < na + ni → row_element w i < n
  pub mate : (i : ℕ) → i < na → row_value w i ≤ n
  pub place : (i : ℕ) → i < na + ni → row_value w i ≤ item_limit

abbrev pub PlanIn : ℕ → Planned → List ℕ → Type 0
PlanIn n (Ok r) w = RowsIn n w r.first r.new
PlanIn n (Err e) w = Unit {0}

-- ---- children copied

-- the first r rows of so many cells have the list's elements, each in its row's first cell, and 0 in the cells behind it
pub record CopiedRows (width : ℕ) (w : List ℕ) (r : ℕ) (l : List Element) : Type 0 where
  pub is : spread (λ (i : ℕ). get_or w (width * i) 0 ∷ []) 0 r ≡ l
  pub within : width * r ≤ length w
  pub empty : (i c : ℕ) → i < r → 0 < c → c < width → get_or w (width * i + c) 0 ≡ 0
