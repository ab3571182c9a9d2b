-- Imports into places that are made for them, and imports that are put in together. Assumes nothing.
use Rattle.std.specs.Prelude.{Result, Ok, Bool, true, List, ◌∷◌, ◌≡◌, ℕ, ◌+◌, ◌-◌, ◌≤◌, ◌<◌, length}
use Rattle.std.proofs.Math.Option.{some}
use Rattle.tables.specs.FileSets.{with_file}
use Rattle.tables.specs.Limits.{item_limit}
use Rattle.tables.specs.LogTable.{log_of, HoldsLog}
use Rattle.tables.specs.ModelTable.{model_of, HoldsModel}
use Rattle.tables.specs.Records.{Element, FileNumber, child, Model, import, State, parent_of, set_of, list_of, put_parent, put_set, put_item, remove_items, content_items}
use Rattle.table_test.specs.Fits.{KeepsState}
use Rattle.state_test.specs.StateTest.{fixed_in}
use Rattle.merge_rules.specs.Import.{clamp, import_single_item}
use Rattle.pairing.specs.Plans.{row_value}
use Rattle.merge_log.specs.Answers.{outcome_is}
use Rattle.merge_log.specs.declared.log.Run.{Run}
use Rattle.merge_log.specs.declared.refusals.Halt.{Halt}

-- ---- one element

-- e at this place of p's list, in place of what stood there
abbrev pub entered : FileNumber → Element → Element → ℕ → Model → Model
entered f p e at m = put_set (put_parent (put_item m p at (child e)) e (some p)) e (with_file (set_of m e) f)

pub record Enters (f : FileNumber) (p e : Element) (at : ℕ) (m l m' l' : List ℕ) : Type 0 where
  pub model : HoldsModel m' (entered f p e at (model_of m))
  pub log : HoldsLog l' (import e p (parent_of (model_of m) e) (set_of (model_of m) e) ∷ log_of l)
  pub keeps : KeepsState m l m' l'

-- the state of two tables, without k items of p's list, the first of them at place i
abbrev pub state_without : Element → ℕ → ℕ → List ℕ → List ℕ → State
state_without p i k m l = record { model = remove_items (model_of m) p i k; log = log_of l }

-- the run's first place takes e: its import into the list without the run
pub record ImportsInto (schema elements : List ℕ) (f : FileNumber) (v : ℕ) (r : Run) (e : Element) (o : Result (Unit {0}) Halt) (m l m' l' : List ℕ) : Type 0 where
  pub is : (deck : List ℕ) (wanted : ℕ) → clamp wanted 0 (length (list_of (model_of m) r.p.0) - r.k) ≡ r.i
      → outcome_is o (state_without r.p.0 (r.i + 1) (r.k - 1) m' l')
      ≡ import_single_item (fixed_in deck schema elements) f v r.p.0 e wanted (state_without r.p.0 r.i r.k m l)
  -- no conflict: an answer that is not done brings no state
  pub stateless : (s t : State) → (o ≡ Ok tt → ⊥) → outcome_is o s ≡ outcome_is o t
  pub long : length (list_of (model_of m') r.p.0) ≡ length (list_of (model_of m) r.p.0)
  pub keeps : KeepsState m l m' l'

-- ---- rows of the B-only list

-- where row i goes in a list of n items that takes it at any place
abbrev pub row_place : List ℕ → ℕ → ℕ → ℕ → ℕ
row_place w na i n = clamp (row_value w (na + i) + i) 0 n

-- k rows from i on go one behind the other into such a list, the first of them at this place
abbrev pub FollowOn : List ℕ → ℕ → ℕ → ℕ → ℕ → ℕ → Type 0
FollowOn w na i k n at = (j : ℕ) → j < k → row_place w na (i + j) (n + j) ≡ at + j

pub record RunOf (w : List ℕ) (na ni i n room k : ℕ) : Type 0 where
  pub some : 0 < k
  pub within : i + k ≤ ni
  pub fits : 1 < k → k ≤ room
  pub follow : FollowOn w na i k n (row_place w na i n)

-- there is room for k rows from i on in the list of p, and they go one behind the other
pub record Together (m w : List ℕ) (na i k : ℕ) (p : Element) : Type 0 where
  pub room : content_items (model_of m) + k ≤ item_limit
  pub follow : FollowOn w na i k (length (list_of (model_of m) p)) (row_place w na i (length (list_of (model_of m) p)))

-- k of ni rows from i on; more than one only if any place will do
pub record RowsTogether (m w : List ℕ) (na ni i : ℕ) (p : Element) (any : Bool) (k : ℕ) : Type 0 where
  pub some : 0 < k
  pub within : i + k ≤ ni
  pub many : 1 < k → (any ≡ true) × Together m w na i k p
