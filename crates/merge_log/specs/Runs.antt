-- Items that are to leave a list: how a rollback puts off what it takes out. Assumes nothing.
use Rattle.std.specs.Prelude.{Bool, true, List, ◌≡◌, ℕ, ◌+◌, ◌-◌, ◌≤◌, ◌<◌, length, get_or}
use Rattle.tables.specs.ModelTable.{model_of, GoodModel}
use Rattle.tables.specs.Records.{Element, child, Model, list_of, remove_items}
use Rattle.table_test.specs.Fits.{KeepsModel}
use Rattle.table_test.specs.ModelTest.{model_once}
use Rattle.merge_log.specs.Places.{is_child}
use Rattle.merge_log.specs.declared.log.Run.{Run}

-- the model without them
abbrev pub without_run : Run → Model → Model
without_run r m = remove_items m r.p.0 r.i r.k

-- they stand in their list
abbrev pub RunIn : Model → Run → Type 0
RunIn m r = r.i + r.k ≤ length (list_of m r.p.0)

-- the element e of p's list stands right before them
pub record StandsBefore (m : Model) (r : Run) (p e : Element) : Type 0 where
  pub same : r.p.0 ≡ p
  pub some : 0 < r.i
  pub is : is_child e (get_or (list_of m p) (r.i - 1) (child 0)) ≡ true

-- if it is said, no list has an element twice
abbrev pub OnceIf : Bool → Model → Type 0
OnceIf o m = o ≡ true → model_once m ≡ true

-- a table, without q, has what f makes of another one without r
pub record Leads (f : Model → Model) (o : Bool) (r q : Run) (xs ys : List ℕ) : Type 0 where
  pub good : GoodModel ys
  pub within : RunIn (model_of ys) q
  pub once : OnceIf o (model_of ys)
  pub is : without_run q (model_of ys) ≡ f (without_run r (model_of xs))
  pub keeps : KeepsModel xs ys
