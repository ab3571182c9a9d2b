-- What lent tables that pass refusal 0 have beyond their own test. Assumes nothing.
use mathlib.Core.Bool.{true, ◌&&◌, and-eq-true_iff, false≢true}
use mathlib.Core.List.{List, Memᴰ}
use mathlib.Core.Path.{◌≡◌, ◌∙◌}
use Prim.Native.Nat.{ℕ, suc, ◌<◌}
use native.Mathlib.Nat.{zero-add}
use borrow.Author.Tests.{eqb-true}
use lib.Dec.{eqb}
use lib.ListN.{length}
use Rattle.tables.specs.Records.{Element, child, Fixed, State, depth_of, list_of}
use Rattle.tables.specs.ModelTable.{count_of, model_of}
use Rattle.table_test.specs.TablesTest.{tables_pass}
use Rattle.state_test.specs.StateTest.{schema_valid, root_set_stored, files_declared, roots_valid, item_valid, lists_valid, state_valid, lent_tables_pass, fixed_in, state_in}
use Rattle.state_test.proofs.Laws.Files.{root_set_there, no-root-set-fails}
use Rattle.tables.proofs.Laws.Cases.{bool-split}
use Rattle.tables.proofs.Laws.Scans.{all_in}
use Rattle.state_test.proofs.Laws.Roots.{list_at}
use Rattle.state_test.proofs.Laws.States.{passed-tables}

-- what a valid state is
pub record ValidState (x : Fixed) (s : State) : Type 0 where
  pub schema : schema_valid x.schema ≡ true
  pub files : files_declared x s ≡ true
  pub roots : roots_valid x ≡ true
  pub lists : lists_valid x 0 s.model.lists ≡ true

module _ (deck schema es m log : List ℕ) (p : lent_tables_pass deck schema es m log ≡ true) where
  pub valid-state : ValidState (fixed_in deck schema es) (state_in m log)
  unfolding lent_tables_pass state_valid
  valid-state =
      let x = fixed_in deck schema es in
      let s = state_in m log in
      let a = schema_valid x.schema in
      let b = files_declared x s in
      let c = roots_valid x in
      let all = ((and-eq-true_iff (tables_pass (length deck) schema es m log) (state_valid x s)).0 p).1 in
      let (three, lists) = (and-eq-true_iff (a && b && c) (lists_valid x 0 s.model.lists)).0 all in
      let (two, roots) = (and-eq-true_iff (a && b) c).0 three in
      let (rules, files) = (and-eq-true_iff a b).0 two in
      record { schema = rules; files = files; roots = roots; lists = lists }

  -- each listed element is one deeper than its list's owner
  pub listed-deeper : (o e : Element) → Memᴰ (child e) (list_of (model_of m) o)
      → depth_of (fixed_in deck schema es) e ≡ suc (depth_of (fixed_in deck schema es) o)
  unfolding item_valid
  listed-deeper o e i =
      let x = fixed_in deck schema es in
      let h = all_in (item_valid x o) (list_of (model_of m) o) (rw (zero-add o) at (list_at x 0 (model_of m).lists o valid-state.lists)) (child e) i in
      eqb-true (depth_of x e) (suc (depth_of x o)) ((and-eq-true_iff (eqb (depth_of x e) (suc (depth_of x o))) _).0 h).0

  -- the model has a root
  pub root-there : 0 < count_of (model_of m)
  root-there =
      let x = fixed_in deck schema es in
      let s = state_in m log in
      let sets = (passed-tables deck schema es m log p).model_tested.good.sized.sets in
      let stored : root_set_stored (model_of m) ≡ true =
      bool-split (root_set_stored (model_of m)) (λ e. e) (λ e. absurd (false≢true (no-root-set-fails x s e ∙ valid-state.files)))
      in
      root_set_there (model_of m) sets stored
