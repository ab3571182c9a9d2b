-- Laws of a file's tree: the search for it, and its merge into the model's root. Assumes nothing.
use Rattle.std.specs.Prelude as program
use Rattle.std.specs.Prelude.{Some, None, Result, Ok}
use mathlib.Core.Bool.{Bool, true, false}
use mathlib.Core.List.{List}
use mathlib.Core.Option.{Option, some}
use mathlib.Core.Path.{◌≡◌, sym, ◌∙◌}
use Prim.Native.Nat.{ℕ, suc}
use borrow.Author.Tests.{eqb-true}
use lib.ListN.{get_or}
use Rattle.tables.specs.Cells.{Each}
use Rattle.tables.specs.ElementsTable.{elements_of, no_tree}
use Rattle.tables.specs.FileSets.{holds, waiting_tree}
use Rattle.tables.specs.Limits.{depth_limit}
use Rattle.tables.specs.Lists.{first_of}
use Rattle.tables.specs.ModelTable.{model_of}
use Rattle.tables.specs.Records.{FileSet, Tree, Fixed, State, root, set_of}
use Rattle.tables.specs.declared.numbers.Element.{Element}
use Rattle.tables.proofs.Laws.Cells.{each-get_d}
use Rattle.schema_calls.specs.Calls.{Finds, tree_matches}
use Rattle.schema_calls.proofs.Laws.Scans.{found-at, found_within, found-missing}
use Rattle.table_test.specs.ElementsTest.{TreeIn}
use Rattle.state_test.specs.StateTest.{fixed_in}
use Rattle.merge_rules.proofs.Laws.Lists.{first_of-some}
use Rattle.merge_rules.specs.Calls.{merge_tree}
use Rattle.merge_rules.specs.Level.{merge_element}
use Rattle.merge_rules.specs.Log.{extend}
use Rattle.merge_rules.specs.Refusals.{Outcome}
use Rattle.merge_log.specs.Answers.{outcome_is}
use Rattle.merge_log.specs.declared.refusals.Halt.{Halt}
use Rattle.imports.proofs.Laws.Imports.{then-done, then-stop}
use Rattle.merge.specs.Calls.{FindsTree}

-- ---- the search

module _ (n f : ℕ) (ts : List Tree) {q : program.Option ℕ} {o : Option Tree} (s : Finds no_tree ts q o) (first : o ≡ first_of (tree_matches f) ts) where
  pub tree-found : {i : ℕ} (e : Element) → q ≡ Some i → Each (TreeIn n) ts → e.0 ≡ (get_or ts i no_tree).root → FindsTree n f (Some e) o
  tree-found {i} e h low r =
      let at : o ≡ some (get_or ts i no_tree) = found-at s h in
      let within = each-get_d (TreeIn n) ts i no_tree low (found_within s h) in
      let file : (get_or ts i no_tree).file ≡ f = eqb-true _ _ (first_of-some (tree_matches f) ts (sym first ∙ at)).0 in
      record {
        is = rw (r, ← file) (sym at);
        within = (rw (← file) within.0, rw r within.1);
      }

  pub tree-missing : q ≡ None → FindsTree n f None o
  tree-missing h = record { is = sym (found-missing s h); within = tt }

-- ---- its file in the root's set, or outside it

module _ (deck schema elements model : List ℕ) (n f : ℕ) where
  pub not-waiting : (s : FileSet) (b : Bool) → s ≡ set_of (model_of model) root → b ≡ holds s f → b ≡ true
      → FindsTree n f None (waiting_tree (fixed_in deck schema elements) (model_of model) f)
  unfolding waiting_tree
  not-waiting s b a h t =
      let z : holds (set_of (model_of model) root) f ≡ true = rw (← a) (sym h ∙ t) in
      record { is = rw (waiting_tree, z); within = tt }

  pub maybe-waiting : (s : FileSet) (b : Bool) (r : program.Option Element) → s ≡ set_of (model_of model) root → b ≡ holds s f → b ≡ false
      → FindsTree n f r (first_of (tree_matches f) (elements_of elements).trees) → FindsTree n f r (waiting_tree (fixed_in deck schema elements) (model_of model) f)
  unfolding waiting_tree
  maybe-waiting s b r a h t g =
      let z : holds (set_of (model_of model) root) f ≡ false = rw (← a) (sym h ∙ t) in
      record { is = rw (waiting_tree, z) g.is; within = g.within }

-- ---- its merge

module _ (x : Fixed) (f b : ℕ) (s t : State) (files : FileSet) (o : Result (Unit {0}) Halt) (same : files ≡ set_of s.model root)
    (is : outcome_is o t ≡ merge_element (suc depth_limit) x f files root b s) where
  pub tree-stop : (o ≡ Ok tt → ⊥) → outcome_is o t ≡ merge_tree x (record { file = f; root = b }) s
  unfolding merge_tree
  tree-stop n = then-stop t (extend root f) o (rw same at is) n

  pub tree-done : o ≡ Ok tt → {q : Outcome} → q ≡ extend root f t → q ≡ merge_tree x (record { file = f; root = b }) s
  unfolding merge_tree
  tree-done d e = e ∙ sym (then-done t (extend root f) o (rw same at is) d)
