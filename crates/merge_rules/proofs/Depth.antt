-- 32 levels never run out on lent tables that pass refusal 0. Assumes nothing.
use mathlib.Core.Bool.{true, and-eq-true_iff}
use mathlib.Core.List.{List, [], ◌∷◌}
use mathlib.Core.Path.{◌≡◌, sym, ◌∙◌}
use Prim.Native.Nat.{ℕ, zero, suc, ◌≤◌}
use native.Mathlib.Omega.{arith}
use borrow.Author.Tests.{eqb-true}
use lib.Dec.{eqb}
use lib.ListN.{get_or}
use Rattle.tables.specs.Cells.{Each}
use Rattle.tables.specs.Limits.{depth_limit}
use Rattle.tables.specs.Lists.{all_of}
use Rattle.tables.specs.Records.{Element, Tree, Fixed, root, depth_of, type_of}
use Rattle.tables.specs.ElementsTable.{elements_of}
use Rattle.state_test.specs.StateTest.{root_valid, roots_valid, lent_tables_pass, fixed_in, state_in, Shallow}
use Rattle.state_test.proofs.Laws.Passed.{valid-state, listed-deeper}
use Rattle.tables.proofs.Laws.Scans.{all_in}
use Rattle.state_test.proofs.Laws.States.{passed-tables}
use Rattle.merge_rules.specs.Depth.{LevelsSuffice}
use Rattle.merge_rules.specs.Sound.{In}
use Rattle.merge_rules.proofs.Laws.Depths.{levels-agree}

-- what holds of each entry and of the default holds at every place
each-place : {A : Type 0} (P : A → Type 0) (l : List A) (d : A) → Each P l → P d → (i : ℕ) → P (get_or l i d)
each-place P [] d each default i = default
each-place P (x ∷ l) d each default zero = each.0
each-place P (x ∷ l) d each default (suc i) = each-place P l d each.1 default i

module _ (deck schema elements model log : List ℕ) (pass : lent_tables_pass deck schema elements model log ≡ true) where
  abbrev fixed : Fixed
  fixed = fixed_in deck schema elements

  shallow : (e : Element) → depth_of fixed e ≤ depth_limit
  shallow e = each-place Shallow (elements_of elements).depths 0 (passed-tables deck schema elements model log pass).elements_tested.depths (omega arith) e

  root-depth : (e : Element) → root_valid fixed e ≡ true → depth_of fixed e ≡ 0
  unfolding root_valid
  root-depth e h = eqb-true _ _ ((and-eq-true_iff (eqb (depth_of fixed e) 0) (eqb (type_of fixed e) 0)).0 h).0

  roots : (root_valid fixed root ≡ true) × (all_of (λ (t : Tree). root_valid fixed t.root) (elements_of elements).trees ≡ true)
  unfolding roots_valid
  roots = (and-eq-true_iff (root_valid fixed root) _).0 (valid-state deck schema elements model log pass).roots

  model-root : depth_of fixed root ≡ 0
  model-root = root-depth root roots.0

  tree-root : (t : Tree) → In t (elements_of elements).trees → depth_of fixed t.root ≡ 0
  tree-root t i = root-depth t.root (all_in (λ (u : Tree). root_valid fixed u.root) (elements_of elements).trees roots.1 t i)

pub levels-suffice : LevelsSuffice
levels-suffice deck schema elements model log pass t i files more le =
    let x = fixed_in deck schema elements in
    (levels-agree x (shallow deck schema elements model log pass) t.file (suc depth_limit) more le root t.root
    (model-root deck schema elements model log pass ∙ sym (tree-root deck schema elements model log pass t i))
    (omega arith)).same files (state_in model log) (listed-deeper deck schema elements model log pass)
