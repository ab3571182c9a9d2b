-- What each line keeps of the elements: names, types, texts and trees in their ranges. Assumes nothing.
use mathlib.Core.Bool.{Bool, true, false, false≢true}
use mathlib.Core.List.{List, [], ◌∷◌, ◌++◌}
use mathlib.Core.Path.{◌≡◌, refl, sym}
use Prim.Native.Nat.{ℕ, ◌≤◌, ◌<◌}
use native.Mathlib.Omega.{arith}
use borrow.Author.Tests.{eqb-false, ne_eqb}
use lib.Dec.{eqb}
use Rattle.tables.specs.Cells.{Each}
use Rattle.tables.specs.Limits.{name_limit}
use Rattle.tables.specs.Lists.{any_of, keep}
use Rattle.tables.specs.Records.{Name, TypeNumber, Text, Tree, Elements, add_element, add_text, add_tree}
use Rattle.tables.proofs.Laws.Cells.{each_append, each-imp}
use Rattle.tables.proofs.Laws.Cases.{bool_case}
use Rattle.table_test.specs.ElementsTest.{TextIn}
use Rattle.deck.specs.Load.{nothing}
use Rattle.tables.proofs.Laws.Scans.{any-snoc-false}
use Rattle.state_test.specs.StateTest.{tree_files_distinct}
use Rattle.merge_rules.proofs.Laws.Lists.{any_of-cons, any_of-keep}

-- the schema has so many types, and the deck this size
pub record ElementsInRange (size known : ℕ) (es : Elements) : Type 0 where
  pub names : Each (λ (n : ℕ). n ≤ name_limit) es.names
  pub types : Each (λ (t : ℕ). t < known) es.types
  pub texts : Each (TextIn size) es.texts
  pub trees : tree_files_distinct es.trees ≡ true

-- no element
pub elements-nothing : (size known : ℕ) → ElementsInRange size known nothing.elements
unfolding tree_files_distinct
elements-nothing size known = record { names = tt; types = tt; texts = tt; trees = refl }

-- each tree's file is not that of a later one
pub distinct-first : (t : Tree) (ts : List Tree) → tree_files_distinct (t ∷ ts) ≡ true
    → (any_of (λ (u : Tree). eqb u.file t.file) ts ≡ false) × (tree_files_distinct ts ≡ true)
unfolding tree_files_distinct
distinct-first t ts =
    bool_case (λ (b : Bool). b ≡ true → (any_of (λ (u : Tree). eqb u.file t.file) ts ≡ false) × (tree_files_distinct ts ≡ true))
    (any_of (λ (u : Tree). eqb u.file t.file) ts) (λ _ h. absurd (false≢true h)) (λ k h. (k, h))

-- the trees' files still differ with one tree more, of a file of its own
distinct_snoc : (ts : List Tree) (t : Tree) → tree_files_distinct ts ≡ true → any_of (λ (u : Tree). eqb u.file t.file) ts ≡ false
    → tree_files_distinct (ts ++ (t ∷ [])) ≡ true
unfolding tree_files_distinct any_of
distinct_snoc [] t h new = refl
distinct_snoc (u ∷ ts) t h new =
    let (other, rest) = any_of-cons (λ (v : Tree). eqb v.file t.file) u ts new in
    let differ : eqb t.file u.file ≡ false = ne_eqb _ _ (λ e. eqb-false u.file t.file other (sym e)) in
    let (first, later) = distinct-first u ts h in
    rw (any-snoc-false (λ (v : Tree). eqb v.file u.file) t differ ts, first, tree_files_distinct) (distinct_snoc ts t later rest)

-- the files of those trees that pass a test differ where all do
pub distinct-keep : (t : Tree → Bool) (ts : List Tree) → tree_files_distinct ts ≡ true → tree_files_distinct (keep t ts) ≡ true
unfolding tree_files_distinct keep
distinct-keep t [] h = refl
distinct-keep t (u ∷ ts) h =
    let (first, later) = distinct-first u ts h in
    bool_case (λ (s : List Tree). tree_files_distinct s ≡ true) (t u)
    (λ _. rw (any_of-keep (λ (v : Tree). eqb v.file u.file) t ts first, tree_files_distinct) (distinct-keep t ts later))
    (λ _. distinct-keep t ts later)

module _ {size known : ℕ} {es : Elements} (h : ElementsInRange size known es) where
  -- more types
  pub elements-types : (n : ℕ) → known ≤ n → ElementsInRange size n es
  elements-types n more =
      record {
        names = h.names;
        types = each-imp (λ (t : ℕ). t < known) (λ (t : ℕ). t < n) es.types (λ t k. omega arith) h.types;
        texts = h.texts;
        trees = h.trees;
      }

  -- an element more
  pub elements-element : (n : Name) (t : TypeNumber) (d : ℕ) → n ≤ name_limit → t < known → ElementsInRange size known (add_element es n t d)
  unfolding add_element
  elements-element n t d name type =
      record {
        names = each_append (λ (m : ℕ). m ≤ name_limit) es.names (n ∷ []) h.names (name, tt);
        types = each_append (λ (u : ℕ). u < known) es.types (t ∷ []) h.types (type, tt);
        texts = h.texts;
        trees = h.trees;
      }

  -- a text more
  pub elements-text : (t : Text) → TextIn size t → ElementsInRange size known (add_text es t)
  unfolding add_text
  elements-text t i =
      record { names = h.names; types = h.types; texts = each_append (TextIn size) es.texts (t ∷ []) h.texts (i, tt); trees = h.trees }

  -- a tree more
  pub elements-tree : (t : Tree) → any_of (λ (u : Tree). eqb u.file t.file) es.trees ≡ false → ElementsInRange size known (add_tree es t)
  unfolding add_tree
  elements-tree t new =
      record { names = h.names; types = h.types; texts = h.texts; trees = distinct_snoc es.trees t h.trees new }
