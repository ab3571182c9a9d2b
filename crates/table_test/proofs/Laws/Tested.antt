-- Lent tables that passed their test are what the calls after load need of them. Assumes nothing.
use mathlib.Core.Bool.{true}
use mathlib.Core.List.{List, [], ◌∷◌}
use mathlib.Core.Path.{◌≡◌}
use Prim.Native.Nat.{ℕ, ◌<◌}
use native.Mathlib.Omega.{arith}
use borrow.Author.Tests.{ltb-true}
use lib.ListN.{length, get_or}
use Rattle.tables.specs.Cells.{Each}
use Rattle.tables.specs.Lists.{all_of}
use Rattle.tables.specs.Records.{Item, child, text}
use Rattle.tables.specs.ElementsTable.{elements_of, GoodElements}
use Rattle.tables.specs.ModelTable.{flat, count_of, model_of}
use Rattle.table_test.specs.ModelTest.{item_in_range}
use Rattle.table_test.specs.Passing.{ItemTextIn}
use Rattle.table_test.specs.TablesTest.{TestedTables}
use Rattle.tables.proofs.Laws.Cells.{each-get_d}
use Rattle.tables.proofs.Laws.Scans.{all_head, all_tail}
use Rattle.table_test.specs.Fits.{GoodFixed, LogFits, ModelOver}

-- an element's type is one of so many
pub type-in : (elements : List ℕ) (n e : ℕ) → GoodElements elements → Each (λ (t : ℕ). t < n) (elements_of elements).types
    → e < length (elements_of elements).names → get_or (elements_of elements).types e 0 < n
type-in elements n e g ts h =
    each-get_d (λ (t : ℕ). t < n) (elements_of elements).types e 0 ts (omega (arith, g.sized.same_types))

text_in_lem : (n texts : ℕ) (a : Item) → item_in_range n texts a ≡ true → ItemTextIn texts a
unfolding item_in_range
text_in_lem n texts (child e) h = tt
text_in_lem n texts (text t) h = ltb-true t texts h

texts-in : (n texts : ℕ) (l : List Item) → all_of (item_in_range n texts) l ≡ true → Each (ItemTextIn texts) l
texts-in n texts [] h = tt
texts-in n texts (a ∷ l) h =
    (text_in_lem n texts a (all_head (item_in_range n texts) a l h), texts-in n texts l (all_tail (item_in_range n texts) a l h))

module _ (deck schema elements model log : List ℕ) where
  module _ (t : TestedTables (length deck) schema elements model log) where
    pub fixed-good : GoodFixed deck schema elements
    fixed-good =
        record {
          schema_tested = t.schema_tested;
          elements_good = t.elements_tested.good;
          types_in = t.elements_tested.types_in;
          texts = t.elements_tested.texts;
          trees = t.elements_tested.trees;
        }

    pub model-fits : ModelOver elements model
    model-fits =
        record {
          good = t.model_tested.good;
          same = t.same;
          items = texts-in (count_of (model_of model)) (length (elements_of elements).texts) (flat (model_of model).lists) t.model_tested.items;
        }

    pub log-fits : LogFits (length (elements_of elements).names) log
    log-fits = record { good = t.log_tested.good; entries = t.log_tested.entries }
