-- What printing asks of the tables that it reads. Assumes nothing.
use Rattle.std.specs.Prelude.{List, ◌++◌, ◌≡◌, ℕ, ◌≤◌, ◌<◌, length, get_or}
use Rattle.tables.specs.Bytes.{bytes}
use Rattle.tables.specs.Limits.{depth_limit}
use Rattle.tables.specs.Records.{Text, enum_number, Item, child, text, Fixed, list_of}
use Rattle.tables.specs.ElementsTable.{elements_of, GoodElements, no_tree}
use Rattle.tables.specs.ModelTable.{count_of, model_of, GoodModel}
use Rattle.table_test.specs.ElementsTest.{TextIn}
use Rattle.merge_rules.specs.Program.{kind_of_text, value_of_text}

-- the last two fields of a C line, with its LF
abbrev pub value_end : Fixed → Text → List ℕ
value_end x t = (kind_of_text t ++ bytes ",") ++ (value_of_text x t ++ bytes "\n")

-- every number that printing reads is in the range of what it names
pub record Readable (deck elements model : List ℕ) : Type 0 where
  pub elements_good : GoodElements elements
  pub model_good : GoodModel model
  pub some : 0 < count_of (model_of model)
  pub same : count_of (model_of model) ≡ length (elements_of elements).names
  pub low : (e : ℕ) → e < count_of (model_of model) → get_or (elements_of elements).depths e 0 ≤ depth_limit
  pub strings : (t : ℕ) → t < length (elements_of elements).texts → TextIn (length deck) (get_or (elements_of elements).texts t (enum_number 0))
  pub texts : (e i t : ℕ) → i < length (list_of (model_of model) e) → get_or (list_of (model_of model) e) i (child 0) ≡ text t
      → t < length (elements_of elements).texts
  pub roots : (t : ℕ) → t < length (elements_of elements).trees → (get_or (elements_of elements).trees t no_tree).root < count_of (model_of model)

-- an item whose number is in the range of what it names
abbrev pub ItemIn : List ℕ → List ℕ → Item → Type 0
ItemIn elements model (child e) = e < count_of (model_of model)
ItemIn elements model (text t) = t < length (elements_of elements).texts
