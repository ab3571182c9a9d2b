-- What the calls after load need of lent tables that passed their test. Assumes nothing.
use Rattle.std.specs.Prelude.{List, ◌≡◌, ℕ, ◌<◌, length}
use Rattle.tables.specs.Cells.{Each}
use Rattle.tables.specs.ElementsTable.{elements_of, GoodElements}
use Rattle.tables.specs.LogTable.{log_of, GoodLog}
use Rattle.tables.specs.ModelTable.{flat, count_of, model_of, GoodModel}
use Rattle.tables.specs.SchemaTable.{schema_of}
use Rattle.table_test.specs.ElementsTest.{TextIn, TreeIn}
use Rattle.table_test.specs.LogTest.{EntryIn}
use Rattle.table_test.specs.Passing.{ItemTextIn}
use Rattle.table_test.specs.SchemaTest.{TestedSchema}

-- the deck and the tables that no call after load changes
pub record GoodFixed (deck schema elements : List ℕ) : Type 0 where
  pub schema_tested : TestedSchema schema
  pub elements_good : GoodElements elements
  pub types_in : Each (λ (t : ℕ). t < length (schema_of schema).types) (elements_of elements).types
  pub texts : Each (TextIn (length deck)) (elements_of elements).texts
  pub trees : Each (TreeIn (length (elements_of elements).names)) (elements_of elements).trees

-- the model table: n elements, texts numbered below `texts`; every change keeps it
pub record ModelFits (n texts : ℕ) (model : List ℕ) : Type 0 where
  pub good : GoodModel model
  pub same : count_of (model_of model) ≡ n
  pub items : Each (ItemTextIn texts) (flat (model_of model).lists)

-- the log table of n elements; every change keeps it
pub record LogFits (n : ℕ) (log : List ℕ) : Type 0 where
  pub good : GoodLog log
  pub entries : Each (EntryIn n) (log_of log)

-- the model table read beside the tables that do not change
abbrev pub ModelOver : List ℕ → List ℕ → Type 0
ModelOver elements model = ModelFits (length (elements_of elements).names) (length (elements_of elements).texts) model

-- model and log
pub record StateFits (n texts : ℕ) (model log : List ℕ) : Type 0 where
  pub model_fits : ModelFits n texts model
  pub log_fits : LogFits n log

-- both, read beside the tables that do not change
abbrev pub StateOver : List ℕ → List ℕ → List ℕ → Type 0
StateOver elements model log = StateFits (length (elements_of elements).names) (length (elements_of elements).texts) model log

-- what fits before fits after, whatever the numbers of elements and texts are
abbrev pub KeepsModel : List ℕ → List ℕ → Type 0
KeepsModel before after = (n texts : ℕ) → ModelFits n texts before → ModelFits n texts after

abbrev pub KeepsState : List ℕ → List ℕ → List ℕ → List ℕ → Type 0
KeepsState model_before log_before model log = (n texts : ℕ) → StateFits n texts model_before log_before → StateFits n texts model log
