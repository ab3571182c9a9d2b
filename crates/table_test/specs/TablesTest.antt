-- The test of the four tables together, the part of refusal 0 that needs no rule above the tables: each passes its own test, and
-- elements and model have equally many elements. Assumes nothing.
use Rattle.std.specs.Prelude.{Bool, List, [], ◌∷◌, ◌≡◌, ℕ, eqb, length, get_or}
use Rattle.tables.specs.ModelTable.{count_of, model_of}
use Rattle.tables.specs.ElementsTable.{elements_of}
use Rattle.tables.specs.SchemaTable.{schema_of}
use Rattle.table_test.specs.ModelTest.{is_model_table, TestedModel}
use Rattle.table_test.specs.RowTests.{every}
use Rattle.table_test.specs.LogTest.{is_log_table, TestedLog}
use Rattle.table_test.specs.ElementsTest.{is_elements_table, TestedElements}
use Rattle.table_test.specs.SchemaTest.{is_schema_table, TestedSchema}

abbrev pub tables_tests : ℕ → List ℕ → List ℕ → List ℕ → List ℕ → List Bool
tables_tests size schema elements model log =
    is_schema_table schema
    ∷ is_elements_table (get_or schema 0 0) size elements
    ∷ is_model_table (get_or elements 1 0) model
    ∷ eqb (get_or model 0 0) (get_or elements 0 0)
    ∷ is_log_table (get_or elements 0 0) log
    ∷ []

-- size is the deck's
unfoldable pub tables_pass : ℕ → List ℕ → List ℕ → List ℕ → List ℕ → Bool
tables_pass size schema elements model log = every (tables_tests size schema elements model log)

-- what tables that pass are
pub record TestedTables (size : ℕ) (schema elements model log : List ℕ) : Type 0 where
  pub schema_tested : TestedSchema schema
  pub elements_tested : TestedElements (length (schema_of schema).types) size elements
  pub model_tested : TestedModel (length (elements_of elements).texts) model
  pub log_tested : TestedLog (length (elements_of elements).names) log
  pub same : count_of (model_of model) ≡ length (elements_of elements).names
