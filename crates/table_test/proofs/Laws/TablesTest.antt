-- The test of the four tables together: what tables that pass are. Assumes nothing.
use mathlib.Core.Bool.{true}
use mathlib.Core.List.{List}
use mathlib.Core.Path.{◌≡◌, sym, ◌∙◌, subst}
use Prim.Native.Nat.{ℕ}
use borrow.Author.Tests.{eqb-true}
use lib.ListN.{length, get_or}
use Rattle.tables.specs.ModelTable.{model_size}
use Rattle.table_test.specs.ModelTest.{is_model_table, TestedModel}
use Rattle.table_test.specs.LogTest.{TestedLog}
use Rattle.table_test.specs.ElementsTest.{is_elements_table, TestedElements}
use Rattle.table_test.specs.SchemaTest.{is_schema_table}
use Rattle.table_test.specs.TablesTest.{tables_tests, tables_pass, TestedTables}
use Rattle.tables.proofs.Laws.ElementsTable.{element-count, text-count}
use Rattle.tables.proofs.Laws.SchemaTable.{type-count}
use Rattle.tables.proofs.Laws.ModelTable.{read_count}
use Rattle.table_test.proofs.Laws.ModelTest as model_test
use Rattle.table_test.proofs.Laws.RowsTest.{every-at}
use Rattle.table_test.proofs.Laws.LogTest.{tested-log}
use Rattle.table_test.proofs.Laws.ElementsTest.{few-elements, few-texts, tested-elements}
use Rattle.table_test.proofs.Laws.SchemaTest.{tested-schema}

module _ (types size : ℕ) (elements : List ℕ) (h : is_elements_table types size elements ≡ true) (model : List ℕ) (g : is_model_table (get_or elements 1 0) model ≡ true) where
  pub model-length : length model ≡ model_size
  model-length = (model_test.tested (get_or elements 1 0) model (few-texts types size elements h) g).good.size

pub tested-tables : (size : ℕ) (schema elements model log : List ℕ) → tables_pass size schema elements model log ≡ true → TestedTables size schema elements model log
unfolding tables_pass
tested-tables size schema elements model log h =
    let t = every-at (tables_tests size schema elements model log) h in
    let s : is_schema_table schema ≡ true = t 0 in
    let types = get_or schema 0 0 in
    let e : is_elements_table types size elements ≡ true = t 1 in
    let m : is_model_table (get_or elements 1 0) model ≡ true = t 2 in
    let c : get_or model 0 0 ≡ get_or elements 0 0 = eqb-true (get_or model 0 0) (get_or elements 0 0) (t 3) in
    let et = tested-elements types size elements e in
    let mt : TestedModel (get_or elements 1 0) model = model_test.tested (get_or elements 1 0) model (few-texts types size elements e) m in
    record {
      schema_tested = tested-schema schema s;
      elements_tested = subst (λ (k : ℕ). TestedElements k size elements) (type-count schema (tested-schema schema s).good) et;
      model_tested = subst (λ (k : ℕ). TestedModel k model) (text-count elements et.good) mt;
      log_tested = subst (λ (k : ℕ). TestedLog k log) (element-count elements et.good) (tested-log (get_or elements 0 0) log (few-elements types size elements e) (t 4));
      same = sym (read_count model mt.good) ∙ c ∙ element-count elements et.good;
    }
