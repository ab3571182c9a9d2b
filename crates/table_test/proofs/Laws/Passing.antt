-- The four tables of records that are in their ranges and fit together pass. Assumes nothing.
use mathlib.Core.Bool.{true}
use mathlib.Core.Path.{◌≡◌}
use Prim.Native.Nat.{ℕ}
use borrow.Author.Tests.{eq-eqb}
use lib.ListN.{length}
use Rattle.tables.specs.Records.{Schema, Elements, Model, Log}
use Rattle.tables.specs.SchemaTable.{encode_schema}
use Rattle.tables.specs.ElementsTable.{encode_elements}
use Rattle.tables.specs.ModelTable.{count_of, encode_model}
use Rattle.tables.specs.LogTable.{encode_log}
use Rattle.table_test.specs.TablesTest.{tables_pass}
use Rattle.table_test.specs.Passing.{SchemaIn, ElementsIn, ModelIn, LogIn}
use Rattle.table_test.proofs.Laws.PassingSchema.{schema-passes}
use Rattle.table_test.proofs.Laws.PassingElements.{elements-passes}
use Rattle.table_test.proofs.Laws.PassingModel.{model-passes}
use Rattle.table_test.proofs.Laws.PassingLog.{log-passes}

pub tables-pass : (size : ℕ) (sc : Schema) (es : Elements) (m : Model) (l : Log)
    → SchemaIn sc → ElementsIn (length sc.types) size es → ModelIn (length es.texts) m → LogIn (length es.names) l
    → count_of m ≡ length es.names
    → tables_pass size (encode_schema sc) (encode_elements es) (encode_model m) (encode_log l) ≡ true
unfolding tables_pass encode_schema encode_elements encode_model
tables-pass size sc es m l hs he hm hl same =
    rw (
      schema-passes sc hs,
      elements-passes (length sc.types) size es he,
      model-passes (length es.texts) m hm,
      eq-eqb (count_of m) (length es.names) same,
      log-passes (length es.names) l hl,
    )
