use mathlib.Core.Path.{sym, ◌∙◌}
use native.Mathlib.Omega.{arith}
use borrow.Author.Rules.{rules}
use borrow.Author.Tests.{eq-eqb, ne_eqb}
use lib.ListN.{length, get_or}
use Rattle.tables.specs.Cells.{between}
use Rattle.tables.specs.SchemaTable.{schema_size, groups_at, rows_at, files_at, group_index_at}
use Rattle.table_test.specs.SchemaTest.{schema_tests, is_schema_table}
use Rattle.table_test.specs.declared.area_test.Area.TheVariants.{Files, Groups, SubElements}
use Rattle.table_test.proofs.Laws.AreaTest.{area-parts}
use Rattle.table_test.proofs.Laws.IndexTest.{counted}
use Rattle.table_test.proofs.Laws.RowsTest.{every-fails}
use Rattle.table_test.proofs.schema_test.is_schema_table.Goals as goal

pub returns-then-t-ne-SCHEMA_SIZE : goal.returns-then-t-ne-SCHEMA_SIZE
unfolding is_schema_table
returns-then-t-ne-SCHEMA_SIZE c =
    let t = c.args.t.now in
    every-fails (schema_tests t) 0 (ne_eqb (length t) schema_size (λ e. omega arith))

pub returns-then-not-passes : goal.returns-then-not-passes
unfolding is_schema_table
returns-then-not-passes c =
    every-fails (schema_tests c.args.t.now) 1 (sym c.passes.ensures ∙ c.if-not-passes.true)

pub returns-then-not-passes-2 : goal.returns-then-not-passes-2
unfolding is_schema_table
returns-then-not-passes-2 c =
    every-fails (schema_tests c.args.t.now) 2 (sym c.passes-2.ensures ∙ c.if-not-passes-2.true)

pub returns-then-not-passes-3 : goal.returns-then-not-passes-3
unfolding is_schema_table
returns-then-not-passes-3 c =
    every-fails (schema_tests c.args.t.now) 3 (sym c.passes-3.ensures ∙ c.if-not-passes-3.true)

pub files_ascend-requires : goal.files_ascend-requires
files_ascend-requires c =
    let t = c.args.t.now in
    let few = (area-parts Files (get_or t 3 0) (between files_at group_index_at t) (sym c.passes.ensures ∙ c.if-not-passes.false)).0 in
    search rules

pub indexes_pass-requires : goal.indexes_pass-requires
indexes_pass-requires c =
    let t = c.args.t.now in
    counted t (omega arith)
    (area-parts Groups (get_or t 1 0) (between groups_at rows_at t) (sym c.passes-2.ensures ∙ c.if-not-passes-2.false)).0
    (area-parts SubElements (get_or t 2 0) (between rows_at files_at t) (sym c.passes-3.ensures ∙ c.if-not-passes-3.false)).0

pub returns : goal.returns
unfolding is_schema_table
returns c =
    let t = c.args.t.now in
    let files = sym c.passes.ensures ∙ c.if-not-passes.false in
    let groups = sym c.passes-2.ensures ∙ c.if-not-passes-2.false in
    let rows = sym c.passes-3.ensures ∙ c.if-not-passes-3.false in
    rw (eq-eqb (length t) schema_size (omega arith), files, groups, rows, c.passes-4.ensures, c.files_ascend.ensures, c.indexes_pass.ensures)
