use Rattle.table_test.specs.ElementsTest.{elements_tests, is_elements_table}
use Rattle.table_test.proofs.Laws.RowsTest.{every-fails}
use lib.ListN.{length}
use borrow.Author.Tests.{eq-eqb, ne_eqb}
use native.Mathlib.Omega.{arith}
use Rattle.tables.specs.ElementsTable.{elements_size}
use Rattle.table_test.proofs.elements_test.is_elements_table.Goals as goal

pub returns-then-t-ne-ELEMENTS_SIZE : goal.returns-then-t-ne-ELEMENTS_SIZE
unfolding is_elements_table
returns-then-t-ne-ELEMENTS_SIZE c =
    let t = c.args.t.now in
    every-fails (elements_tests c.args.types c.args.size t) 0 (ne_eqb (length t) elements_size (λ e. omega arith))

pub returns : goal.returns
unfolding is_elements_table
returns c =
    rw (eq-eqb (length c.args.t.now) elements_size (omega arith), c.passes.ensures, c.passes-2.ensures, c.passes-3.ensures)
