use Rattle.table_test.specs.LogTest.{log_tests, is_log_table}
use Rattle.table_test.proofs.Laws.RowsTest.{every-fails}
use lib.ListN.{length}
use borrow.Author.Tests.{eq-eqb, ne_eqb}
use native.Mathlib.Omega.{arith}
use Rattle.tables.specs.LogTable.{log_size}
use Rattle.table_test.proofs.log_test.is_log_table.Goals as goal

pub returns-then-t-ne-LOG_SIZE : goal.returns-then-t-ne-LOG_SIZE
unfolding is_log_table
returns-then-t-ne-LOG_SIZE c =
    let t = c.args.t.now in
    every-fails (log_tests c.args.n t) 0 (ne_eqb (length t) log_size (λ e. omega arith))

pub returns : goal.returns
unfolding is_log_table
returns c =
    rw (eq-eqb (length c.args.t.now) log_size (omega arith)) c.passes.ensures
