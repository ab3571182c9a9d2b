use native.Mathlib.Omega.{arith}
use Rattle.imports.proofs.Laws.Together.{row_within}
use Rattle.imports.proofs.import.run_length.Goals as goal

pub overflow_add-at : goal.overflow_add-at
overflow_add-at c =
    record { fits = omega (arith, c.loop-k.invariant.0, row_within c.args.work.now c.args.rows.first c.args.i c.args.n, c.requires.new_in_bounds, c.requires.new_bound, c.requires.n_le_item_limit, c.requires.i_lt_new, c.loop-k-test.true) }
