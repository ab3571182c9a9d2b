use native.Mathlib.Omega.{arith}
use Rattle.tables.proofs.Laws.ModelTable.{start-room}
use Rattle.imports.proofs.import.rows_together.Goals as goal

pub run_length-requires-clause-n_le_item_limit : goal.run_length-requires-clause-n_le_item_limit
run_length-requires-clause-n_le_item_limit c =
    omega (arith, c.list_length-n.ensures, start-room c.args.model.now c.requires.good_model c.args.p.0 c.requires.p_bound, c.requires.good_model.sized.total)
