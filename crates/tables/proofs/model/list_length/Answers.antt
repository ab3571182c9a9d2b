use native.Mathlib.Nat.{add-sub_cancel_left}
use native.Mathlib.Omega.{arith}
use Rattle.tables.proofs.Laws.ModelTable.{read-start, read-end}
use Rattle.tables.proofs.model.list_length.Goals as goal

pub overflow_sub-result : goal.overflow_sub-result
overflow_sub-result c =
    rw (
      read-end c.args.model.now c.requires.good_model c.args.e.0 c.requires.e_bound,
      read-start c.args.model.now c.requires.good_model c.args.e.0 (omega arith),
    )
    (omega arith)

pub returns : goal.returns
returns c =
    rw (
      read-end c.args.model.now c.requires.good_model c.args.e.0 c.requires.e_bound,
      read-start c.args.model.now c.requires.good_model c.args.e.0 (omega arith),
    )
    (add-sub_cancel_left _ _)
