use Rattle.schema_calls.proofs.Laws.Scans.{found-at, found-missing}
use Rattle.insert_range.proofs.Laws.Range.{compares-none, compares-row}
use Rattle.insert_range.proofs.range.compare_name.Goals as goal

pub returns-in_err-old : goal.returns-in_err-old
returns-in_err-old c =
    rw c.from_residual.ensures (compares-none c.args.schema.now c.args.t.0 c.args.new c.args.n.0 (found-missing c.row_of_name.ensures c.in_err-old.was))

pub returns : goal.returns
returns c =
    compares-row c.args.schema.now c.args.t.0 c.args.new c.args.n.0 (found-at c.row_of_name.ensures c.in_ok-old.was) c.row_path-path.ensures c.row_path-other.ensures c.find_common_group-mode.ensures c.order-order.ensures
