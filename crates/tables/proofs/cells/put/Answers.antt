use mathlib.Core.Path.{ap, ◌∙◌}
use Prim.Native.Nat.{◌+◌, ◌-◌}
use native.Mathlib.Omega.{arith}
use borrow.Rule.Slice.PartMut.{put_mid}
use lib.ListN.{length}
use Rattle.tables.proofs.Laws.Cells.{puts-mid}
use Rattle.tables.proofs.cells.put.Goals as goal

pub returns : goal.returns
returns c =
    let k = c.args.at + length c.args.cells.now - c.args.at in
    ap (put_mid c.args.at k c.args.s.now) c.copy_from_slice.ensures.after ∙ puts-mid c.args.s.now c.args.cells.now c.args.at k (omega arith) (omega arith)
