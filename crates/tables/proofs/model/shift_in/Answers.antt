use mathlib.Core.Path.{◌∙◌, ap}
use Prim.Native.Nat.{◌-◌}
use native.Mathlib.Omega.{arith}
use borrow.Rule.Slice.PartMut.{put_mid}
use lib.ListN.{length}
use Rattle.tables.proofs.Laws.Lists.{shift_in-part}
use Rattle.tables.proofs.model.shift_in.Goals as goal

pub returns : goal.returns
returns c =
    let n = length c.args.s.now - c.args.i in
    ap (put_mid c.args.i n c.args.s.now) c.put_front.ensures ∙ shift_in-part c.args.s.now c.args.i n c.args.k c.args.v (omega arith) (omega arith)
