use mathlib.Core.Path.{◌≡◌, ◌∙◌, ap}
use Prim.Native.Nat.{◌-◌}
use native.Mathlib.Omega.{arith}
use borrow.Rule.Slice.PartMut.{put_mid}
use lib.ListN.{length, length-set}
use Rattle.tables.proofs.Laws.Lists.{shift_out-turn, shift_out-last}
use Rattle.tables.proofs.model.move_down.Goals as goal

pub loop-j-preserved : goal.loop-j-preserved
loop-j-preserved c =
    (shift_out-turn c.loop-j.s c.loop-j.j _ (omega arith) ∙ c.loop-j.invariant.0, simp length-set c.loop-j.invariant.1, omega arith)

pub returns : goal.returns
returns c =
    let n = length c.args.s.now - c.args.k in
    let d = length c.loop-j.s - n in
    let z : c.loop-j.j ≡ n = omega arith in
    ap (put_mid n d c.loop-j.s) c.clear.ensures ∙ shift_out-last c.loop-j.s n d c.args.k (omega arith) (omega arith) ∙ (rw z at c.loop-j.invariant.0)
