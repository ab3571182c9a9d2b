use mathlib.Core.Path.{refl, sym}
use Prim.Native.Nat.{◌<◌}
use native.Mathlib.Omega.{arith}
use borrow.Author.Rules.{rules}
use lib.ListN.{length, length-set}
use Rattle.merge.proofs.Laws.Calls.{copy_more, copy_done}
use Rattle.merge.proofs.calls.copy.Goals as goal

pub loop-i-init : goal.loop-i-init
loop-i-init c = (sym c.requires, refl)

pub loop-i-preserved : goal.loop-i-preserved
loop-i-preserved c =
    (simp length-set c.loop-i.invariant.0, copy_more c.args.from.now c.loop-i.to c.loop-i.i c.loop-i.invariant.0 c.loop-i.invariant.1 (search rules))

pub returns : goal.returns
returns c = copy_done c.args.from.now c.loop-i.to c.loop-i.i c.loop-i.invariant.0 c.loop-i.invariant.1 (search rules)
