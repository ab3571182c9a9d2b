use mathlib.Core.Path.{sym, ◌∙◌}
use Prim.Native.Nat.{ℕ, ◌+◌}
use native.Mathlib.Omega.{arith}
use lib.ListN.{get_or, length-set}
use lib.Seq.{get_or-set_other}
use Rattle.tables.proofs.Laws.Lists.{on_from-turn, on_from-past}
use Rattle.tables.proofs.model.raise_from.Goals as goal

pub loop-j-preserved : goal.loop-j-preserved
loop-j-preserved c =
    let k = c.args.k in (
      on_from-turn (λ (x : ℕ). x + k) c.loop-j.s c.loop-j.j (omega arith) ∙ c.loop-j.invariant.0,
      simp length-set c.loop-j.invariant.1,
      λ n h. rw (get_or-set_other c.loop-j.s c.loop-j.j n (get_or c.loop-j.s c.loop-j.j 0 + k) 0 (omega arith)) (c.loop-j.invariant.2 n (omega arith)),
    )

pub returns : goal.returns
returns c =
    sym (on_from-past (λ (x : ℕ). x + c.args.k) c.loop-j.s c.loop-j.j (omega arith)) ∙ c.loop-j.invariant.0
