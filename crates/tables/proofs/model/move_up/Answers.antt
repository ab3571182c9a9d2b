use mathlib.Core.List.{List, ◌++◌}
use mathlib.Core.Path.{◌≡◌, refl, ◌∙◌, ap}
use Prim.Native.Nat.{ℕ, ◌-◌}
use native.Mathlib.Omega.{arith}
use lib.ListN.{length, drop, length-set}
use Rattle.tables.proofs.Laws.Lists.{remove_run-last, shift_in-turn, shift_in-first}
use Rattle.tables.proofs.model.move_up.Goals as goal

pub loop-j-init : goal.loop-j-init
loop-j-init c =
    (remove_run-last c.args.s.now (length c.args.s.now - c.args.k) c.args.k (omega arith), refl, omega arith)

pub loop-j-preserved : goal.loop-j-preserved
loop-j-preserved c =
    (shift_in-turn c.loop-j.s c.loop-j.j _ (omega arith) (omega arith) ∙ c.loop-j.invariant.0, simp length-set c.loop-j.invariant.1, omega arith)

pub returns : goal.returns
returns c =
    let z : c.loop-j.j ≡ 0 = omega arith in
    ap (λ (r : List ℕ). r ++ drop c.args.k c.loop-j.s) (c.fill.ensures.after (λ y h. h))
    ∙ shift_in-first c.loop-j.s c.args.s.now c.args.k c.args.v (omega arith) (rw z at c.loop-j.invariant.0)
