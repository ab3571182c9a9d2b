use native.Mathlib.Omega.{arith}
use Rattle.load.proofs.Laws.Above.{owner-root, owner-past, owner_at}
use Rattle.load.proofs.tree_lines.owner.Goals as goal

pub returns-then-d-eq0 : goal.returns-then-d-eq0
returns-then-d-eq0 c = λ l e. owner-root l c.args.d c.if-d-eq0.true

pub returns-then-n-d : goal.returns-then-n-d
returns-then-n-d c =
    let p = c.args.p in
    λ l e. owner-past l p.depth p.above e c.args.d c.if-n-d.true

pub returns : goal.returns
returns c =
    let p = c.args.p in
    λ l e. owner_at l p.depth p.above e c.args.d c.if-d-eq0.false c.if-n-d.false (omega arith)
