use mathlib.Core.Bool.{true, false}
use mathlib.Core.Path.{◌≡◌, sym, ap, ◌∙◌}
use Rattle.std.specs.Cmp.{ranked}
use Rattle.std.specs.Ordering.{is_ne}
use Rattle.tables.specs.Paths.{order_of}
use Rattle.tables.proofs.Laws.Paths.{order-found, order-next-at, order-past}
use Rattle.tables.proofs.path.Path.order.Goals.{then-is_ne-via-then-is_ne, then-is_ne-via-else-is_ne+then-x-eq0}
use Rattle.tables.proofs.path.Path.order.Goals as goal

pub returns-then-is_ne : goal.returns-then-is_ne
returns-then-is_ne c =
    let z : is_ne c.cmp-found.result ≡ false → c.part-x.result ≡ 0 =
    elim c.then-is_ne.branch [
      | then-is_ne-via-then-is_ne w ↦ λ e. let b = sym c.is_ne.ensures ∙ w.if-is_ne.true in cc
      | then-is_ne-via-else-is_ne+then-x-eq0 w ↦ λ e. w.if-x-eq0.true
    ] in
    order-found c.args.self c.args.q c.loop-i.i c.part-x.ensures c.part.ensures _ (ranked _ _ _ c.cmp-found.ensures) z
    ∙ sym (ap order_of c.loop-i.invariant)

pub loop-i-preserved : goal.loop-i-preserved
loop-i-preserved c =
    c.loop-i.invariant
    ∙ order-next-at c.args.self c.args.q c.loop-i.i c.part-x.ensures c.part.ensures _ (ranked _ _ _ c.cmp-found.ensures)
    (sym c.is_ne.ensures ∙ c.if-is_ne.false) c.if-x-eq0.false

pub returns : goal.returns
unfolding order_of
returns c =
    sym (ap order_of (c.loop-i.invariant ∙ order-past c.args.self c.args.q c.loop-i.i c.loop-i-test.false))
