use mathlib.Core.Path.{refl, sym, ap, ◌∙◌}
use Prim.Native.Nat.{ℕ, ◌+◌}
use native.Mathlib.Omega.{arith}
use lib.ListN.{drop}
use Rattle.tables.specs.Index.{path_bucket}
use Rattle.tables.specs.Paths.{front, cells_of}
use Rattle.tables.proofs.Laws.Index.{bucket-end, bucket-next, bucket-past}
use Rattle.tables.proofs.index.path_bucket.Goals as goal

pub loop-i-init : goal.loop-i-init
loop-i-init c = refl

pub returns-then-x-eq0 : goal.returns-then-x-eq0
returns-then-x-eq0 c = record { value = sym (bucket-end c.loop-i.k _ c.loop-i.i c.args.p c.part-x.ensures c.if-x-eq0.true) ∙ c.loop-i.invariant; upper_bound = omega arith }

pub loop-i-preserved : goal.loop-i-preserved
loop-i-preserved c =
    ap (λ (k : ℕ). path_bucket k (front (drop (c.loop-i.i + 1) (cells_of c.args.p)))) c.bucket-k.ensures.value
    ∙ sym (bucket-next c.loop-i.k _ c.loop-i.i c.args.p c.part-x.ensures c.if-x-eq0.false) ∙ c.loop-i.invariant

pub returns : goal.returns
returns c = record { value = sym (bucket-past c.loop-i.k c.loop-i.i c.args.p c.loop-i-test.false) ∙ c.loop-i.invariant; upper_bound = omega arith }
