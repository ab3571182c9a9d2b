use mathlib.Core.Path.{◌∙◌}
use native.Mathlib.Omega.{arith}
use borrow.Author.Tests.{le-leb, ne_eqb}
use Rattle.state_test.specs.StateTest.{fixed_in}
use Rattle.state_test.proofs.Laws.Roots.{past-root, deep-root, typed-root}
use Rattle.state_test.proofs.roots.root_valid.Goals as goal

pub returns-then-element_count-e : goal.returns-then-element_count-e
returns-then-element_count-e c =
    let z = c.requires.sized in
    let t = z.same_types in
    let d = z.same_depths in
    λ deck schema.
    le-leb c.element_count.result c.args.e.0 c.if-element_count-e.true
    ∙ past-root (fixed_in deck schema c.args.elements.now) c.args.e.0 (omega arith) (omega arith)

pub returns-then-element_depth-eq0 : goal.returns-then-element_depth-eq0
returns-then-element_depth-eq0 c =
    λ deck schema.
    c.eq.ensures ∙ typed-root (fixed_in deck schema c.args.elements.now) c.args.e.0 c.element_depth.ensures c.element_type.ensures c.if-element_depth-eq0.true

pub returns-else-element_depth-eq0 : goal.returns-else-element_depth-eq0
returns-else-element_depth-eq0 c =
    λ deck schema.
    ne_eqb c.element_depth.result 0 c.if-element_depth-eq0.false
    ∙ deep-root (fixed_in deck schema c.args.elements.now) c.args.e.0 c.element_depth.ensures c.if-element_depth-eq0.false
