use mathlib.Core.Path.{sym, ◌∙◌}
use borrow.Author.Tests.{not-true, not-false}
use Rattle.tables.specs.SchemaTable.{schema_of}
use Rattle.schema_calls.proofs.Laws.Scans.{found-at, found-missing}
use Rattle.state_test.specs.StateTest.{fixed_in}
use Rattle.state_test.proofs.Laws.Roots.{not-deeper, no_row, some-row, found-row}
use Rattle.state_test.proofs.roots.child_valid.Goals as goal

pub returns-then-element_depth-clause-by_index : goal.returns-then-element_depth-clause-by_index
returns-then-element_depth-clause-by_index c =
    λ deck.
    not-deeper (fixed_in deck c.args.schema.now c.args.elements.now) c.args.p.0 c.args.e.0 c.element_depth.ensures c.element_depth-2.ensures c.if-element_depth.true

pub returns-in_err-i-clause-by_index : goal.returns-in_err-i-clause-by_index
returns-in_err-i-clause-by_index c =
    λ deck.
    rw c.from_residual.ensures
    (no_row (fixed_in deck c.args.schema.now c.args.elements.now) c.args.p.0 c.args.e.0 c.element_depth.ensures c.element_depth-2.ensures c.if-element_depth.false
    c.element_type-t.ensures c.element_name.ensures (found-missing c.row_again.ensures c.in_err-i.was))

pub returns-then-ne-clause-by_index : goal.returns-then-ne-clause-by_index
returns-then-ne-clause-by_index c =
    λ deck.
    sym (not-true _ (sym c.ne.ensures ∙ c.if-ne.true))
    ∙ some-row (fixed_in deck c.args.schema.now c.args.elements.now) c.args.p.0 c.args.e.0 c.element_depth.ensures c.element_depth-2.ensures c.if-element_depth.false
    c.element_type-t.ensures c.element_name.ensures (found-at c.row_again.ensures c.in_ok-i.was) c.row_child.ensures c.element_type.ensures

pub returns-clause-by_index : goal.returns-clause-by_index
returns-clause-by_index c =
    λ deck.
    sym (not-false _ (sym c.ne.ensures ∙ c.if-ne.false))
    ∙ some-row (fixed_in deck c.args.schema.now c.args.elements.now) c.args.p.0 c.args.e.0 c.element_depth.ensures c.element_depth-2.ensures c.if-element_depth.false
    c.element_type-t.ensures c.element_name.ensures (found-at c.row_again.ensures c.in_ok-i.was) c.row_child.ensures c.element_type.ensures

pub returns-clause-found_row_2 : goal.returns-clause-found_row_2
returns-clause-found_row_2 c = found-row (schema_of c.args.schema.now) _ _ _ (found-at c.row_again.ensures c.in_ok-i.was)
