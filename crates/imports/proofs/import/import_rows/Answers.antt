use mathlib.Core.Path.{sym, ap, ◌∙◌}
use Prim.Native.Nat.{ℕ, ◌+◌, ◌<◌}
use native.Mathlib.Omega.{arith}
use Rattle.state_test.specs.StateTest.{fixed_in, state_in}
use Rattle.imports.specs.Imports.{row_place}
use Rattle.imports.proofs.Laws.Imports.{imports-one}
use Rattle.imports.proofs.Laws.Together.{row_within}
use Rattle.imports.proofs.import.import_rows.Goals as goal

pub returns-then-k-eq1-clause-by_index : goal.returns-then-k-eq1-clause-by_index
returns-then-k-eq1-clause-by_index c =
    λ deck. c.import_single_item.ensures.by_index deck ∙ rw c.if-k-eq1.true (sym (imports-one (fixed_in deck c.args.schema.now c.args.elements.now) c.args.f.0 c.args.v c.args.p.0 c.args.work.now (c.args.rows.first + c.args.i) c.args.i (state_in c.args.model.now c.args.log.now)))

pub import_run-requires-clause-i_in_bounds : goal.import_run-requires-clause-i_in_bounds
import_run-requires-clause-i_in_bounds c =
    let many : 1 < c.args.k = omega (arith, c.requires.k_nonzero, c.if-k-eq1.false) in
    let t = c.requires.any_place many in
    let at = c.row_place-at.ensures ∙ ap (λ (z : ℕ). row_place c.args.work.now c.args.rows.first c.args.i z) c.list_length.ensures in
    rw at (row_within c.args.work.now c.args.rows.first c.args.i _)
