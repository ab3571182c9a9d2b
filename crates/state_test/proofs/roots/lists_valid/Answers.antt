use mathlib.Core.Path.{refl}
use native.Mathlib.Omega.{arith}
use Rattle.tables.specs.ModelTable.{model_of}
use Rattle.state_test.specs.StateTest.{fixed_in}
use Rattle.state_test.proofs.Laws.Roots.{lists-stop, lists-more, lists-end}
use Rattle.state_test.proofs.roots.lists_valid.Goals as goal

pub returns-in_default : goal.returns-in_default
returns-in_default c =
    let s = c.requires.good_model.sized.lists in
    λ deck.
    lists-stop (fixed_in deck c.args.schema.now c.args.elements.now) (model_of c.args.model.now).lists c.loop-p.p (omega arith)
    (c.in_default.ensures.by_index deck) refl (c.loop-p.invariant.0 deck)

pub loop-p-preserved : goal.loop-p-preserved
loop-p-preserved c =
    let s = c.requires.good_model.sized.lists in (
      λ deck.
          lists-more (fixed_in deck c.args.schema.now c.args.elements.now) (model_of c.args.model.now).lists c.loop-p.p (omega arith)
          (c.in-Some.ensures.by_index deck) refl (c.loop-p.invariant.0 deck),
      c.in-Some.ensures.found_row_2,
    )

pub returns : goal.returns
returns c =
    let s = c.requires.good_model.sized.lists in
    λ deck.
    lists-end (fixed_in deck c.args.schema.now c.args.elements.now) (model_of c.args.model.now).lists c.loop-p.p (omega arith) (c.loop-p.invariant.0 deck)
