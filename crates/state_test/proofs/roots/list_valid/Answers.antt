use mathlib.Core.Path.{sym, ap, subst, ◌∙◌}
use Prim.Native.Nat.{ℕ}
use borrow.Author.Rules.{rules}
use lib.ListN.{get_or}
use Rattle.tables.specs.Records.{child, list_of}
use Rattle.tables.specs.ModelTable.{model_of, ItemBelow}
use Rattle.tables.proofs.Laws.ModelTable.{item-below}
use Rattle.tables.proofs.Laws.Scans.{all_more, all-stop, all_end}
use Rattle.state_test.specs.StateTest.{item_valid, fixed_in}
use Rattle.state_test.proofs.roots.list_valid.Goals as goal

pub item_valid-requires-clause-item_below : goal.item_valid-requires-clause-item_below
item_valid-requires-clause-item_below c =
    let b =
    subst (λ (n : ℕ). ItemBelow n (get_or (list_of (model_of c.args.model.now) c.args.p.0) c.loop-i.i (child 0))) c.requires.model_value
    (item-below c.args.model.now c.requires.good_model c.args.p.0 c.loop-i.i (search rules))
    in
    rw c.item_at-a.ensures b

pub returns-in_err-last-clause-by_index : goal.returns-in_err-last-clause-by_index
returns-in_err-last-clause-by_index c =
    λ deck.
    let test = item_valid (fixed_in deck c.args.schema.now c.args.elements.now) c.args.p.0 in
    rw c.from_residual.ensures
    (sym (all-stop test (list_of (model_of c.args.model.now) c.args.p.0) c.loop-i.i (child 0) (search rules)
    (sym (c.in_err-last.ensures.by_index deck ∙ ap test c.item_at-a.ensures)))
    ∙ c.loop-i.invariant.0 deck)

pub loop-i-preserved : goal.loop-i-preserved
loop-i-preserved c = (
  λ deck.
      let test = item_valid (fixed_in deck c.args.schema.now c.args.elements.now) c.args.p.0 in
      all_more test (list_of (model_of c.args.model.now) c.args.p.0) c.loop-i.i (child 0) (search rules)
      (sym (c.in_ok-last.ensures.by_index deck ∙ ap test c.item_at-a.ensures))
      ∙ c.loop-i.invariant.0 deck,
  c.in_ok-last.ensures.found_row_2,
)

pub returns-clause-by_index : goal.returns-clause-by_index
returns-clause-by_index c =
    λ deck.
    sym (all_end (item_valid (fixed_in deck c.args.schema.now c.args.elements.now) c.args.p.0) (list_of (model_of c.args.model.now) c.args.p.0) c.loop-i.i (search rules))
    ∙ c.loop-i.invariant.0 deck
