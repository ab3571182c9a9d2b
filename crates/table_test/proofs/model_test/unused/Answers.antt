use mathlib.Core.Path.{sym, ◌∙◌}
use Rattle.table_test.specs.ModelTest.{model_unused}
use Rattle.table_test.proofs.model_test.unused.Goals as goal

pub returns-then-not-all_zero : goal.returns-then-not-all_zero
unfolding model_unused
returns-then-not-all_zero c =
    rw (model_unused, sym c.all_zero.ensures ∙ c.if-not-all_zero.true)

pub returns-then-not-all_zero-2 : goal.returns-then-not-all_zero-2
unfolding model_unused
returns-then-not-all_zero-2 c =
    rw (model_unused, sym c.all_zero.ensures ∙ c.if-not-all_zero.false, sym c.all_zero-2.ensures ∙ c.if-not-all_zero-2.true)

pub returns-then-not-all_zero-3 : goal.returns-then-not-all_zero-3
unfolding model_unused
returns-then-not-all_zero-3 c =
    rw (
      model_unused,
      sym c.all_zero.ensures ∙ c.if-not-all_zero.false,
      sym c.all_zero-2.ensures ∙ c.if-not-all_zero-2.false,
      sym c.all_zero-3.ensures ∙ c.if-not-all_zero-3.true,
    )

pub returns : goal.returns
unfolding model_unused
returns c =
    rw (
      model_unused,
      sym c.all_zero.ensures ∙ c.if-not-all_zero.false,
      sym c.all_zero-2.ensures ∙ c.if-not-all_zero-2.false,
      sym c.all_zero-3.ensures ∙ c.if-not-all_zero-3.false,
    )
    c.all_zero-4.ensures
