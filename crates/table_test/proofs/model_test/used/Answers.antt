use mathlib.Core.Path.{sym, ◌∙◌}
use Rattle.table_test.specs.ModelTest.{model_used}
use Rattle.table_test.proofs.model_test.used.Goals as goal

pub returns-then-not-all_at_most : goal.returns-then-not-all_at_most
unfolding model_used
returns-then-not-all_at_most c =
    rw (model_used, sym c.all_at_most.ensures ∙ c.if-not-all_at_most.true)

pub returns : goal.returns
unfolding model_used
returns c =
    rw (model_used, sym c.all_at_most.ensures ∙ c.if-not-all_at_most.false) c.cells_in_range.ensures
