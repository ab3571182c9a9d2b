use mathlib.Core.Path.{sym, ◌∙◌}
use Rattle.table_test.specs.ModelTest.{is_model_table}
use Rattle.table_test.proofs.Laws.ModelTest.{shaped, tested-good}
use Rattle.table_test.proofs.model_test.is_model_table.Goals as goal

pub returns-then-not-shape : goal.returns-then-not-shape
unfolding is_model_table
returns-then-not-shape c =
    rw (is_model_table, sym c.shape.ensures ∙ c.if-not-shape.true)

pub unused-requires : goal.unused-requires
unused-requires c =
    shaped c.args.t.now (sym c.shape.ensures ∙ c.if-not-shape.false)

pub returns-then-not-unused : goal.returns-then-not-unused
unfolding is_model_table
returns-then-not-unused c =
    rw (is_model_table, sym c.shape.ensures ∙ c.if-not-shape.false, sym c.unused.ensures ∙ c.if-not-unused.true)

pub used-requires : goal.used-requires
used-requires c =
    shaped c.args.t.now (sym c.shape.ensures ∙ c.if-not-shape.false)

pub returns-then-not-used : goal.returns-then-not-used
unfolding is_model_table
returns-then-not-used c =
    rw (
      is_model_table,
      sym c.shape.ensures ∙ c.if-not-shape.false,
      sym c.unused.ensures ∙ c.if-not-unused.false,
      sym c.used.ensures ∙ c.if-not-used.true,
    )

pub lists_once-requires : goal.lists_once-requires
lists_once-requires c =
    tested-good c.args.texts c.args.t.now c.requires
    (sym c.shape.ensures ∙ c.if-not-shape.false)
    (sym c.unused.ensures ∙ c.if-not-unused.false)
    (sym c.used.ensures ∙ c.if-not-used.false)

pub returns : goal.returns
unfolding is_model_table
returns c =
    rw (
      is_model_table,
      sym c.shape.ensures ∙ c.if-not-shape.false,
      sym c.unused.ensures ∙ c.if-not-unused.false,
      sym c.used.ensures ∙ c.if-not-used.false,
    )
    c.lists_once.ensures
