use mathlib.Core.Path.{sym, ◌∙◌}
use borrow.Author.Rules.{rules}
use borrow.Author.Tests.{eqb-true}
use Rattle.tables.specs.SchemaTable.{schema_of}
use Rattle.state_test.proofs.Laws.Roots.{row_kept}
use Rattle.state_test.proofs.roots.row_again.Goals as goal

pub returns-then-eq-2 : goal.returns-then-eq-2
returns-then-eq-2 c =
    row_kept (schema_of c.args.schema.now) c.args.row c.args.t.0 c.args.n.0 c.requires.found_row (search rules) c.row_type.ensures c.row_name.ensures
    (eqb-true _ _ (sym c.eq.ensures ∙ c.if-eq.true)) (eqb-true _ _ (sym c.eq-then-eq.ensures ∙ c.if-eq-2.true))
