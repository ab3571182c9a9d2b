use mathlib.Core.Bool.{not}
use mathlib.Core.Path.{ap, ◌∙◌}
use native.Mathlib.Omega.{arith}
use borrow.Author.Tests.{eq-eqb}
use Rattle.tables.specs.ModelTable.{model_of}
use Rattle.state_test.specs.StateTest.{root_set_stored}
use Rattle.state_test.proofs.Laws.Files.{no-root-set}
use Rattle.state_test.proofs.files.root_set_stored.Goals as goal

pub returns-then-count-ne0 : goal.returns-then-count-ne0
unfolding root_set_stored
returns-then-count-ne0 c = rw (c.is_empty.ensures, c.set_of.ensures)

pub returns-else-count-ne0 : goal.returns-else-count-ne0
returns-else-count-ne0 c =
    let s = c.requires.sized.sets in
    ap not (eq-eqb c.count.result 0 (omega arith)) ∙ no-root-set (model_of c.args.model.now) (omega arith)
