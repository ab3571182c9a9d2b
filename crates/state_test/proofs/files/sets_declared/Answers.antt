use mathlib.Core.Path.{◌∙◌}
use native.Mathlib.Omega.{arith}
use Rattle.tables.specs.ModelTable.{model_of}
use Rattle.state_test.specs.StateTest.{set_declared}
use Rattle.state_test.proofs.Laws.Files.{set_tested}
use Rattle.tables.proofs.Laws.Scans.{all-next, all_done}
use Rattle.state_test.proofs.files.sets_declared.Goals as goal

pub loop-e-preserved : goal.loop-e-preserved
loop-e-preserved c =
    let sized = c.requires.sized.sets in
    λ sc k.
    rw (set_tested sc k c.part_of-all.ensures c.set_of.ensures) (all-next (set_declared sc) c.loop-e.all (model_of c.args.model.now).sets c.loop-e.e 0 (omega arith)) ∙ c.loop-e.invariant sc k

pub returns : goal.returns
returns c =
    let sized = c.requires.sized.sets in
    λ sc k. all_done (set_declared sc) c.loop-e.all (model_of c.args.model.now).sets c.loop-e.e (omega arith) ∙ c.loop-e.invariant sc k
