use Rattle.output.proofs.Laws.Runs.{listed-run, trees-run}
use Rattle.output.proofs.print.run.Goals as goal

pub returns-in-Some : goal.returns-in-Some
returns-in-Some c = listed-run _ _ _ _ _ _ _ c.in-Some.is c.answer_calls.ensures

pub returns-in-None : goal.returns-in-None
returns-in-None c = trees-run _ _ _ _ _ _ c.in-None.is c.merge_trees.ensures
