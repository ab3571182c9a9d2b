use Rattle.output.specs.Replies.{run_output}
use Rattle.output.proofs.print.print_output.Goals as goal

pub returns : goal.returns
unfolding run_output
returns c = c.print_run.ensures
