use mathlib.Core.Path.{refl, ap}
use Rattle.std.specs.Prelude.{is_some}
use Rattle.load.specs.LoadCall.{sizes_fit, load_answer}
use Rattle.output.specs.Replies.{list_in}
use Rattle.output.proofs.Laws.Runs.{refused-run, loaded-run, loaded-stands}
use Rattle.output.proofs.print.print_run.Goals as goal

pub returns-in-Err : goal.returns-in-Err
unfolding sizes_fit load_answer
returns-in-Err c =
    refused-run c.args.deck.now (list_in c.args.calls) (is_some c.args.calls) c.args.from c.args.out.now _ c.load.ensures refl (ap load_answer c.in-Err.is)
    (rw c.number.ensures at c.append_refused_deck.ensures)

pub run-requires : goal.run-requires
unfolding load_answer
run-requires c = loaded-stands c.args.deck.now _ c.load.ensures (ap load_answer c.in_default.is)

pub returns : goal.returns
unfolding load_answer
returns c =
    loaded-run c.args.deck.now (list_in c.args.calls) (is_some c.args.calls) c.args.from c.args.out.now _ c.load.ensures (ap load_answer c.in_default.is)
    c.run.ensures
