use mathlib.Core.Path.{sym}
use Rattle.tables.specs.ModelTable.{model_of}
use Rattle.merge_log.proofs.Laws.Runs.{none-leave, run-keeps}
use borrow.Author.Rules.{rules}
use Rattle.merge_log.proofs.log.remove_run.Goals as goal

pub returns-then-r-eq0-clause-holds_model : goal.returns-then-r-eq0-clause-holds_model
returns-then-r-eq0-clause-holds_model c =
    record { good = c.requires.good_model; is = sym (none-leave (model_of c.args.model.now) c.args.r c.if-r-eq0.true) }

pub returns-clause-keeps_model : goal.returns-clause-keeps_model
returns-clause-keeps_model c =
    run-keeps c.args.model.now c.args.r c.remove_items.new.model c.requires.good_model (search rules) c.requires.run_in c.remove_items.ensures
