use mathlib.Core.Path.{◌∙◌}
use Rattle.tables.proofs.Laws.ModelTable.{read_set}
use Rattle.tables.proofs.model.set_of.Goals as goal

pub returns : goal.returns
returns c =
    c.read_set.ensures ∙ read_set c.args.model.now c.requires.good_model c.args.e.0 c.requires.e_bound
