use mathlib.Core.Path.{ap, ◌∙◌}
use Rattle.tables.specs.ModelTable.{cell_parent}
use Rattle.tables.proofs.Laws.ModelTable.{read-parent, cell_parent-back}
use Rattle.tables.proofs.model.parent_of.Goals as goal

pub returns : goal.returns
returns c =
    c.cell_parent.ensures ∙ ap cell_parent (read-parent c.args.model.now c.requires.good_model c.args.e.0 c.requires.e_bound) ∙ cell_parent-back _
