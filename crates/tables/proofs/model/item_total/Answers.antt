use mathlib.Core.Path.{◌∙◌}
use native.Mathlib.Nat.{le_refl}
use Rattle.tables.proofs.Laws.ModelTable.{read-start, start-total}
use Rattle.tables.proofs.model.item_total.Goals as goal

pub returns : goal.returns
returns c =
    rw c.count-i.ensures (read-start c.args.model.now c.requires _ (le_refl _) ∙ start-total c.args.model.now c.requires)
