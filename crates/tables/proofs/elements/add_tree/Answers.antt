use mathlib.Core.Path.{refl}
use borrow.Author.Rules.{rules}
use Rattle.tables.proofs.Laws.ElementsTable.{added-tree}
use Rattle.tables.proofs.elements.add_tree.Goals as goal

pub returns : goal.returns
returns c =
    rw c.push_row.ensures
    (added-tree c.args.elements.now (search rules) _ _ (record { file = c.args.f.0; root = c.args.root.0 }) (search rules) c.tree_count-m.ensures refl)
