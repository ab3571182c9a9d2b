use mathlib.Core.Path.{refl}
use borrow.Author.Rules.{rules}
use Rattle.tables.proofs.Laws.ElementsTable.{added-element}
use Rattle.tables.proofs.elements.add_element_row.Goals as goal

pub returns : goal.returns
returns c =
    rw c.push_row.ensures
    (added-element c.args.elements.now (search rules) _ _ c.args.n.0 c.args.t.0 c.args.depth (search rules) c.element_count-m.ensures refl)
