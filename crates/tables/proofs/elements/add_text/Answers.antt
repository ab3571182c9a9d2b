use mathlib.Core.List.{[], ◌∷◌}
use Prim.Native.Nat.{◌+◌, ◌*◌}
use borrow.Author.Rules.{rules}
use Rattle.tables.specs.Cells.{puts}
use Rattle.tables.specs.ElementsTable.{texts_at, text_width}
use Rattle.tables.specs.Texts.{stored_is}
use Rattle.tables.proofs.Laws.ElementsTable.{added-text}
use Rattle.tables.proofs.Laws.Texts.{stored_fits}
use Rattle.tables.proofs.elements.add_text.Goals as goal

pub returns : goal.returns
returns c =
    rw c.push_row.ensures
    (added-text c.args.elements.now (search rules) _ _ (stored_is c.args.t) (stored_fits c.args.t c.requires.stored_fits) (search rules) c.text_count-m.ensures
    (λ i. puts c.args.elements.now (texts_at + c.text_count-m.result * text_width) (c.kind.ensures i ∷ c.value.ensures i ∷ [])))
