use borrow.Author.Rules.{rules}
use mathlib.Core.Path.{ap}
use mathlib.Core.List.{◌∷◌}
use Rattle.tables.specs.Records.{FileSet}
use Rattle.tables.specs.SetCells.{set_cells}
use Rattle.tables.proofs.Laws.LogTable.{popped}
use Rattle.tables.proofs.log.pop_entry.Goals as goal

pub returns : goal.returns
returns c =
    let zeros = ap (λ (s : FileSet). 0 ∷ 0 ∷ 0 ∷ 0 ∷ set_cells s) c.none.ensures in
    popped c.args.log.now (search rules) (search rules) _ _ _ c.log_length-n.ensures zeros c.put_entry.ensures
