use mathlib.Core.Path.{refl}
use Rattle.tables.specs.SetCells.{set_is, set_cells}
use Rattle.tables.proofs.file_set.store_set.Goals as goal

pub returns : goal.returns
unfolding set_is set_cells
returns c = refl
