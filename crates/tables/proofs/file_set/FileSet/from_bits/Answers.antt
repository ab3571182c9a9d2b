use mathlib.Core.Path.{refl}
use Rattle.tables.specs.SetCells.{set_is}
use Rattle.tables.proofs.file_set.FileSet.from_bits.Goals as goal

pub returns : goal.returns
unfolding set_is
returns c = refl
