use mathlib.Core.Path.{refl}
use Rattle.tables.specs.FileSets.{part_of}
use Rattle.tables.specs.SetCells.{set_is}
use Rattle.tables.proofs.file_set.FileSet.part_of.Goals as goal

pub returns : goal.returns
unfolding part_of set_is
returns c = refl
