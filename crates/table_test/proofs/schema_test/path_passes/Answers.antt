use mathlib.Core.Path.{refl}
use Rattle.table_test.specs.RowTests.{path_passes}
use Rattle.table_test.proofs.schema_test.path_passes.Goals as goal

pub returns : goal.returns
unfolding path_passes
returns c = refl
