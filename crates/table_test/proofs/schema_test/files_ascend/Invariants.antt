use Rattle.table_test.specs.AreaTest.{rows_in}
use Rattle.table_test.specs.SchemaTest.{files_ascend}
use lib.ListN.{drop}
use Prim.Native.Nat.{◌-◌}
use mathlib.Core.Path.{◌≡◌}
use Rattle.table_test.proofs.schema_test.files_ascend.Given as goal

-- the files from the one before i on ascend where all do
abbrev pub invariant-loop-i : goal.invariant-loop-i
invariant-loop-i l = files_ascend (drop (l.i - 1) (rows_in 2 l.count l.area)) ≡ files_ascend (rows_in 2 l.count l.area)
