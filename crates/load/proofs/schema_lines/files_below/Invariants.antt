use mathlib.Core.Path.{◌≡◌}
use Prim.Native.Nat.{ℕ}
use mathlib.Core.Bool.{Bool}
use lib.Dec.{ltb}
use lib.ListN.{drop}
use Rattle.tables.specs.Lists.{all_of}
use Rattle.tables.specs.Records.{File}
use Rattle.tables.specs.SchemaTable.{schema_of}
use Rattle.load.proofs.schema_lines.files_below.Given as goal

abbrev below : ℕ → File → Bool
below f d = ltb d.file f

-- the files not looked at yet decide
abbrev pub invariant-loop-i : goal.invariant-loop-i
invariant-loop-i l = all_of (below l.f.0) (drop l.i (schema_of l.schema).files) ≡ all_of (below l.f.0) (schema_of l.schema).files
