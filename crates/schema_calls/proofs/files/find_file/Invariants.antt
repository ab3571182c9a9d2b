use mathlib.Core.Path.{◌≡◌}
use lib.ListN.{drop}
use Rattle.tables.specs.Lists.{first_of}
use Rattle.tables.specs.SchemaTable.{schema_of}
use Rattle.schema_calls.specs.Calls.{file_matches}
use Rattle.schema_calls.proofs.files.find_file.Given as goal

-- the first row of the file stands behind those passed, if there is one
abbrev pub invariant-loop-i : goal.invariant-loop-i
invariant-loop-i l = first_of (file_matches l.f.0) (drop l.i (schema_of l.schema).files) ≡ first_of (file_matches l.f.0) (schema_of l.schema).files
