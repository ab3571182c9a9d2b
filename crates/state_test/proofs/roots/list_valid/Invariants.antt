use mathlib.Core.Path.{◌≡◌}
use mathlib.Core.List.{List}
use Prim.Native.Nat.{ℕ}
use lib.ListN.{drop}
use Rattle.tables.specs.Lists.{all_of}
use Rattle.tables.specs.Records.{list_of}
use Rattle.tables.specs.ModelTable.{model_of}
use Rattle.tables.specs.SchemaTable.{schema_of}
use Rattle.state_test.specs.StateTest.{item_valid, fixed_in, FoundRow}
use Rattle.state_test.proofs.roots.list_valid.Given as goal

-- the items from i on are valid where all are; the row found last is what its name has in its type
abbrev pub invariant-loop-i : goal.invariant-loop-i
invariant-loop-i l =
    ((deck : List ℕ) → all_of (item_valid (fixed_in deck l.schema l.elements) l.p.0) (drop l.i (list_of (model_of l.model) l.p.0)) ≡ all_of (item_valid (fixed_in deck l.schema l.elements) l.p.0) (list_of (model_of l.model) l.p.0))
    × FoundRow (schema_of l.schema) l.last
