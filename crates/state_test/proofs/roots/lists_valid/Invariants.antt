use mathlib.Core.Path.{◌≡◌}
use mathlib.Core.List.{List}
use Prim.Native.Nat.{ℕ}
use lib.ListN.{drop}
use Rattle.tables.specs.ModelTable.{model_of}
use Rattle.tables.specs.SchemaTable.{schema_of}
use Rattle.state_test.specs.StateTest.{lists_valid, fixed_in, FoundRow}
use Rattle.state_test.proofs.roots.lists_valid.Given as goal

-- the lists from p on are valid where all are; the row found last is what its name has in its type
abbrev pub invariant-loop-p : goal.invariant-loop-p
invariant-loop-p l =
    ((deck : List ℕ) → lists_valid (fixed_in deck l.schema l.elements) l.p (drop l.p (model_of l.model).lists) ≡ lists_valid (fixed_in deck l.schema l.elements) 0 (model_of l.model).lists)
    × FoundRow (schema_of l.schema) l.last
