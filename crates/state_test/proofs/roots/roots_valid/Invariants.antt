use mathlib.Core.Path.{◌≡◌}
use mathlib.Core.List.{List}
use Prim.Native.Nat.{ℕ}
use lib.ListN.{drop}
use Rattle.tables.specs.Lists.{all_of}
use Rattle.tables.specs.Records.{Tree}
use Rattle.tables.specs.ElementsTable.{elements_of}
use Rattle.state_test.specs.StateTest.{root_valid, fixed_in}
use Rattle.state_test.proofs.roots.roots_valid.Given as goal

-- the roots of the trees from i on are valid where all are
abbrev pub invariant-loop-i : goal.invariant-loop-i
invariant-loop-i l = (deck schema : List ℕ) → all_of (λ (t : Tree). root_valid (fixed_in deck schema l.elements) t.root) (drop l.i (elements_of l.elements).trees) ≡ all_of (λ (t : Tree). root_valid (fixed_in deck schema l.elements) t.root) (elements_of l.elements).trees
