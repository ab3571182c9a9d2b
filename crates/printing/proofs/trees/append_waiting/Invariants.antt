use mathlib.Core.List.{List}
use Prim.Native.Nat.{ℕ}
use lib.ListN.{drop}
use Rattle.tables.specs.ElementsTable.{elements_of}
use Rattle.tables.specs.ModelTable.{model_of}
use Rattle.state_test.specs.StateTest.{fixed_in}
use Rattle.printing.specs.Buffers.{buffer_is}
use Rattle.printing.proofs.Laws.Buffers.{Leaves}
use Rattle.printing.proofs.Laws.Trees.{kept_lines}
use Rattle.printing.proofs.trees.append_waiting.Given as goal

abbrev pub invariant-loop-t : goal.invariant-loop-t
invariant-loop-t l =
    (schema : List ℕ)
    → Leaves
    (buffer_is l.initial.k l.initial.out)
    (kept_lines (fixed_in l.deck schema l.elements) (model_of l.model) (elements_of l.elements).trees)
    (buffer_is l.k l.out)
    (kept_lines (fixed_in l.deck schema l.elements) (model_of l.model) (drop l.t (elements_of l.elements).trees))
