-- The measure is the levels left, three steps to a level.
use Rattle.std.proofs.Common.{List, ℕ, suc, ◌+◌, ◌*◌, drop}
use Rattle.tables.specs.Records.{Item, depth_of, list_of}
use Rattle.tables.specs.ModelTable.{model_of}
use Rattle.state_test.specs.StateTest.{fixed_in}
use Rattle.merge_rules.specs.Program.{item_lines, element_lines}
use Rattle.printing.specs.Buffers.{buffer_is}
use Rattle.printing.proofs.Laws.Buffers.{Leaves}
use Rattle.printing.proofs.trees.+tree.Given as goal

abbrev pub decreases-append_element : goal.decreases-append_element
decreases-append_element l = 3 * l.left

abbrev pub decreases-append_item : goal.decreases-append_item
decreases-append_item l = 3 * l.left + 1

abbrev pub decreases-append_items : goal.decreases-append_items
decreases-append_items l = 3 * l.left + 2

abbrev items : List ℕ → List ℕ → List ℕ → List ℕ → ℕ → ℕ → List Item → List ℕ
items deck elements model schema left e l =
    item_lines
    (element_lines left (fixed_in deck schema elements) (model_of model))
    (fixed_in deck schema elements)
    (suc (depth_of (fixed_in deck schema elements) e))
    l

abbrev pub invariant-append_items-loop-i : goal.invariant-append_items-loop-i
invariant-append_items-loop-i l =
    (schema : List ℕ)
    → Leaves
    (buffer_is l.initial.k l.initial.out)
    (items l.deck l.elements l.model schema l.left l.e.0 (list_of (model_of l.model) l.e.0))
    (buffer_is l.k l.out)
    (items l.deck l.elements l.model schema l.left l.e.0 (drop l.i (list_of (model_of l.model) l.e.0)))
