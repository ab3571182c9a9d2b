use mathlib.Core.Path.{◌≡◌}
use lib.ListN.{length}
use Rattle.tables.specs.ElementsTable.{elements_of}
use Rattle.state_test.specs.StateTest.{fixed_in, state_in}
use Rattle.merge_rules.specs.Program.{merge_lines}
use Rattle.printing.specs.Buffers.{buffer_is}
use Rattle.output.proofs.Laws.Runs.{TreesLeft}
use Rattle.output.proofs.print.merge_trees.Given as goal

abbrev pub invariant-loop-t : goal.invariant-loop-t
invariant-loop-t l =
    TreesLeft l.deck l.schema l.elements (buffer_is l.initial.k l.initial.out) (merge_lines (fixed_in l.deck l.schema l.elements) (elements_of l.elements).trees (state_in l.initial.model l.initial.log)) (buffer_is l.k l.out) l.t l.n l.model l.log
    × (length l.model ≡ length l.initial.model) × (length l.log ≡ length l.initial.log)
