use Prim.Native.Nat.{◌+◌, ◌*◌}
use Rattle.tables.specs.SetCells.{set_is}
use Rattle.level.specs.Lent.{fixed_of}
use Rattle.merge_rules.specs.Level.{merge_element}
use Rattle.level.proofs.Laws.Level.{PairsLeft}
use Rattle.level.proofs.level.+levels.Given as goal

abbrev pub decreases-merge_apart : goal.decreases-merge_apart
decreases-merge_apart l = 4 * l.depth + 1

abbrev pub decreases-merge_element : goal.decreases-merge_element
decreases-merge_element l = 4 * l.depth

abbrev pub decreases-merge_pair : goal.decreases-merge_pair
decreases-merge_pair l = 4 * l.depth + 2

abbrev pub decreases-merge_sub_elements : goal.decreases-merge_sub_elements
decreases-merge_sub_elements l = 4 * l.depth + 3

-- the pairs of the rows before i are done: those from i on do to the tables what is left of the whole
abbrev pub invariant-merge_sub_elements-loop-i : goal.invariant-merge_sub_elements-loop-i
invariant-merge_sub_elements-loop-i l =
    PairsLeft (merge_element l.depth (fixed_of l.fixed) l.d.file.0) l.fixed.deck.now l.fixed.schema.now l.fixed.elements.now l.d.file.0 l.v l.p.0 (set_is l.d.files) l.na l.initial.work l.initial.model l.initial.log l.work l.model l.log l.i
