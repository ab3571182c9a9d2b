use Rattle.pairing.specs.Keys.{is_name, key_by}
use Rattle.pairing.proofs.Laws.Marks.{Marking}
use Rattle.pairing.specs.Lent.{fixed_of, model_in}
use Rattle.pairing.proofs.marks.mark_keys.Given as goal

-- the marks of the first k children are written, and what stands before them is as it was
abbrev pub invariant-loop-k : goal.invariant-loop-k
invariant-loop-k l =
    Marking (key_by (is_name l.kind) (fixed_of l.tables) (model_in l.tables)) l.start l.n l.to l.initial.work l.work l.k
