use Rattle.pairing.specs.Keys.{NoMark}
use Rattle.pairing.proofs.marks.next_marked.Given as goal

-- the mark stands nowhere between `from` and k
abbrev pub invariant-loop-k : goal.invariant-loop-k
invariant-loop-k l = NoMark l.marks l.mark l.from l.k
