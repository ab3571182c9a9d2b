use mathlib.Core.Bool.{false}
use mathlib.Core.Path.{◌≡◌}
use Rattle.pairing.specs.Keys.{NoMark}
use Rattle.pairing.proofs.marks.any_marked.Given as goal

-- if it was not found, it does not stand before the index
abbrev pub invariant-loop-m : goal.invariant-loop-m
invariant-loop-m l = l.found ≡ false → NoMark l.marks l.mark 0 l.m-index
