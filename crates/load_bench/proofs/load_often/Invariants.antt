use Rattle.std.proofs.Common.{◌≡◌, ◌≤◌, length}
use Rattle.load_bench.proofs.load_often.Given as goal

-- each load so far took the deck at most once, and the tables keep their sizes
abbrev pub invariant-loop : goal.invariant-loop
invariant-loop l =
    (l.loaded ≤ l.counter) × (length l.schema ≡ length l.initial.schema) × (length l.elements ≡ length l.initial.elements)
    × (length l.model ≡ length l.initial.model) × (length l.log ≡ length l.initial.log)
