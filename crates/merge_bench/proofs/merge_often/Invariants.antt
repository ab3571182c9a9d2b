-- At most one for each turn, and the tables keep their lengths.
use Rattle.std.proofs.Common.{◌≡◌, ◌≤◌, length}
use Rattle.merge_bench.proofs.merge_often.Given as goal

abbrev pub invariant-loop : goal.invariant-loop
invariant-loop l = (l.n ≤ l.counter) × (length l.model ≡ length l.initial.model) × (length l.log ≡ length l.initial.log)
