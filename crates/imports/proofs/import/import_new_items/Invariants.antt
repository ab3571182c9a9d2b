use Prim.Native.Nat.{◌-◌}
use Rattle.imports.proofs.Laws.Imports.{ImportsLeft}
use Rattle.imports.proofs.import.import_new_items.Given as goal

-- the first i rows are imported
abbrev pub invariant-loop-i : goal.invariant-loop-i
invariant-loop-i l =
    ImportsLeft l.schema l.elements l.work l.rows.first l.rows.new l.f.0 l.v l.p.0 l.initial.model l.initial.log l.model l.log l.i

abbrev pub decreases-loop-i : goal.decreases-loop-i
decreases-loop-i l =
    l.rows.new - l.i
