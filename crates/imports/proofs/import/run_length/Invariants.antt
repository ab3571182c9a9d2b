use mathlib.Core.Path.{◌≡◌}
use Rattle.imports.specs.Imports.{row_place, RunOf}
use Rattle.imports.proofs.import.run_length.Given as goal

-- the first k rows go one behind the other
abbrev pub invariant-loop-k : goal.invariant-loop-k
invariant-loop-k l =
    (l.at ≡ row_place l.work l.rows.first l.i l.n) × RunOf l.work l.rows.first l.rows.new l.i l.n l.room l.k
