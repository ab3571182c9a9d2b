use mathlib.Core.Path.{◌≡◌}
use Prim.Native.Nat.{◌≤◌}
use lib.ListN.{length, take}
use Rattle.tables.specs.Records.{list_of}
use Rattle.tables.specs.ModelTable.{model_of}
use Rattle.merge_rules.specs.Pairing.{children}
use Rattle.pairing.specs.Plans.{CopiedRows}
use Rattle.pairing.proofs.children.copy_rows.Given as goal

-- the rows hold the children among the items so far
abbrev pub invariant-loop-i : goal.invariant-loop-i
invariant-loop-i g l =
    (l.k ≤ l.i) × (length l.work ≡ length l.initial.work) × CopiedRows g.row.WIDTH l.work l.k (children (take l.i (list_of (model_of l.model) l.e.0)))
