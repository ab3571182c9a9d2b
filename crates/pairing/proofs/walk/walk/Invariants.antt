use mathlib.Core.Path.{◌≡◌}
use Prim.Native.Nat.{◌+◌, ◌-◌}
use lib.ListN.{length}
use Rattle.merge_rules.specs.Pairing.{action_of}
use Rattle.pairing.specs.Walks.{MarkedIf}
use Rattle.pairing.proofs.Laws.Levels.{WalksFrom}
use Rattle.pairing.specs.Lent.{fixed_of, model_in, element_count}
use Rattle.pairing.proofs.walk.walk.Given as goal

-- the walk from the first children came to the cursors, and the marks are written if so told
abbrev pub invariant-loop-c : goal.invariant-loop-c
invariant-loop-c l =
    WalksFrom (action_of (fixed_of l.tables) (model_in l.tables) l.t.0 l.splittable) (element_count l.tables) l.s l.initial.work l.work l.uses l.c.a l.c.b l.c.new
    × MarkedIf l.marked (fixed_of l.tables) (model_in l.tables) l.s l.work
    × (length l.work ≡ length l.initial.work)

abbrev pub decreases-loop-c : goal.decreases-loop-c
decreases-loop-c l =
    (l.s.rows - l.c.a) + (l.s.end - l.s.start - l.c.b)
