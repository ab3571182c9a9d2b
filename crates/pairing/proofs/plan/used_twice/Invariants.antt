use mathlib.Core.Path.{◌≡◌}
use lib.Dec.{ltb}
use lib.ListN.{drop}
use Rattle.tables.specs.Lists.{first_of}
use Rattle.tables.specs.Records.{Element}
use Rattle.merge_rules.specs.Pairing as rules
use Rattle.merge_rules.specs.Pairing.{first_used_twice}
use Rattle.pairing.specs.Plans.{plan_in}
use Rattle.pairing.specs.Walks.{second_children}
use Rattle.pairing.proofs.plan.used_twice.Given as goal

-- the children of B that are left give the first that is used twice
abbrev pub invariant-loop-b : goal.invariant-loop-b
invariant-loop-b l =
    first_of (λ (b : Element). ltb 1 (rules.uses (plan_in l.s.rows l.new l.work) b)) (drop l.b-index (second_children l.s l.work))
    ≡ first_used_twice (plan_in l.s.rows l.new l.work) (second_children l.s l.work)
