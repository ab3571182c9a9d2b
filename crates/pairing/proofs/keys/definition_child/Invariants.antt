use mathlib.Core.Path.{◌≡◌}
use lib.ListN.{drop}
use Rattle.tables.specs.Lists.{first_of}
use Rattle.tables.specs.Records.{list_of}
use Rattle.merge_rules.specs.Pairing.{children, definition_child}
use Rattle.pairing.proofs.Laws.Keys.{is_definition}
use Rattle.pairing.specs.Lent.{fixed_of, model_in}
use Rattle.pairing.proofs.keys.definition_child.Given as goal

-- the first DEFINITION-REF among the items that are left is the element's
abbrev pub invariant-loop-i : goal.invariant-loop-i
invariant-loop-i l =
    first_of (is_definition (fixed_of l.tables)) (children (drop l.i (list_of (model_in l.tables) l.e.0))) ≡ definition_child (fixed_of l.tables) (model_in l.tables) l.e.0
