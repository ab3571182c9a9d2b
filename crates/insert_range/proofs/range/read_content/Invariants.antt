use mathlib.Core.List.{List}
use mathlib.Core.Path.{◌≡◌}
use Prim.Native.Nat.{ℕ}
use lib.ListN.{get_or, drop}
use Rattle.tables.specs.Records.{list_of}
use Rattle.tables.specs.ModelTable.{model_of}
use Rattle.tables.specs.SchemaTable.{schema_of, no_sub_element}
use Rattle.state_test.specs.StateTest.{fixed_in}
use Rattle.merge_rules.specs.Range.{read_content}
use Rattle.insert_range.specs.Range.{Compares}
use Rattle.insert_range.proofs.range.read_content.Given as goal

-- the items from place i on give, from the bounds so far, the whole answer; the order is that of the name so far
abbrev pub invariant-loop-i : goal.invariant-loop-i
invariant-loop-i l =
    Compares l.schema l.t.0 l.new l.name.0 l.against
    × ((deck : List ℕ) → read_content (fixed_in deck l.schema l.elements) l.p.0 (get_or (schema_of l.schema).sub_elements l.new no_sub_element) (drop l.i (list_of (model_of l.model) l.p.0)) l.i l.bounds.first l.bounds.last ≡ read_content (fixed_in deck l.schema l.elements) l.p.0 (get_or (schema_of l.schema).sub_elements l.new no_sub_element) (list_of (model_of l.model) l.p.0) 0 0 0)
