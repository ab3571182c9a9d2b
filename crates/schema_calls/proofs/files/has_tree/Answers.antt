use mathlib.Core.Path.{refl, ◌∙◌}
use Rattle.tables.specs.ElementsTable.{elements_of}
use Rattle.schema_calls.specs.Calls.{tree_matches}
use Rattle.schema_calls.proofs.Laws.Scans.{found-any}
use Rattle.schema_calls.proofs.files.has_tree.Goals as goal

pub returns : goal.returns
returns c =
    c.is_some.ensures ∙ found-any c.tree_place.ensures (tree_matches c.args.f.0) (elements_of c.args.elements.now).trees refl
