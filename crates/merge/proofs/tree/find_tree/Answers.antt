use mathlib.Core.Path.{refl}
use Rattle.tables.specs.ElementsTable.{elements_of}
use Rattle.merge.proofs.Laws.Trees.{tree-found, tree-missing}
use Rattle.merge.proofs.tree.find_tree.Goals as goal

pub returns : goal.returns
returns c =
    tree-found _ c.args.f.0 (elements_of c.args.elements.now).trees c.tree_place.ensures refl c.tree_root.result c.in_ok-i.was c.requires.each c.tree_root.ensures

pub returns-in_err-i : goal.returns-in_err-i
returns-in_err-i c =
    rw c.from_residual.ensures (tree-missing _ c.args.f.0 (elements_of c.args.elements.now).trees c.tree_place.ensures refl c.in_err-i.was)
