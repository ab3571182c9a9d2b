use Rattle.printing.proofs.Laws.Buffers.{then, reads}
use Rattle.printing.proofs.Laws.Trees.{tree-parts}
use Rattle.printing.proofs.trees.append_tree.Goals as goal

pub returns : goal.returns
returns c =
    λ schema.
    reads
    (tree-parts _ _ _ c.tree_file-f.ensures c.tree_root-root.ensures)
    (then (then c.append_bytes-k.ensures c.append_number-l.ensures) (c.append_element.ensures schema))
