use Rattle.printing.proofs.Laws.Buffers.{then, reads}
use Rattle.printing.proofs.Laws.Trees.{trees-parts}
use Rattle.printing.proofs.trees.append_trees.Goals as goal

pub returns : goal.returns
returns c =
    λ schema.
    reads
    (trees-parts _ _)
    (then c.append_bytes-k.ensures (then (c.append_model-l.ensures schema) (c.append_waiting.ensures schema)))
