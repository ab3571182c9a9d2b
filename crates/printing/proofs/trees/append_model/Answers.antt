use Rattle.printing.proofs.Laws.Buffers.{reads}
use Rattle.printing.proofs.Laws.Trees.{model-parts}
use Rattle.printing.proofs.trees.append_model.Goals as goal

pub returns : goal.returns
returns c = λ schema. reads (model-parts _ _) (c.append_element.ensures schema)
