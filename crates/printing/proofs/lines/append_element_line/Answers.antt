use mathlib.Core.Path.{◌∙◌}
use Rattle.printing.proofs.Laws.Buffers.{reads}
use Rattle.printing.proofs.Laws.Lines.{element-line}
use Rattle.printing.proofs.lines.append_element_line.Goals as goal

pub returns : goal.returns
returns c =
    λ schema.
    reads
    (element-line _ _ _ c.element_depth-depth.ensures c.element_name-name.ensures (c.bits.ensures ∙ c.set_of-set.ensures))
    c.append_row.ensures
