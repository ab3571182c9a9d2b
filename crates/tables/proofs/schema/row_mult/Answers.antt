use mathlib.Core.Path.{ap, ◌∙◌}
use Rattle.tables.specs.SchemaTable.{mult_from}
use Rattle.tables.proofs.Laws.SchemaTable.{mult-back}
use Rattle.tables.proofs.schema.row_mult.Goals as goal

pub returns : goal.returns
returns c = c.from_number.ensures ∙ ap mult_from c.row_cell.ensures ∙ mult-back _
