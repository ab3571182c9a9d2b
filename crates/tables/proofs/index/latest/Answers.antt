use mathlib.Core.Path.{◌∙◌}
use borrow.Author.Rules.{rules}
use Rattle.tables.proofs.Laws.SchemaTable.{index-head}
use Rattle.tables.proofs.index.latest.Goals as goal

pub returns : goal.returns
returns c =
    c.place_in.ensures ∙ rw (← c.at-at.ensures.value) at (index-head c.args.schema.now (search rules) c.args.x c.args.b (search rules))
