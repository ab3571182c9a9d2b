use mathlib.Core.Path.{◌∙◌}
use borrow.Author.Rules.{rules}
use Rattle.tables.proofs.Laws.SchemaTable.{index-link}
use Rattle.tables.proofs.index.latest_above.Goals as goal

pub returns : goal.returns
returns c =
    c.place_in.ensures ∙ rw (← c.at-at.ensures.value) at (index-link c.args.schema.now (search rules) c.args.x c.args.i (search rules))
