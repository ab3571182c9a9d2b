use mathlib.Core.Path.{refl, sym, ◌∙◌}
use Rattle.tables.specs.SchemaTable.{schema_of}
use Rattle.tables.specs.SetCells.{set_is}
use Rattle.deck.specs.Schema.{least_version}
use Rattle.schema_calls.proofs.Laws.Files.{least_more, least-end}
use borrow.Author.Rules.{rules}
use Rattle.schema_calls.proofs.files.least_version.Goals as goal

pub loop-i-init : goal.loop-i-init
unfolding least_version
loop-i-init c = refl

pub loop-i-preserved : goal.loop-i-preserved
loop-i-preserved c =
    least_more (schema_of c.args.schema.now).files c.loop-i.i (set_is c.args.s) c.loop-i.least (search rules) c.file_number-f.ensures c.file_version-w.ensures c.least_with-least.ensures ∙ c.loop-i.invariant

pub returns : goal.returns
returns c =
    sym (least-end (schema_of c.args.schema.now).files c.loop-i.i (set_is c.args.s) c.loop-i.least (search rules)) ∙ c.loop-i.invariant
