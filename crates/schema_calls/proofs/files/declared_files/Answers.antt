use mathlib.Core.Path.{◌∙◌}
use Rattle.tables.specs.SchemaTable.{schema_of}
use Rattle.deck.specs.Schema.{declared_files}
use Rattle.schema_calls.proofs.Laws.Files.{files-none, files-more, files-all}
use borrow.Author.Rules.{rules}
use Rattle.schema_calls.proofs.files.declared_files.Goals as goal

pub loop-i-init : goal.loop-i-init
loop-i-init c = (search rules, c.none-s.ensures ∙ files-none (schema_of c.args.schema.now).files _ c.file_count-i.ensures)

pub loop-i-preserved : goal.loop-i-preserved
loop-i-preserved c =
    (search rules, files-more (schema_of c.args.schema.now).files c.loop-i.i _ _ _ (search rules) (search rules) c.loop-i.invariant.1 c.file_number.ensures c.with-s.ensures)

pub returns : goal.returns
unfolding declared_files
returns c =
    files-all (schema_of c.args.schema.now).files c.loop-i.i _ (search rules) c.loop-i.invariant.1
