use mathlib.Core.Path.{refl, ◌∙◌}
use Rattle.tables.specs.SchemaTable.{schema_of}
use Rattle.deck.specs.Schema.{declares_file}
use Rattle.schema_calls.specs.Calls.{file_matches}
use Rattle.schema_calls.proofs.Laws.Scans.{found-any}
use Rattle.schema_calls.proofs.files.declares_file.Goals as goal

pub returns : goal.returns
unfolding declares_file
returns c =
    c.is_some.ensures ∙ found-any c.find_file.ensures (file_matches c.args.f.0) (schema_of c.args.schema.now).files refl
