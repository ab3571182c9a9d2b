use mathlib.Core.Path.{◌∙◌}
use Rattle.tables.specs.SchemaTable.{schema_of}
use Rattle.schema_calls.proofs.Laws.Scans.{found-at, found-missing}
use Rattle.schema_calls.proofs.Laws.Files.{version-at, version-none}
use Rattle.schema_calls.proofs.files.version_of.Goals as goal

pub returns-in-Some : goal.returns-in-Some
returns-in-Some c =
    c.file_version.ensures ∙ version-at (schema_of c.args.schema.now) c.args.f.0 (found-at c.find_file.ensures c.in-Some.is)

pub returns-in-None : goal.returns-in-None
returns-in-None c =
    version-none (schema_of c.args.schema.now) c.args.f.0 (found-missing c.find_file.ensures c.in-None.is)
