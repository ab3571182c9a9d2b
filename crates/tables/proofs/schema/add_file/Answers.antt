use mathlib.Core.Path.{refl}
use borrow.Author.Rules.{rules}
use Rattle.tables.proofs.Laws.SchemaTable.{added-file}
use Rattle.tables.proofs.schema.add_file.Goals as goal

pub returns : goal.returns
returns c =
    rw c.push_row.ensures
    (added-file c.args.schema.now (search rules) _ _ _ (record { file = c.args.f.0; version = c.args.version }) (search rules) c.file_count-m.ensures refl refl)
