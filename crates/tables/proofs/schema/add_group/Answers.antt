use mathlib.Core.Path.{refl}
use borrow.Author.Rules.{rules}
use Rattle.tables.specs.Paths.{cells_of, parts_of}
use Rattle.tables.specs.SchemaTable.{mode_from}
use Rattle.tables.proofs.Laws.SchemaTable.{added-group, group-cells, length_front}
use Rattle.tables.proofs.schema.add_group.Goals as goal

pub returns : goal.returns
returns c =
    rw (c.link.ensures, c.push_row.ensures)
    (added-group c.args.schema.now (search rules) _ _ _ (record { type = c.args.t.0; path = parts_of c.args.p; mode = mode_from c.args.mode }) _
    (length_front (cells_of c.args.p)) (search rules) c.group_count-m.ensures
    (group-cells c.args.t.0 _ _ _ _ (parts_of c.args.p) c.stored_path-q.ensures c.args.mode (search rules))
    refl c.path_bucket.ensures.value)
