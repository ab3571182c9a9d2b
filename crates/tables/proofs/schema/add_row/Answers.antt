use mathlib.Core.Path.{refl}
use borrow.Author.Rules.{rules}
use Rattle.tables.specs.Paths.{cells_of, parts_of}
use Rattle.tables.specs.SchemaTable.{mult_is}
use Rattle.tables.proofs.Laws.SchemaTable.{added-row, row-cells, length_front}
use Rattle.tables.proofs.schema.add_row.Goals as goal

pub returns : goal.returns
returns c =
    rw (c.link-2.ensures, c.link.ensures, c.push_row.ensures)
    (added-row c.args.schema.now (search rules) _ _ _
    (record {
      type = c.args.t.0;
      path = parts_of c.args.p;
      name = c.args.n.0;
      child_type = c.args.child.0;
      mult = mult_is c.args.mult;
      mask = c.args.mask;
    })
    _ _ (length_front (cells_of c.args.p)) (search rules) c.row_count-m.ensures
    (row-cells c.args.t.0 _ _ _ _ (parts_of c.args.p) c.stored_path-q.ensures c.args.n.0 c.args.child.0 (mult_is c.args.mult) c.args.mask c.number.ensures)
    refl c.bucket.ensures.value c.path_bucket.ensures.value)
