use lib.ListN.{get_or}
use Rattle.tables.specs.SchemaTable.{schema_of, no_sub_element}
use Rattle.state_test.proofs.Laws.Schemas.{row-fields}
use Rattle.state_test.proofs.schema.row_cells.Goals as goal

pub returns : goal.returns
returns c =
    row-fields (get_or (schema_of c.args.schema.now).sub_elements c.args.i no_sub_element) c.row_type.ensures c.row_path.ensures c.row_name.ensures c.row_child.ensures c.row_mult.ensures c.row_mask.ensures
