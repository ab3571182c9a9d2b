use Rattle.std.proofs.Common.{arith}
use Rattle.tables.specs.Records.{type_row}
use Rattle.tables.specs.SchemaTable.{schema_of}
use Rattle.insert_range.proofs.Laws.Range.{any_place}
use Rattle.insert_range.proofs.range.takes_any_place.Goals as goal

pub returns-in-2 : goal.returns-in-2
returns-in-2 c =
    let sc = schema_of c.args.schema.now in
    λ _.
    rw (← c.element_type-t.ensures)
    (any_place (type_row sc c.element_type-t.result.0).mode (rw (← c.type_mode-mode.ensures) (omega arith)) (rw (← c.type_mode-mode.ensures) (omega arith)))
