use mathlib.Core.Path.{refl}
use borrow.Author.Rules.{rules}
use Rattle.tables.specs.SchemaTable.{mode_from}
use Rattle.tables.proofs.Laws.SchemaTable.{added-type, bool_cell, type-cells}
use Rattle.tables.proofs.schema.add_type.Goals as goal

pub returns : goal.returns
returns c =
    rw c.push_row.ensures
    (added-type c.args.schema.now (search rules) _ _ _ (record { mode = mode_from c.args.mode; named = c.args.named; split = c.args.split }) (search rules)
    c.type_count-m.ensures (type-cells c.args.mode _ c.args.split c.args.named (search rules) (bool_cell c.args.named)) refl)
