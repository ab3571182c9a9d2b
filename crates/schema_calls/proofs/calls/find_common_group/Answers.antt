use mathlib.Core.Path.{ap, ◌∙◌}
use Rattle.tables.specs.Records.{SchemaPath}
use Rattle.tables.specs.SchemaTable.{schema_of, mode_number}
use Rattle.deck.specs.Schema.{group_mode, find_common_group}
use Rattle.schema_calls.proofs.calls.find_common_group.Goals as goal

pub returns : goal.returns
unfolding find_common_group
returns c =
    c.mode_of_group.ensures ∙ ap (λ (x : SchemaPath). mode_number (group_mode (schema_of c.args.schema.now) c.args.t.0 x)) c.shared-both.ensures
