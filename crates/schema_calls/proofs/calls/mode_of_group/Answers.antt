use mathlib.Core.List.{[], ◌∷◌}
use mathlib.Core.Path.{ap, ◌∙◌}
use Rattle.tables.specs.SchemaTable.{schema_of, mode_number}
use Rattle.schema_calls.proofs.Laws.Scans.{found-at, found-missing}
use Rattle.schema_calls.proofs.Laws.Groups.{mode-empty, mode-at, mode-none}
use Rattle.schema_calls.proofs.calls.mode_of_group.Goals as goal

pub returns-then-p-eq0 : goal.returns-then-p-eq0
returns-then-p-eq0 c =
    c.type_mode.ensures ∙ ap mode_number (mode-empty (schema_of c.args.schema.now) c.args.t.0 c.args.p.0 (c.args.p.1 ∷ c.args.p.2 ∷ c.args.p.3 ∷ []) c.if-p-eq0.true)

pub returns-in-Some : goal.returns-in-Some
returns-in-Some c =
    c.group_mode.ensures
    ∙ ap mode_number (mode-at (schema_of c.args.schema.now) c.args.t.0 c.args.p.0 (c.args.p.1 ∷ c.args.p.2 ∷ c.args.p.3 ∷ []) c.group_count-count.result c.group_count-count.ensures c.if-p-eq0.false (found-at c.find_group.ensures c.in-Some.is))

pub returns-in-None : goal.returns-in-None
returns-in-None c =
    c.type_mode-in-None.ensures
    ∙ ap mode_number (mode-none (schema_of c.args.schema.now) c.args.t.0 c.args.p.0 (c.args.p.1 ∷ c.args.p.2 ∷ c.args.p.3 ∷ []) c.group_count-count.result c.group_count-count.ensures c.if-p-eq0.false (found-missing c.find_group.ensures c.in-None.is))
