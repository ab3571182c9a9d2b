use mathlib.Core.Path.{◌∙◌}
use Rattle.pairing.specs.Lent.{fixed_of, model_in}
use Rattle.pairs.proofs.Laws.Settle.{keyed-named, keyed-unnamed}
use Rattle.pairs.proofs.settle.is_keyed.Goals as goal

pub returns-then-is_identifiable : goal.returns-then-is_identifiable
returns-then-is_identifiable c =
    c.if-is_identifiable.true ∙ keyed-named (fixed_of c.args.tables.now) (model_in c.args.tables.now) c.args.a.0 c.is_identifiable.ensures c.if-is_identifiable.true

pub returns-else-is_identifiable : goal.returns-else-is_identifiable
returns-else-is_identifiable c =
    c.is_some.ensures ∙ keyed-unnamed (fixed_of c.args.tables.now) (model_in c.args.tables.now) c.args.a.0 c.is_identifiable.ensures c.if-is_identifiable.false c.definition_child.result c.definition_child.ensures
