use mathlib.Core.Path.{◌∙◌}
use Rattle.pairing.proofs.Laws.Keys.{identifiable-is}
use Rattle.pairing.specs.Lent.{fixed_of, model_in}
use Rattle.pairing.proofs.keys.is_identifiable.Goals as goal

pub returns : goal.returns
returns c =
    let x = fixed_of c.args.tables.now in
    let m = model_in c.args.tables.now in
    c.is_some.ensures ∙ identifiable-is x m c.args.e.0 c.identifier.result c.identifier.ensures
