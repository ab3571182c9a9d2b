use Rattle.pairing.proofs.Laws.Keys.{name-missing, name-found}
use Rattle.pairing.specs.Lent.{fixed_of, model_in}
use Rattle.pairing.proofs.keys.item_name.Goals as goal

pub returns-in_err-c : goal.returns-in_err-c
returns-in_err-c c =
    let x = fixed_of c.args.tables.now in
    let m = model_in c.args.tables.now in
    rw c.from_residual.ensures (name-missing x m c.args.e.0 c.identifier.ensures c.in_err-c.was)

pub returns : goal.returns
returns c =
    let x = fixed_of c.args.tables.now in
    let m = model_in c.args.tables.now in
    name-found x m c.args.e.0 c.identifier.ensures c.in_ok-c.was c.sole_string.ensures
