use Rattle.pairing.proofs.Laws.Keys.{string-missing, string-found}
use Rattle.pairing.specs.Lent.{fixed_of, model_in}
use Rattle.pairing.proofs.keys.sole_string.Goals as goal

pub returns-in_err-t : goal.returns-in_err-t
returns-in_err-t c =
    let x = fixed_of c.args.tables.now in
    let m = model_in c.args.tables.now in
    rw c.from_residual.ensures (string-missing x m c.args.e.0 c.sole_text.ensures c.in_err-t.was)

pub returns : goal.returns
returns c =
    let x = fixed_of c.args.tables.now in
    let m = model_in c.args.tables.now in
    string-found x m c.args.e.0 c.sole_text.ensures c.in_ok-t.was c.string_key.ensures
