use Rattle.pairing.proofs.Laws.Actions.{defined-sibling, defined-none}
use Rattle.pairing.specs.Lent.{fixed_of, model_in, element_count}
use Rattle.pairing.proofs.action.calc_element_merge.Goals as goal

pub returns-in-Some : goal.returns-in-Some
returns-in-Some c =
    let n = element_count c.args.tables.now in
    let x = fixed_of c.args.tables.now in
    let m = model_in c.args.tables.now in
    λ b d. defined-sibling n x m c.args.second.now c.args.a.0 b d c.sibling-found.ensures c.in-Some.is

pub returns-in-None : goal.returns-in-None
returns-in-None c =
    let n = element_count c.args.tables.now in
    let x = fixed_of c.args.tables.now in
    let m = model_in c.args.tables.now in
    λ b d. defined-none n x m c.args.second.now c.args.a.0 b d c.sibling-found.ensures c.in-None.is
