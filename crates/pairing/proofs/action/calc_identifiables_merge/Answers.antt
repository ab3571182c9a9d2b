use Rattle.pairing.proofs.Laws.Actions.{named-sibling, named-split, named-unmergeable}
use Rattle.pairing.specs.Lent.{fixed_of, model_in, element_count}
use Rattle.pairing.proofs.action.calc_identifiables_merge.Goals as goal

pub returns-then-splittable : goal.returns-then-splittable
returns-then-splittable c =
    let n = element_count c.args.tables.now in
    let x = fixed_of c.args.tables.now in
    let m = model_in c.args.tables.now in
    λ b d. named-split n x m c.args.splittable c.args.second.now c.args.a.0 b d c.sibling-found.ensures c.in-None.is c.if-splittable.true

pub returns-in-Some : goal.returns-in-Some
returns-in-Some c =
    let n = element_count c.args.tables.now in
    let x = fixed_of c.args.tables.now in
    let m = model_in c.args.tables.now in
    λ b d. named-sibling n x m c.args.splittable c.args.second.now c.args.a.0 b d c.sibling-found.ensures c.in-Some.is

pub returns-else-splittable : goal.returns-else-splittable
returns-else-splittable c =
    let n = element_count c.args.tables.now in
    let x = fixed_of c.args.tables.now in
    let m = model_in c.args.tables.now in
    λ b d. named-unmergeable n x m c.args.splittable c.args.second.now c.args.a.0 b d c.sibling-found.ensures c.in-None.is c.if-splittable.false
