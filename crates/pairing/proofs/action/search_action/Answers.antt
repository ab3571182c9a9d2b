use Rattle.pairing.proofs.Laws.Actions.{search-named, search-defined}
use Rattle.pairing.specs.Lent.{fixed_of, model_in}
use Rattle.pairing.proofs.action.search_action.Goals as goal

pub returns-then-is_identifiable : goal.returns-then-is_identifiable
returns-then-is_identifiable c =
    let x = fixed_of c.args.tables.now in
    let m = model_in c.args.tables.now in
    λ t b d. search-named x m t c.args.splittable c.args.second.now c.args.a.0 b d c.is_identifiable.ensures c.if-is_identifiable.true (c.calc_identifiables_merge.ensures b)

pub returns : goal.returns
returns c =
    let x = fixed_of c.args.tables.now in
    let m = model_in c.args.tables.now in
    λ t b d. search-defined x m t c.args.splittable c.args.second.now c.args.a.0 b d c.is_identifiable.ensures c.if-is_identifiable.false (c.calc_element_merge.ensures b)
