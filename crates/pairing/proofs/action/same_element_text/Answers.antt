use Rattle.schema_calls.proofs.Laws.Scans.{found_within}
use Rattle.pairing.proofs.Laws.Keys.{stored-in}
use Rattle.pairing.proofs.Laws.Actions.{texts-both, texts-first, texts-second, texts-none}
use Rattle.pairing.specs.Lent.{fixed_of, model_in}
use Rattle.pairing.proofs.action.same_element_text.Goals as goal

pub stored_text-requires : goal.stored_text-requires
stored_text-requires c = record { good_elements = c.args.tables.now.good_fixed.elements_good; t_in_bounds = found_within c.sole_text-first.ensures c.in-Some-Some.is-0 }

pub stored_text-requires-in-Some-Some : goal.stored_text-requires-in-Some-Some
stored_text-requires-in-Some-Some c = record { good_elements = c.args.tables.now.good_fixed.elements_good; t_in_bounds = found_within c.sole_text-second.ensures c.in-Some-Some.is-1 }

pub same_text-requires : goal.same_text-requires
same_text-requires c =
    (stored-in c.args.tables.now.good_fixed _ (found_within c.sole_text-first.ensures c.in-Some-Some.is-0) c.stored_text.ensures, stored-in c.args.tables.now.good_fixed _ (found_within c.sole_text-second.ensures c.in-Some-Some.is-1) c.stored_text-in-Some-Some.ensures)

pub returns-in-Some-Some : goal.returns-in-Some-Some
returns-in-Some-Some c =
    let x = fixed_of c.args.tables.now in
    let m = model_in c.args.tables.now in
    texts-both x m c.args.a.0 c.args.b.0 c.sole_text-first.ensures c.sole_text-second.ensures c.in-Some-Some.is-0 c.in-Some-Some.is-1 c.stored_text.ensures c.stored_text-in-Some-Some.ensures c.same_text.ensures

pub returns-in-None-None : goal.returns-in-None-None
returns-in-None-None c =
    let x = fixed_of c.args.tables.now in
    let m = model_in c.args.tables.now in
    texts-none x m c.args.a.0 c.args.b.0 c.sole_text-first.ensures c.sole_text-second.ensures c.in-None-None.is-0 c.in-None-None.is-1

pub returns-in_default : goal.returns-in_default
returns-in_default c =
    let x = fixed_of c.args.tables.now in
    let m = model_in c.args.tables.now in
    texts-first x m c.args.a.0 c.args.b.0 c.sole_text-first.ensures c.sole_text-second.ensures c.in_default.is-0 c.in_default.is-1

pub returns-in_default-2 : goal.returns-in_default-2
returns-in_default-2 c =
    let x = fixed_of c.args.tables.now in
    let m = model_in c.args.tables.now in
    texts-second x m c.args.a.0 c.args.b.0 c.sole_text-first.ensures c.sole_text-second.ensures c.in_default.is-0 c.in_default.is-1
