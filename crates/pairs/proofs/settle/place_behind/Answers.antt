use native.Mathlib.Omega.{arith}
use Rattle.tables.specs.ModelTable.{model_of}
use Rattle.pairing.proofs.Laws.Laying.{list-few}
use Rattle.merge_log.proofs.Laws.Places.{place-within}
use Rattle.pairs.proofs.Laws.Settle.{behind-place, behind-none}
use Rattle.pairs.proofs.settle.place_behind.Goals as goal

pub overflow_add-result : goal.overflow_add-result
overflow_add-result c =
    let low = place-within _ _ c.in-Some.i c.place_of-found.result c.place_of-found.ensures c.in-Some.is in
    record { fits = omega (arith, low, list-few c.args.model.now c.requires.good_model c.args.p.0 c.requires.p_bound) }

pub returns-in-Some : goal.returns-in-Some
returns-in-Some c =
    behind-place (model_of c.args.model.now) c.args.p.0 c.args.a.0 c.place_of-found.result c.place_of-found.ensures c.in-Some.i c.in-Some.is

pub returns-in-None : goal.returns-in-None
returns-in-None c =
    behind-none (model_of c.args.model.now) c.args.p.0 c.args.a.0 c.place_of-found.result c.place_of-found.ensures c.in-None.is
