use mathlib.Core.Path.{refl}
use native.Mathlib.Omega.{arith}
use Rattle.table_test.proofs.Laws.Fits.{keeps-count}
use Rattle.merge_log.proofs.Laws.Runs.{run_small, leads-more, once-left, leads_one, leads-none}
use Rattle.merge_log.proofs.log.take_out.Goals as goal

pub overflow_add-k : goal.overflow_add-k
overflow_add-k c =
    omega (arith, run_small c.args.model.now c.args.r c.requires.good_model c.requires.run_in)

pub returns-then-stands_before : goal.returns-then-stands_before
returns-then-stands_before c =
    leads-more c.args.model.now c.args.r c.args.once c.requires.once_if c.args.e.0 c.args.p.0 _ refl c.requires.good_model c.requires.run_in c.if-once.true (c.stands_before.ensures c.if-stands_before.true) refl refl

pub find_place-found-requires : goal.find_place-found-requires
find_place-found-requires c =
    let m = c.args.model.now in record { good_model = c.remove_run.ensures.holds_model.good; p_bound = rw (keeps-count m c.remove_run.new.model c.requires.good_model c.remove_run.ensures.keeps_model) c.requires.p_bound; once_if = once-left m c.args.r c.args.once c.requires.once_if c.remove_run.new.model c.remove_run.ensures.holds_model }

pub returns-in_default : goal.returns-in_default
returns-in_default c =
    leads-none c.args.model.now c.args.r c.args.once c.requires.once_if c.remove_run.new.model c.remove_run.ensures.holds_model c.args.e.0 c.args.p.0 _ refl c.remove_run.ensures.keeps_model c.find_place-found.result c.find_place-found.ensures c.in_default.is refl refl

pub returns : goal.returns
returns c =
    leads_one c.args.model.now c.args.r c.args.once c.requires.once_if c.remove_run.new.model c.remove_run.ensures.holds_model c.args.e.0 c.args.p.0 _ refl c.remove_run.ensures.keeps_model c.find_place-found.result c.find_place-found.ensures c.in-Some.i c.in-Some.is refl refl
