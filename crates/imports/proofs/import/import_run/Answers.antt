use mathlib.Core.Path.{◌≡◌, refl, ap, ◌∙◌}
use Rattle.tables.proofs.Laws.ModelTable.{start-room}
use Rattle.tables.specs.Records.{State}
use Rattle.merge_rules.specs.Import.{import_new_items}
use Rattle.pairing.specs.Plans.{spread, import_in}
use Rattle.state_test.specs.StateTest.{fixed_in}
use Prim.Native.Nat.{◌+◌}
use native.Mathlib.Omega.{arith}
use Rattle.imports.proofs.Laws.Together.{run-start, run_in, run_end, run-stop, run_more, made_in, made-follow, made-state, made-keeps}
use borrow.Author.Rules.{rules}
use Rattle.imports.proofs.Laws.Imports.{not-done}
use Rattle.imports.proofs.import.import_run.Goals as goal

pub loop-j-init : goal.loop-j-init
loop-j-init c =
    run-start c.args.schema.now c.args.elements.now c.args.work.now c.args.rows.first c.args.i c.args.f.0 c.args.v c.args.r c.insert_items.new.model c.args.log.now (made-keeps c.args.r c.args.model.now c.args.log.now c.insert_items.new.model c.insert_items.ensures c.requires.model_over.good (rw c.requires.model_over.same c.requires.p_in_bounds) c.requires.i_in_bounds _ _ (record { model_fits = c.requires.model_over; log_fits = c.requires.log_fits })).model_fits c.requires.log_fits

pub overflow_add-left : goal.overflow_add-left
overflow_add-left c =
    record { fits = omega (arith, start-room c.args.model.now c.requires.model_over.good c.args.r.p.0 (rw c.requires.model_over.same c.requires.p_in_bounds), c.requires.k_bound, c.requires.i_in_bounds, c.loop-j-test.true) }

pub import_into-requires-clause-run_in : goal.import_into-requires-clause-run_in
import_into-requires-clause-run_in c =
    run_in c.args.schema.now c.args.elements.now c.args.work.now c.args.rows.first c.args.i c.args.f.0 c.args.v c.args.r c.insert_items.new.model c.args.log.now c.loop-j.model c.loop-j.log c.loop-j.j c.loop-j.invariant (made_in c.args.r c.args.model.now c.args.log.now c.insert_items.new.model c.insert_items.ensures c.requires.model_over.good (rw c.requires.model_over.same c.requires.p_in_bounds) c.requires.i_in_bounds) _ refl refl refl

pub loop-j-preserved : goal.loop-j-preserved
loop-j-preserved c =
    run_more c.args.schema.now c.args.elements.now c.args.work.now c.args.rows.first c.args.i c.args.f.0 c.args.v c.args.r c.insert_items.new.model c.args.log.now c.loop-j.model c.loop-j.log c.loop-j.j c.loop-j.invariant c.loop-j-test.true (made_in c.args.r c.args.model.now c.args.log.now c.insert_items.new.model c.insert_items.ensures c.requires.model_over.good (rw c.requires.model_over.same c.requires.p_in_bounds) c.requires.i_in_bounds) (made-follow c.args.r c.args.model.now c.args.log.now c.insert_items.new.model c.insert_items.ensures c.requires.model_over.good (rw c.requires.model_over.same c.requires.p_in_bounds) c.requires.i_in_bounds c.args.work.now c.args.rows.first c.args.i c.requires.follow_on) _ refl refl refl _ refl c.import_into.result c.import_into.new.model c.import_into.new.log c.import_into.ensures c.in_ok-import_into.was

pub returns-in_err-import_into : goal.returns-in_err-import_into
returns-in_err-import_into c =
    let same : c.from_residual.result ≡ c.import_into.result = search rules in record {
      by_index = λ deck. rw same (run-stop c.args.schema.now c.args.elements.now c.args.work.now c.args.rows.first c.args.i c.args.f.0 c.args.v c.args.r c.insert_items.new.model c.args.log.now c.loop-j.model c.loop-j.log c.loop-j.j c.loop-j.invariant c.loop-j-test.true (made_in c.args.r c.args.model.now c.args.log.now c.insert_items.new.model c.insert_items.ensures c.requires.model_over.good (rw c.requires.model_over.same c.requires.p_in_bounds) c.requires.i_in_bounds) (made-follow c.args.r c.args.model.now c.args.log.now c.insert_items.new.model c.insert_items.ensures c.requires.model_over.good (rw c.requires.model_over.same c.requires.p_in_bounds) c.requires.i_in_bounds c.args.work.now c.args.rows.first c.args.i c.requires.follow_on) _ refl refl refl _ refl c.import_into.result c.import_into.new.model c.import_into.new.log c.import_into.ensures (not-done c.in_err-import_into.was) deck
          ∙ ap (λ (q : State). import_new_items (fixed_in deck c.args.schema.now c.args.elements.now) c.args.f.0 c.args.v c.args.r.p.0 c.args.i (spread (import_in c.args.work.now) (c.args.rows.first + c.args.i) c.args.r.k) q) (made-state c.args.r c.args.model.now c.args.log.now c.insert_items.new.model c.insert_items.ensures c.requires.model_over.good (rw c.requires.model_over.same c.requires.p_in_bounds) c.requires.i_in_bounds));
      keeps_state = λ k texts q. c.import_into.ensures.keeps k texts (c.loop-j.invariant.keeps k texts (made-keeps c.args.r c.args.model.now c.args.log.now c.insert_items.new.model c.insert_items.ensures c.requires.model_over.good (rw c.requires.model_over.same c.requires.p_in_bounds) c.requires.i_in_bounds k texts q));
    }

pub returns : goal.returns
returns c = record { by_index = λ deck. run_end c.args.schema.now c.args.elements.now c.args.work.now c.args.rows.first c.args.i c.args.f.0 c.args.v c.args.r c.insert_items.new.model c.args.log.now c.loop-j.model c.loop-j.log c.loop-j.j c.loop-j.invariant c.loop-j-test.false deck ∙ ap (λ (q : State). import_new_items (fixed_in deck c.args.schema.now c.args.elements.now) c.args.f.0 c.args.v c.args.r.p.0 c.args.i (spread (import_in c.args.work.now) (c.args.rows.first + c.args.i) c.args.r.k) q) (made-state c.args.r c.args.model.now c.args.log.now c.insert_items.new.model c.insert_items.ensures c.requires.model_over.good (rw c.requires.model_over.same c.requires.p_in_bounds) c.requires.i_in_bounds); keeps_state = λ k texts q. c.loop-j.invariant.keeps k texts (made-keeps c.args.r c.args.model.now c.args.log.now c.insert_items.new.model c.insert_items.ensures c.requires.model_over.good (rw c.requires.model_over.same c.requires.p_in_bounds) c.requires.i_in_bounds k texts q) }
