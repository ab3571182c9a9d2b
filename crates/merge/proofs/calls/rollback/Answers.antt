use Rattle.std.specs.Prelude.{Err}
use Rattle.std.proofs.lemmas.Result.{IfOk-at_ok, IfErr-at_err}
use Rattle.merge.specs.declared.calls.CallError.TheVariants.{BadTables}
use mathlib.Core.Bool.{true}
use mathlib.Core.Path.{◌≡◌}
use Prim.Native.Nat.{◌≤◌}
use native.Mathlib.Omega.{arith}
use lib.ListN.{length}
use Rattle.state_test.specs.StateTest.{lent_tables_pass}
use Rattle.state_test.proofs.Laws.Answers.{passed, failed}
use Rattle.table_test.specs.Fits.{StateOver}
use Rattle.tables.specs.LogTable.{log_of}
use Rattle.merge_rules.specs.Log.{is_mark}
use Rattle.merge.proofs.Laws.Calls.{lent-state, lent-once, rollback-bad, no-mark, mark-low, rolled-back}
use Rattle.merge.proofs.calls.rollback.Goals as goal

pub returns-in_err-tested : goal.returns-in_err-tested
returns-in_err-tested c =
    let bad = IfErr-at_err _ c.in_err-tested.was c.tested.ensures.fail in
    let same : c.from_residual.result ≡ Err BadTables = grind arith in
    rw same (rollback-bad c.args.deck.now c.args.schema.now c.args.elements.now c.args.model.now c.args.log.now c.args.mark bad.1)

pub is_mark-requires : goal.is_mark-requires
is_mark-requires c = let pass_0 : lent_tables_pass c.args.deck.now c.args.schema.now c.args.elements.now c.args.model.now c.args.log.now ≡ true = IfOk-at_ok _ c.in_ok-tested.was c.tested.ensures.pass in let fits_0 : StateOver c.args.elements.now c.args.model.now c.args.log.now = lent-state c.args.deck.now c.args.schema.now c.args.elements.now c.args.model.now c.args.log.now pass_0 in fits_0.log_fits.good

pub returns-then-not-is_mark : goal.returns-then-not-is_mark
returns-then-not-is_mark c = let pass_0 : lent_tables_pass c.args.deck.now c.args.schema.now c.args.elements.now c.args.model.now c.args.log.now ≡ true = IfOk-at_ok _ c.in_ok-tested.was c.tested.ensures.pass in
    rw c.into.ensures (no-mark c.args.deck.now c.args.schema.now c.args.elements.now c.args.model.now c.args.log.now c.args.mark pass_0 (failed c.is_mark.ensures c.if-not-is_mark.true))

pub log_length-n-requires : goal.log_length-n-requires
log_length-n-requires c = let pass_0 : lent_tables_pass c.args.deck.now c.args.schema.now c.args.elements.now c.args.model.now c.args.log.now ≡ true = IfOk-at_ok _ c.in_ok-tested.was c.tested.ensures.pass in let fits_0 : StateOver c.args.elements.now c.args.model.now c.args.log.now = lent-state c.args.deck.now c.args.schema.now c.args.elements.now c.args.model.now c.args.log.now pass_0 in fits_0.log_fits.good

pub rollback_merge-requires : goal.rollback_merge-requires
rollback_merge-requires c = let pass2_0 : lent_tables_pass c.args.deck.now c.args.schema.now c.args.elements.now c.args.model.now c.args.log.now ≡ true = IfOk-at_ok _ c.in_ok-tested.was c.tested.ensures.pass in let fits_0 : StateOver c.args.elements.now c.args.model.now c.args.log.now = lent-state c.args.deck.now c.args.schema.now c.args.elements.now c.args.model.now c.args.log.now pass2_0 in let pass_0 : lent_tables_pass c.args.deck.now c.args.schema.now c.args.elements.now c.args.model.now c.args.log.now ≡ true = IfOk-at_ok _ c.in_ok-tested.was c.tested.ensures.pass in
    let g = fits_0 in
    let once = lent-once c.args.deck.now c.args.schema.now c.args.elements.now c.args.model.now c.args.log.now pass_0 in record { good_model = g.model_fits.good; good_log = g.log_fits.good; each = rw g.model_fits.same g.log_fits.entries; once_if = λ _. once }

pub overflow_sub-result : goal.overflow_sub-result
overflow_sub-result c =
    let marks_0 : is_mark c.args.mark (log_of c.args.log.now) ≡ true = passed c.is_mark.ensures c.if-not-is_mark.false in
    let low_0 : c.args.mark ≤ length (log_of c.args.log.now) = mark-low c.args.mark (log_of c.args.log.now) marks_0 in
    omega (arith, c.log_length-n.ensures, low_0)

pub returns : goal.returns
returns c = let pass_0 : lent_tables_pass c.args.deck.now c.args.schema.now c.args.elements.now c.args.model.now c.args.log.now ≡ true = IfOk-at_ok _ c.in_ok-tested.was c.tested.ensures.pass in
    rolled-back c.args.deck.now c.args.schema.now c.args.elements.now c.args.model.now c.args.log.now c.args.mark pass_0 _ c.rollback_merge.new.model c.rollback_merge.new.log (passed c.is_mark.ensures c.if-not-is_mark.false) c.log_length-n.ensures c.rollback_merge.ensures.log_after c.rollback_merge.ensures.keeps_state
