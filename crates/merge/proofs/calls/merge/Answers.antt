use mathlib.Core.Path.{◌≡◌}
use native.Mathlib.Omega.{arith}
use Rattle.std.specs.Prelude.{Some, None, Err}
use Rattle.merge_log.specs.declared.refusals.Refusal.TheVariants.{NotWaiting}
use Rattle.merge.specs.declared.calls.CallError.TheVariants.{BadTables, Refused}
use Rattle.std.proofs.lemmas.Result.{IfOk-at_ok, IfErr-at_err}
use Rattle.state_test.proofs.Laws.Passed.{root-there}
use Rattle.merge.proofs.Laws.Calls.{lent-fixed, lent-state, lent-root, merge-bad, no-tree, waiting-within, waiting-call}
use Rattle.merge.proofs.calls.merge.Goals as goal

pub returns-in_err-tested : goal.returns-in_err-tested
returns-in_err-tested c =
    let bad = IfErr-at_err _ c.in_err-tested.was c.tested.ensures.fail in
    let same : c.from_residual.result ≡ Err BadTables = grind arith in
    rw same (merge-bad c.args.deck.now c.args.schema.now c.args.elements.now c.args.model.now c.args.log.now c.args.file bad.1)

pub waiting_tree-requires : goal.waiting_tree-requires
waiting_tree-requires c =
    let tested = IfOk-at_ok _ c.in_ok-tested.was c.tested.ensures.pass in
    let x = lent-fixed _ _ _ _ _ tested in
    record { good_elements = x.elements_good; each = x.trees; good_model = (lent-state _ _ _ _ _ tested).model_fits.good; nonzero = root-there _ _ _ _ _ tested }

pub returns-in_err-b : goal.returns-in_err-b
returns-in_err-b c =
    let missing : c.waiting_tree.result ≡ None = grind arith in
    let same : c.from_residual-in_err-b.result ≡ Err (Refused NotWaiting) = grind arith in
    rw same
    (no-tree c.args.deck.now c.args.schema.now c.args.elements.now c.args.model.now c.args.log.now c.args.file
    (IfOk-at_ok _ c.in_ok-tested.was c.tested.ensures.pass)
    c.waiting_tree.result (c.waiting_tree.ensures c.args.deck.now c.args.schema.now) missing)

pub merge_waiting-requires : goal.merge_waiting-requires
merge_waiting-requires c =
    let p = IfOk-at_ok _ c.in_ok-tested.was c.tested.ensures.pass in
    let waits : c.waiting_tree.result ≡ Some c.in_ok-b.b = grind arith in
    let within = waiting-within _ _ _ _ _ c.args.file p c.waiting_tree.result (c.waiting_tree.ensures c.args.deck.now c.args.schema.now) c.in_ok-b.b waits in
    record { good_fixed = lent-fixed _ _ _ _ _ p; state_over = lent-state _ _ _ _ _ p; f_lt_file_limit = within.0; names_nonzero = lent-root _ _ _ _ _ p; b_in_bounds = within.1 }

pub returns : goal.returns
returns c =
    let p = IfOk-at_ok _ c.in_ok-tested.was c.tested.ensures.pass in
    let waits : c.waiting_tree.result ≡ Some c.in_ok-b.b = grind arith in
    waiting-call _ _ _ _ _ c.args.file p c.waiting_tree.result (c.waiting_tree.ensures c.args.deck.now c.args.schema.now) c.in_ok-b.b waits c.merge_waiting.ensures
