use mathlib.Core.Path.{sym, ap, ◌∙◌}
use Rattle.printing.proofs.Laws.Buffers.{as_long}
use borrow.Author.Rules.{rules}
use Rattle.requests.specs.Requests.{request_is}
use Rattle.output.proofs.Laws.Replies.{stands-for}
use Rattle.output.proofs.Laws.Runs.{calls-begin, calls-full, calls-end, calls-open, calls-bad, calls-turn}
use Rattle.output.proofs.print.answer_calls.Goals as goal

pub loop-at-init : goal.loop-at-init
loop-at-init c = (calls-begin _ _ _ _ _ _ _ c.requires, search rules, search rules)

pub shape_of-model-then-out-k : goal.shape_of-model-then-out-k
shape_of-model-then-out-k c = c.loop-at.invariant.1

pub shape_of-log-then-out-k : goal.shape_of-log-then-out-k
shape_of-log-then-out-k c = c.loop-at.invariant.2

pub shape_of-out-then-out-k : goal.shape_of-out-then-out-k
shape_of-out-then-out-k c = as_long c.loop-at.invariant.0.left

pub returns-then-out-k : goal.returns-then-out-k
returns-then-out-k c = calls-full _ _ _ _ c.loop-at.at c.loop-at.n c.loop-at.invariant.0 c.if-out-k.true

pub overflow_add-n : goal.overflow_add-n
overflow_add-n c =
    let few = c.loop-at.invariant.0.few in
    let h = c.loop-at-test.true in
    search rules

pub line_end-end-requires : goal.line_end-end-requires
line_end-end-requires c = c.loop-at.invariant.0.within

pub shape_of-model-then-calls-end : goal.shape_of-model-then-calls-end
shape_of-model-then-calls-end c = c.loop-at.invariant.1

pub shape_of-log-then-calls-end : goal.shape_of-log-then-calls-end
shape_of-log-then-calls-end c = c.loop-at.invariant.2

pub shape_of-out-then-calls-end : goal.shape_of-out-then-calls-end
shape_of-out-then-calls-end c = c.append_bad_call.auto.out ∙ as_long c.loop-at.invariant.0.left

pub returns-then-calls-end : goal.returns-then-calls-end
returns-then-calls-end c =
    calls-open _ _ _ _ c.loop-at.at c.loop-at.n c.loop-at.invariant.0 _ c.line_end-end.ensures c.loop-at-test.true c.if-calls-end.true c.append_bad_call.ensures

pub read_request-requires : goal.read_request-requires
read_request-requires c = (c.line_end-end.ensures.past, c.line_end-end.ensures.within)

pub shape_of-model-in_default : goal.shape_of-model-in_default
shape_of-model-in_default c = c.loop-at.invariant.1

pub shape_of-log-in_default : goal.shape_of-log-in_default
shape_of-log-in_default c = c.loop-at.invariant.2

pub shape_of-out-in_default : goal.shape_of-out-in_default
shape_of-out-in_default c = c.append_bad_call-in_default.auto.out ∙ as_long c.loop-at.invariant.0.left

pub returns-in_default : goal.returns-in_default
returns-in_default c =
    calls-bad _ _ _ _ c.loop-at.at c.loop-at.n c.loop-at.invariant.0 _ c.line_end-end.ensures c.if-calls-end.false
    (ap request_is (sym c.in_default.is) ∙ c.read_request.ensures) c.append_bad_call-in_default.ensures

pub reply-k-requires : goal.reply-k-requires
reply-k-requires c = c.loop-at.invariant.0.standing

pub loop-at-smaller : goal.loop-at-smaller
loop-at-smaller c =
    let h = c.line_end-end.ensures.past in
    let k = c.loop-at-test.true in
    let m = c.if-calls-end.false in
    search rules

pub loop-at-preserved : goal.loop-at-preserved
loop-at-preserved c =
    let q = stands-for c.in-Some.r in (
      calls-turn _ _ _ _ c.loop-at.at c.loop-at.n c.loop-at.invariant.0 _ c.line_end-end.ensures c.if-calls-end.false q.0
          (sym q.1 ∙ ap request_is (sym c.in-Some.is) ∙ c.read_request.ensures) (c.reply-k.ensures q.0 q.1),
      c.reply-k.auto.model ∙ c.loop-at.invariant.1,
      c.reply-k.auto.log ∙ c.loop-at.invariant.2,
    )

pub shape_of-model : goal.shape_of-model
shape_of-model c = c.loop-at.invariant.1

pub shape_of-log : goal.shape_of-log
shape_of-log c = c.loop-at.invariant.2

pub shape_of-out : goal.shape_of-out
shape_of-out c = as_long c.loop-at.invariant.0.left

pub returns : goal.returns
returns c = calls-end _ _ _ _ c.loop-at.at c.loop-at.n c.loop-at.invariant.0 c.loop-at-test.false
