use Rattle.tables.specs.Cells.{between}
use Rattle.tables.specs.Limits.{part_limit}
use Rattle.deck.specs.Answers.{whole}
use mathlib.Core.Path.{refl, sym, ◌∙◌, ap}
use native.Mathlib.Omega.{arith}
use Rattle.tables.specs.Paths.{front}
use Rattle.deck.specs.Answers.{path_is, num_is}
use Rattle.deck.proofs.Laws.Numbers.{number-most}
use Rattle.deck.proofs.Laws.PathFields.{path-start, path-bad, path-last, path-turn, path-full, put_some}
use Rattle.deck.proofs.fields.path_field.Goals as goal

pub loop-n-init : goal.loop-n-init
unfolding front
loop-n-init c = path-start c.args.deck.now c.args.start c.args.end c.args.most _ refl (omega arith)

pub returns-in_err-v : goal.returns-in_err-v
unfolding path_is num_is
returns-in_err-v c =
    record { is = ap path_is c.from_residual.ensures ∙ sym (path-bad c.args.deck.now c.args.start c.args.end c.args.most c.loop-n.p c.loop-n.n c.loop-n.at c.find_byte-e.result (omega arith) c.loop-n.invariant (omega arith) c.find_byte-e.ensures (sym c.number.ensures ∙ ap num_is c.in_err-v.was)); fits = rw c.from_residual.ensures tt }

pub with_part-p-requires : goal.with_part-p-requires
unfolding num_is
with_part-p-requires c =
    (c.loop-n.invariant.size, omega arith, omega (arith, number-most 10 part_limit (whole (between c.loop-n.at c.find_byte-e.result c.args.deck.now)) c.in_ok-v.v (sym c.number.ensures ∙ ap num_is c.in_ok-v.was)))

pub returns-then-end-e : goal.returns-then-end-e
unfolding path_is num_is
returns-then-end-e c =
    record { is = sym (path-last c.args.deck.now c.args.start c.args.end c.args.most c.loop-n.p c.loop-n.n c.loop-n.at c.find_byte-e.result (omega arith) c.loop-n.invariant (omega arith) c.find_byte-e.ensures c.in_ok-v.v (sym c.number.ensures ∙ ap num_is c.in_ok-v.was) c.with_part-p.result c.with_part-p.ensures c.if-end-e.true); fits = put_some c.loop-n.p c.with_part-p.result c.in_ok-v.v c.with_part-p.ensures }

pub loop-n-preserved : goal.loop-n-preserved
unfolding num_is
loop-n-preserved c =
    path-turn c.args.deck.now c.args.start c.args.end c.args.most c.loop-n.p c.loop-n.n c.loop-n.at c.find_byte-e.result (omega arith) c.loop-n.invariant (omega arith) c.find_byte-e.ensures c.in_ok-v.v (sym c.number.ensures ∙ ap num_is c.in_ok-v.was) c.with_part-p.result c.with_part-p.ensures (omega arith)

pub returns : goal.returns
unfolding path_is
returns c =
    record { is = sym (path-full c.args.deck.now c.args.start c.args.end c.args.most c.loop-n.p c.loop-n.n c.loop-n.at c.loop-n.invariant (omega arith)); fits = tt }
