use mathlib.Core.Path.{◌∙◌}
use Rattle.pairing.specs.Keys.{key_is, is_name, key_by}
use Rattle.pairing.proofs.Laws.Marks.{marks-past}
use Rattle.pairing.proofs.Laws.Siblings.{siblings-end, siblings-next, siblings-found, sibling-is, skipped, compared-more, bytes-unequal, bytes-equal}
use borrow.Author.Rules.{rules}
use Rattle.pairing.specs.Lent.{fixed_of, model_in}
use Rattle.pairing.proofs.sibling.sibling.Goals as goal

pub siblings-preserved-in_default : goal.siblings-preserved-in_default
siblings-preserved-in_default c =
    let x = fixed_of c.args.tables.now in
    let key = key_by (is_name c.args.kind) x (model_in c.args.tables.now) in
    let past = marks-past x key c.element_name-n.result.0 (key_is x.deck c.args.key) c.args.second.now c.args.marks.now c.requires.key_marks c.key_mark-mark.ensures c.next_marked-at.ensures.no_mark c.siblings.invariant.1 in
    (search rules, siblings-next _ _ _ past c.if-second-at.false (skipped c.candidate_at.ensures c.in_default.is))

pub siblings-preserved : goal.siblings-preserved
siblings-preserved c =
    let x = fixed_of c.args.tables.now in
    let key = key_by (is_name c.args.kind) x (model_in c.args.tables.now) in
    let past = marks-past x key c.element_name-n.result.0 (key_is x.deck c.args.key) c.args.second.now c.args.marks.now c.requires.key_marks c.key_mark-mark.ensures c.next_marked-at.ensures.no_mark c.siblings.invariant.1 in
    (search rules, siblings-next _ _ _ past c.if-second-at.false (bytes-unequal c.candidate_at.ensures c.in-Some.is c.span_of-span.ensures c.loop-j.invariant c.loop-j-test.true c.if-deck-s.true))

pub loop-j-preserved : goal.loop-j-preserved
loop-j-preserved c = compared-more c.loop-j.invariant c.loop-j-test.true c.if-deck-s.false

pub returns-then-second-at : goal.returns-then-second-at
returns-then-second-at c =
    let x = fixed_of c.args.tables.now in
    let key = key_by (is_name c.args.kind) x (model_in c.args.tables.now) in
    let past = marks-past x key c.element_name-n.result.0 (key_is x.deck c.args.key) c.args.second.now c.args.marks.now c.requires.key_marks c.key_mark-mark.ensures c.next_marked-at.ensures.no_mark c.siblings.invariant.1 in
    record { is = siblings-end _ _ _ past c.if-second-at.true ∙ sibling-is x key c.args.second.now c.args.a.0 c.element_name-n.ensures c.requires.keys.is; within = tt }

pub returns-after-loop-j : goal.returns-after-loop-j
returns-after-loop-j c =
    let x = fixed_of c.args.tables.now in
    let key = key_by (is_name c.args.kind) x (model_in c.args.tables.now) in
    let past = marks-past x key c.element_name-n.result.0 (key_is x.deck c.args.key) c.args.second.now c.args.marks.now c.requires.key_marks c.key_mark-mark.ensures c.next_marked-at.ensures.no_mark c.siblings.invariant.1 in
    let e = bytes-equal c.candidate_at.ensures c.in-Some.is c.span_of-span.ensures c.loop-j.invariant c.loop-j-test.false in
    record { is = siblings-found _ _ _ past c.if-second-at.false e ∙ sibling-is x key c.args.second.now c.args.a.0 c.element_name-n.ensures c.requires.keys.is; within = c.requires.listed c.next_marked-at.result c.if-second-at.false }
