use borrow.Author.Rules.{rules}
use Rattle.load.proofs.Laws.Reading.{reading-start, reading-open, reading-taken, reading-refused, reading-end}
use Rattle.load.proofs.load.read_lines.Goals as goal

pub loop-at-init : goal.loop-at-init
loop-at-init c =
    reading-start c.args.deck.now c.args.schema.now c.args.elements.now c.args.model.now _ c.requires.deck_len_bound
    c.requires.holds_schema c.requires.holds_elements
    c.requires.holds_model c.start-p.ensures

pub returns-in_default : goal.returns-in_default
returns-in_default c =
    reading-open c.args.deck.now c.loop-at.p c.loop-at.at c.loop-at.n c.loop-at.schema c.loop-at.elements c.loop-at.model
    c.loop-at.invariant c.loop-at-test.true (rw c.in_default.is at c.line_from.ensures)

pub returns-in_err-p : goal.returns-in_err-p
returns-in_err-p c =
    let f = rw c.in-Some.is at c.line_from.ensures in
    reading-refused c.args.deck.now c.loop-at.p c.loop-at.at c.loop-at.n c.loop-at.schema c.loop-at.elements c.loop-at.model
    c.loop-at.invariant _ _ f _ _ _ _ c.load_line.ensures _ (λ q e. search rules) (λ x e. search rules)

pub loop-at-preserved : goal.loop-at-preserved
loop-at-preserved c =
    let f = rw c.in-Some.is at c.line_from.ensures in
    reading-taken c.args.deck.now c.loop-at.p c.loop-at.at c.loop-at.n c.loop-at.schema c.loop-at.elements c.loop-at.model
    c.loop-at.invariant _ _ f _ _ _ _ c.load_line.ensures _ (search rules)

pub returns : goal.returns
returns c =
    reading-end c.args.deck.now c.loop-at.p c.loop-at.at c.loop-at.n c.loop-at.schema c.loop-at.elements c.loop-at.model _
    c.loop-at.invariant c.loop-at-test.false (c.finish.ensures _ _ _ _)
