use mathlib.Core.Path.{refl}
use native.Mathlib.Omega.{arith}
use lib.ListN.{replicate}
use Rattle.deck.specs.Deck.{fields}
use Rattle.deck.specs.Answers.{part_at, no_bytes}
use Rattle.deck.proofs.Laws.Lines.{split-start, split-last, split-turn, split-full}
use Rattle.deck.proofs.lines.split.Goals as goal

pub loop-i-init : goal.loop-i-init
loop-i-init c = split-start c.args.deck.now c.args.start c.args.end (replicate 8 no_bytes) refl (omega arith)

pub returns-then-end-e : goal.returns-then-end-e
returns-then-end-e c =
    split-last c.args.deck.now (fields (part_at c.args.deck.now c.args.start c.args.end)) c.args.end c.loop-i.spans c.loop-i.i c.loop-i.at c.find_byte-e.result
    (omega arith) c.loop-i.invariant (omega arith) c.find_byte-e.ensures (omega arith)

pub loop-i-preserved : goal.loop-i-preserved
loop-i-preserved c =
    split-turn c.args.deck.now (fields (part_at c.args.deck.now c.args.start c.args.end)) c.args.end c.loop-i.spans c.loop-i.i c.loop-i.at c.find_byte-e.result
    (omega arith) c.loop-i.invariant (omega arith) c.find_byte-e.ensures (omega arith)

pub returns : goal.returns
returns c =
    split-full c.args.deck.now (fields (part_at c.args.deck.now c.args.start c.args.end)) c.args.end c.loop-i.spans c.loop-i.i c.loop-i.at c.loop-i.invariant (omega arith)
