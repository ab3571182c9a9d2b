use mathlib.Core.Bool.{◌&&◌, and-true}
use mathlib.Core.Path.{sym, ap, ◌∙◌}
use borrow.Author.Rules.{rules}
use Rattle.tables.proofs.Laws.Texts.{bytes-end, bytes_next}
use Rattle.tables.proofs.text.same_bytes.Goals as goal

pub loop-i-preserved : goal.loop-i-preserved
loop-i-preserved c =
    bytes_next c.args.deck.now c.args.a c.args.b c.args.n c.loop-i.i (search rules) (search rules) (search rules) c.loop-i.same ∙ c.loop-i.invariant

pub returns : goal.returns
returns c =
    sym (and-true c.loop-i.same) ∙ ap (◌&&◌ c.loop-i.same) (sym (bytes-end c.args.deck.now c.args.a c.args.b c.args.n c.loop-i.i c.loop-i-test.false)) ∙ c.loop-i.invariant
