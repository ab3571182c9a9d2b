use mathlib.Core.Path.{sym, ◌∙◌}
use borrow.Author.Rules.{rules}
use borrow.Author.Tests.{ne_eqb}
use Rattle.tables.specs.Texts.{bytes_at, place_of}
use Rattle.tables.proofs.Laws.Texts.{sizes-differ}
use Rattle.tables.proofs.text.same_string.Goals as goal

pub returns-then-p-q : goal.returns-then-p-q
unfolding bytes_at
returns-then-p-q c = rw c.if-p-q.true c.same_bytes.ensures

pub returns-else-p-q : goal.returns-else-p-q
returns-else-p-q c =
    ne_eqb _ _ c.if-p-q.false ∙ sym (sizes-differ c.args.deck.now (place_of c.args.p) (place_of c.args.q) (search rules) (search rules) c.if-p-q.false)
