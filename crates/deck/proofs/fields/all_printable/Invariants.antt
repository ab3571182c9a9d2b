use mathlib.Core.Path.{◌≡◌}
use lib.ListN.{drop}
use Rattle.tables.specs.Lists.{all_of}
use Rattle.deck.specs.Deck.{printable}
use Rattle.deck.proofs.fields.all_printable.Given as goal

abbrev pub invariant-loop-b : goal.invariant-loop-b
invariant-loop-b l = all_of printable (drop l.b-index l.s) ≡ all_of printable l.s
