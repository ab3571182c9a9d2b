use Rattle.deck.specs.Schema.{meets}
use Rattle.schema_calls.proofs.search.row_matches.Goals as goal

pub returns : goal.returns
unfolding meets
returns c = rw (c.name_matches-named.ensures, c.row_mask-m.ensures)
