use Rattle.deck.specs.Deck.{decimal}
use Rattle.merge_rules.specs.CallLists.{word_field}
use Rattle.requests.proofs.requests.word_at.Goals as goal

pub returns : goal.returns
unfolding word_field decimal
returns c = c.number_at.ensures
