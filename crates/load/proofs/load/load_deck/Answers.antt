use Rattle.load.proofs.Laws.Reading.{load-long}
use Rattle.load.proofs.load.load_deck.Goals as goal

pub returns-then-deck-gt-DECK_LIMIT : goal.returns-then-deck-gt-DECK_LIMIT
returns-then-deck-gt-DECK_LIMIT c =
    load-long _ _ _ _ c.if-deck-gt-DECK_LIMIT.true c.requires.holds_schema c.requires.holds_elements c.requires.holds_model
