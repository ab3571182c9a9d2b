use Rattle.deck.specs.Schema.{group_rule}
use Rattle.schema_calls.proofs.rules.group_rule.Goals as goal

pub returns : goal.returns
unfolding group_rule
returns c mode = rw (c.path_valid.ensures, c.requires.repeated_value)
