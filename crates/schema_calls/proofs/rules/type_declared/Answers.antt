use Rattle.deck.specs.Schema.{declared_type}
use Rattle.schema_calls.proofs.rules.type_declared.Goals as goal

pub returns : goal.returns
unfolding declared_type
returns c = rw c.type_count-count.ensures
