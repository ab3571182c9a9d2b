use Rattle.deck.specs.Schema.{row_of_name}
use Rattle.schema_calls.proofs.calls.row_of_name.Goals as goal

pub returns : goal.returns
unfolding row_of_name
returns c = c.find_sub_element.ensures
