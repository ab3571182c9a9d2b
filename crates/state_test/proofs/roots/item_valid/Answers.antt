use Rattle.state_test.specs.StateTest.{item_valid}
use Rattle.state_test.proofs.roots.item_valid.Goals as goal

pub returns-in-Text-clause-by_index : goal.returns-in-Text-clause-by_index
unfolding item_valid
returns-in-Text-clause-by_index c = λ deck. rw c.in-Text.is
