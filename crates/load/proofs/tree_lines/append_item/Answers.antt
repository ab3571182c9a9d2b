use Rattle.deck.specs.Load.{append}
use Rattle.load.proofs.tree_lines.append_item.Goals as goal

pub returns : goal.returns
unfolding append
returns c = rw c.list_length-n.ensures at c.insert_item.ensures
