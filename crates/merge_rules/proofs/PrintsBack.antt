-- The trees of a loaded deck, printed, are the deck's own lines from its M line on. Assumes nothing.
use mathlib.Core.Path.{refl, subst}
use Rattle.tables.specs.Bytes.{bytes}
use Rattle.deck.specs.Deck.{lines}
use Rattle.deck.specs.Unfolding.{deck_rules}
use Rattle.merge_rules.specs.DeckLines.{tree_part, line_depth, may_follow, follows, in_order, PrintsBack, PrintsOvertaken}
use Rattle.merge_rules.specs.Program.{output}
use Rattle.merge_rules.proofs.Laws.WholeBack.{LoadPrints, load-prints, loaded-prints}

-- the printed trees are the deck's own lines
pub prints-back : PrintsBack
prints-back deck x s h o = loaded-prints deck (subst (LoadPrints deck (tree_part (lines deck))) h (load-prints deck o))

-- and the rule is needed
pub prints-overtaken : PrintsOvertaken
unfolding deck_rules output bytes in_order follows may_follow line_depth
prints-overtaken = (refl, refl)
