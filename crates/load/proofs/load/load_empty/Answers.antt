use mathlib.Core.Path.{sym, ◌∙◌}
use Rattle.load.proofs.Laws.Call.{into-refused, into-loaded}
use Rattle.load.proofs.load.load_empty.Goals as goal

pub returns-then-is_err : goal.returns-then-is_err
returns-then-is_err c log z l =
    into-refused c.args.deck.now _ _ _ c.args.schema.now c.args.elements.now c.args.model.now log _ c.load_deck-r.ensures
    (sym c.is_err.ensures.value ∙ c.if-is_err.true)
    (c.load_deck-r.ensures.good_schema.size ∙ sym c.requires.holds_schema.good.size)
    (c.load_deck-r.ensures.good_elements.size ∙ sym c.requires.holds_elements.good.size)
    (c.load_deck-r.ensures.good_model.size ∙ sym c.requires.holds_model.good.size)
    _ _ _ c.clear_all.ensures.schema_after c.clear_all.ensures.elements_after c.clear_all.ensures.model_after z

pub returns-else-is_err : goal.returns-else-is_err
returns-else-is_err c log z l =
    into-loaded c.args.deck.now _ _ _ c.args.schema.now c.args.elements.now c.args.model.now log _ c.load_deck-r.ensures
    (sym c.is_err.ensures.value ∙ c.if-is_err.false) l
