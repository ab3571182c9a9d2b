use mathlib.Core.Path.{◌∙◌, sym}
use Rattle.load.proofs.Laws.Elements.{item-requires, child-held}
use Rattle.load.proofs.tree_lines.add_child.Goals as goal

pub append_item-requires : goal.append_item-requires
append_item-requires c =
    let last = c.element_count-e.ensures ∙ sym c.requires.model_value in
    let h = item-requires c.args.model.now c.add_element.new.model _ _ c.args.owner.0 c.element_count-e.result c.add_element.ensures
    c.requires.owner_bound c.requires.model_bound last
    in
    record { good_model = h.0; e_bound = h.1.0; model_bound = h.1.1.0; item_below = h.1.1.1 }

pub returns : goal.returns
returns c =
    record {
      holds_elements = c.add_element_row.ensures;
      holds_model =
          child-held _ _ _ _ _ _ _ _ c.requires.good_model c.requires.owner_bound c.element_count-e.ensures c.add_element.ensures
          c.append_item.ensures;
    }
