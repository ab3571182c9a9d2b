use mathlib.Core.Bool.{true}
use mathlib.Core.Path.{◌≡◌}
use mathlib.Core.Path.{◌∙◌, sym}
use Rattle.tables.specs.SchemaTable.{schema_of}
use Rattle.deck.specs.Schema.{declared_type}
use Rattle.load.proofs.Laws.Steps.{line_refused}
use Rattle.load.proofs.Laws.Elements.{root-deep, root-named, root-untyped, root-barred, root_line}
use Rattle.load.proofs.tree_lines.load_root.Goals as goal
use Rattle.load.proofs.tree_lines.load_root.Goals.{then-c-ne0-via-then-c-ne0, then-c-ne0-via-else-c-ne0+then-c-ne0-2}

pub returns-then-c-ne0 : goal.returns-then-c-ne0
returns-then-c-ne0 c =
    elim c.then-c-ne0.branch [
      | then-c-ne0-via-then-c-ne0 w ↦ line_refused c.requires.good_loading (root-deep _ _ _ _ w.if-c-ne0.true)
      | then-c-ne0-via-else-c-ne0+then-c-ne0-2 w ↦
          line_refused c.requires.good_loading (root-named _ _ _ _ w.if-c-ne0.false w.if-c-ne0-2.true)
    ]

pub returns-then-not-type_declared : goal.returns-then-not-type_declared
returns-then-not-type_declared c =
    line_refused c.requires.good_loading
    (root-untyped _ _ _ _ c.if-c-ne0.false c.if-c-ne0-2.false (sym c.type_declared.ensures ∙ c.if-not-type_declared.true))

pub returns-then-not-root_set_rule : goal.returns-then-not-root_set_rule
returns-then-not-root_set_rule c =
    let typed : declared_type (schema_of c.args.schema.now) 0 ≡ true = sym c.type_declared.ensures ∙ c.if-not-type_declared.false in
    line_refused c.requires.good_loading
    (root-barred _ _ _ _ c.if-c-ne0.false c.if-c-ne0-2.false typed (sym (c.root_set_rule.ensures _ _) ∙ c.if-not-root_set_rule.true))

pub returns : goal.returns
returns c =
    let typed : declared_type (schema_of c.args.schema.now) 0 ≡ true = sym c.type_declared.ensures ∙ c.if-not-type_declared.false in
    root_line _ _ _ _ c.requires.good_loading _ _ _ _ _ _ _ c.open_element.ensures
    c.element_count-e.ensures c.if-c-ne0.false c.if-c-ne0-2.false typed
    (sym (c.root_set_rule.ensures _ _) ∙ c.if-not-root_set_rule.false) c.add_element_row.ensures c.add_element.ensures
