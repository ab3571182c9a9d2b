use mathlib.Core.Bool.{true}
use mathlib.Core.Path.{◌≡◌}
use mathlib.Core.Path.{sym, ◌∙◌}
use Rattle.deck.specs.Load.{may_wait}
use Rattle.load.specs.Lines.{loading_of}
use Rattle.load.proofs.Laws.Steps.{line_refused}
use Rattle.load.proofs.Laws.Trees.{wait-room, b-due, b-barred, b-line}
use Rattle.load.proofs.tree_lines.load_b.Goals as goal
use Rattle.load.proofs.tree_lines.load_b.Goals.{then-p-via-then-p, then-p-via-else-p+then-not-may_wait}

pub returns-then-p : goal.returns-then-p
returns-then-p c =
    elim c.then-p.branch [
      | then-p-via-then-p w ↦ line_refused c.requires.good_loading (b-due _ _ w.if-p.true)
      | then-p-via-else-p+then-not-may_wait w ↦
          line_refused c.requires.good_loading
          (b-barred _ _ w.if-p.false (sym (w.may_wait.ensures c.args.p) ∙ w.if-not-may_wait.true))
    ]

pub add_tree-requires : goal.add_tree-requires
add_tree-requires c =
    let waits : may_wait (loading_of c.args.p c.args.schema.now c.args.elements.now c.args.model.now) c.args.f.0 ≡ true =
    sym (c.may_wait.ensures c.args.p) ∙ c.if-not-may_wait.false
    in
    record {
      good_elements = c.requires.good_loading.good_elements;
      elements_len_bound = wait-room _ _ c.requires.good_loading.fits c.requires.f_lt_file_limit waits;
    }

pub returns : goal.returns
returns c =
    let waits : may_wait (loading_of c.args.p c.args.schema.now c.args.elements.now c.args.model.now) c.args.f.0 ≡ true =
    sym (c.may_wait.ensures c.args.p) ∙ c.if-not-may_wait.false
    in
    b-line _ _ _ _ c.requires.good_loading _ _ _ c.open_tree.ensures
    c.requires.f_lt_file_limit c.if-p.false
    waits (rw c.element_count-root.ensures at c.add_tree.ensures)
