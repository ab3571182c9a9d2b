use mathlib.Core.Path.{sym, ◌∙◌}
use Rattle.tables.specs.ElementsTable.{elements_of, no_tree}
use Rattle.state_test.specs.StateTest.{tree_declared}
use Rattle.state_test.proofs.Laws.Files.{tree-tested}
use Rattle.tables.proofs.Laws.Scans.{all_more, all-stop, all_end}
use Rattle.state_test.proofs.Laws.Answers.{passed, failed}
use borrow.Author.Rules.{rules}
use Rattle.state_test.proofs.files.trees_declared.Goals as goal

pub returns-then-not-holds : goal.returns-then-not-holds
returns-then-not-holds c =
    λ sc e.
    sym (all-stop (tree_declared sc) (elements_of c.args.elements.now).trees c.loop-i.i no_tree (search rules) (failed (tree-tested sc e _ c.holds.ensures c.tree_file.ensures) c.if-not-holds.true)) ∙ (c.loop-i.invariant sc e)

pub loop-i-preserved : goal.loop-i-preserved
loop-i-preserved c =
    λ sc e.
    all_more (tree_declared sc) (elements_of c.args.elements.now).trees c.loop-i.i no_tree (search rules) (passed (tree-tested sc e _ c.holds.ensures c.tree_file.ensures) c.if-not-holds.false) ∙ (c.loop-i.invariant sc e)

pub returns : goal.returns
returns c =
    λ sc e. sym (all_end (tree_declared sc) (elements_of c.args.elements.now).trees c.loop-i.i (search rules)) ∙ (c.loop-i.invariant sc e)
