use mathlib.Core.Path.{sym, ap, ◌∙◌}
use Rattle.tables.specs.Records.{Tree}
use Rattle.tables.specs.ElementsTable.{elements_of, no_tree}
use Rattle.state_test.specs.StateTest.{root_valid, fixed_in}
use Rattle.tables.proofs.Laws.Scans.{all_more, all-stop, all_end}
use Rattle.state_test.proofs.Laws.Answers.{passed, failed}
use Rattle.state_test.proofs.Laws.Roots.{roots-stop, roots-last}
use borrow.Author.Rules.{rules}
use Rattle.state_test.proofs.roots.roots_valid.Goals as goal

pub returns-then-not-root_valid : goal.returns-then-not-root_valid
returns-then-not-root_valid c =
    λ deck schema. roots-stop (fixed_in deck schema c.args.elements.now) (failed (c.root_valid.ensures deck schema) c.if-not-root_valid.true)

pub returns-then-not-root_valid-2 : goal.returns-then-not-root_valid-2
returns-then-not-root_valid-2 c =
    λ deck schema. roots-last (fixed_in deck schema c.args.elements.now) (passed (c.root_valid.ensures deck schema) c.if-not-root_valid.false) (sym (all-stop (λ (t : Tree). root_valid (fixed_in deck schema c.args.elements.now) t.root) (elements_of c.args.elements.now).trees c.loop-i.i no_tree (search rules) (failed (c.root_valid-in-loop-i.ensures deck schema ∙ ap (root_valid (fixed_in deck schema c.args.elements.now)) c.tree_root.ensures) c.if-not-root_valid-2.true)) ∙ (c.loop-i.invariant deck schema))

pub loop-i-preserved : goal.loop-i-preserved
loop-i-preserved c =
    λ deck schema. all_more (λ (t : Tree). root_valid (fixed_in deck schema c.args.elements.now) t.root) (elements_of c.args.elements.now).trees c.loop-i.i no_tree (search rules) (passed (c.root_valid-in-loop-i.ensures deck schema ∙ ap (root_valid (fixed_in deck schema c.args.elements.now)) c.tree_root.ensures) c.if-not-root_valid-2.false) ∙ (c.loop-i.invariant deck schema)

pub returns : goal.returns
returns c =
    λ deck schema. roots-last (fixed_in deck schema c.args.elements.now) (passed (c.root_valid.ensures deck schema) c.if-not-root_valid.false) (sym (all_end (λ (t : Tree). root_valid (fixed_in deck schema c.args.elements.now) t.root) (elements_of c.args.elements.now).trees c.loop-i.i (search rules)) ∙ (c.loop-i.invariant deck schema))
