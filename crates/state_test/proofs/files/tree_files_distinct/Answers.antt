use mathlib.Core.Path.{sym, ◌∙◌}
use Rattle.tables.specs.ElementsTable.{elements_of}
use Rattle.tables.specs.Lists.{keep}
use Rattle.tables.specs.ModelTable.{model_of}
use Rattle.tables.specs.SetCells.{set_is}
use Rattle.state_test.specs.StateTest.{waits}
use Rattle.state_test.proofs.Laws.Files.{distinct-start, distinct-loaded, distinct-stop, distinct_more, distinct-end}
use borrow.Author.Rules.{rules}
use Rattle.state_test.proofs.files.tree_files_distinct.Goals as goal

pub loop-i-init : goal.loop-i-init
loop-i-init c =
    distinct-start (keep (waits (model_of c.args.model.now)) (elements_of c.args.elements.now).trees) c.none-seen.ensures

pub loop-i-preserved-then-holds : goal.loop-i-preserved-then-holds
loop-i-preserved-then-holds c =
    distinct-loaded (model_of c.args.model.now) (elements_of c.args.elements.now).trees c.loop-i.i (set_is c.loop-i.seen) c.loop-i.invariant (search rules)
    c.set_of-loaded.ensures c.tree_file-f.ensures (sym c.holds.ensures ∙ c.if-holds.true)

pub returns-then-holds-2 : goal.returns-then-holds-2
returns-then-holds-2 c =
    distinct-stop (model_of c.args.model.now) (elements_of c.args.elements.now).trees c.loop-i.i (set_is c.loop-i.seen) c.loop-i.invariant (search rules)
    c.set_of-loaded.ensures c.tree_file-f.ensures (sym c.holds.ensures ∙ c.if-holds.false)
    c.holds-in-loop-i.ensures c.if-holds-2.true

pub loop-i-preserved : goal.loop-i-preserved
loop-i-preserved c =
    distinct_more (model_of c.args.model.now) (elements_of c.args.elements.now).trees c.loop-i.i (set_is c.loop-i.seen) c.loop-i.invariant (search rules)
    c.set_of-loaded.ensures c.tree_file-f.ensures (sym c.holds.ensures ∙ c.if-holds.false)
    c.holds-in-loop-i.ensures c.if-holds-2.false c.with-seen.ensures

pub returns : goal.returns
returns c =
    distinct-end (model_of c.args.model.now) (elements_of c.args.elements.now).trees c.loop-i.i (set_is c.loop-i.seen) c.loop-i.invariant (search rules)
