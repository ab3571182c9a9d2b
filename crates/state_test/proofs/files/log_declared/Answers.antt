use mathlib.Core.Path.{◌∙◌, ap}
use Rattle.tables.specs.LogTable.{log_of}
use Rattle.state_test.specs.StateTest.{entry_declared}
use Rattle.state_test.proofs.Laws.Files.{entry-stop, entry_more, entries-end}
use borrow.Author.Rules.{rules}
use Rattle.state_test.proofs.files.log_declared.Goals as goal

pub returns-then-not-entry_declared : goal.returns-then-not-entry_declared
returns-then-not-entry_declared c =
    λ sc e.
    entry-stop (entry_declared sc) (log_of c.args.log.now) c.loop-i.i (search rules) c.loop-i.invariant.0
    (c.entry_declared.ensures sc e ∙ ap (entry_declared sc) c.entry_at.ensures) c.if-not-entry_declared.true (c.loop-i.invariant.1 sc e)

pub loop-i-preserved : goal.loop-i-preserved
loop-i-preserved c = (
  search rules,
  λ sc e.
      entry_more (entry_declared sc) (log_of c.args.log.now) c.loop-i.i (search rules) c.loop-i.invariant.0
      (c.entry_declared.ensures sc e ∙ ap (entry_declared sc) c.entry_at.ensures) c.if-not-entry_declared.false (c.loop-i.invariant.1 sc e),
)

pub returns : goal.returns
returns c =
    λ sc e. entries-end (entry_declared sc) (log_of c.args.log.now) c.loop-i.i (search rules) (c.loop-i.invariant.1 sc e)
