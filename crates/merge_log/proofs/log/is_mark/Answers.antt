use mathlib.Core.Path.{◌∙◌}
use Rattle.tables.specs.LogTable.{log_of, entry_is}
use Rattle.merge_log.proofs.Laws.Log.{mark-none, mark-above, mark-at}
use borrow.Author.Rules.{rules}
use Rattle.merge_log.proofs.log.is_mark.Goals as goal

pub returns-then-mark-eq0 : goal.returns-then-mark-eq0
returns-then-mark-eq0 c =
    rw c.if-mark-eq0.true (mark-none (log_of c.args.log.now))

pub returns-then-n-mark : goal.returns-then-n-mark
returns-then-n-mark c =
    mark-above c.args.mark (log_of c.args.log.now) c.if-mark-eq0.false (search rules)

pub returns : goal.returns
returns c =
    c.is_root_extension.ensures ∙ mark-at c.args.mark (log_of c.args.log.now) (entry_is c.entry_at-a.result) c.if-mark-eq0.false (search rules) c.entry_at-a.ensures
