use mathlib.Core.Path.{refl}
use Rattle.tables.specs.LogTable.{entry_is}
use Rattle.merge.proofs.Laws.Counts.{counting-start, counts-below, counting-next, counting-end}
use borrow.Author.Rules.{rules}
use Rattle.merge.proofs.counts.counts_above.Goals as goal

pub loop-i-init : goal.loop-i-init
loop-i-init c = counting-start _ _ _ _ refl refl refl c.log_length-i.ensures

pub count_entry-c-requires : goal.count_entry-c-requires
count_entry-c-requires c =
    counts-below _ _ c.loop-i.c c.loop-i.i c.loop-i.invariant c.loop-i-test.true c.requires.sized.fits

pub loop-i-preserved : goal.loop-i-preserved
loop-i-preserved c =
    counting-next _ _ c.loop-i.c c.loop-i.i c.loop-i.invariant c.count_entry-c.result (entry_is c.entry_at-a.result) _ c.loop-i-test.true refl c.entry_at-a.ensures c.count_entry-c.ensures

pub returns : goal.returns
returns c =
    counting-end _ _ c.loop-i.c c.loop-i.i c.loop-i.invariant (search rules)
