use mathlib.Core.Path.{refl}
use Rattle.tables.specs.LogTable.{entry_is}
use Rattle.merge_log.proofs.Laws.Undo.{rolling-start, rolling-turn, rolling-end, rolling-keeps}
use borrow.Author.Rules.{rules}
use Rattle.merge_log.proofs.log.rollback_merge.Goals as goal

pub loop-n-init : goal.loop-n-init
loop-n-init c =
    rolling-start c.args.mark c.args.once c.args.model.now c.args.log.now _ _ c.requires.good_model c.requires.good_log c.requires.each c.log_length-n.ensures c.requires.once_if refl refl

pub loop-n-preserved : goal.loop-n-preserved
loop-n-preserved c =
    rolling-turn c.args.mark c.args.once c.args.model.now c.args.log.now c.loop-n.model c.loop-n.log c.undo_entry-r.new.model c.pop_entry.new.log c.loop-n.r c.undo_entry-r.result c.loop-n.n _ (entry_is c.entry_at-a.result) c.loop-n.invariant (search rules) refl c.entry_at-a.ensures c.pop_entry.ensures c.undo_entry-r.ensures

pub returns : goal.returns
returns c = record { log_after = rolling-end c.args.mark c.args.once c.args.model.now c.args.log.now c.loop-n.model c.remove_run.new.model c.loop-n.log c.loop-n.r c.loop-n.n c.loop-n.invariant (search rules) c.remove_run.ensures.holds_model; keeps_state = rolling-keeps c.args.mark c.args.once c.args.model.now c.args.log.now c.loop-n.model c.remove_run.new.model c.loop-n.log c.loop-n.r c.loop-n.n c.loop-n.invariant c.remove_run.ensures.keeps_model }
