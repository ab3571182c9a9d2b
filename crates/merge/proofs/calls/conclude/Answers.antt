use Rattle.merge.proofs.Laws.Calls.{concluded-done, concluded-halted}
use Rattle.merge.proofs.calls.conclude.Goals as goal

pub returns-in-Ok : goal.returns-in-Ok
returns-in-Ok c =
    concluded-done c.args.old_model.now c.args.old_log.now c.args.model.now c.args.log.now c.args.mark c.args.r c.counts_above.result c.in-Ok.is c.counts_above.ensures

pub returns-in-Err : goal.returns-in-Err
returns-in-Err c =
    rw c.into.ensures
    (concluded-halted c.args.old_model.now c.args.old_log.now c.args.model.now c.args.log.now c.args.mark c.args.r c.copy_from_slice.new.self c.copy_from_slice-in-Err.new.self c.in-Err.halt
    c.in-Err.is c.copy_from_slice.ensures.after c.copy_from_slice-in-Err.ensures.after)
