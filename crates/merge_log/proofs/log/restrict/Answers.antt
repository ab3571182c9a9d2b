use Rattle.std.specs.Prelude.{Err, ◌≡◌}
use Rattle.std.proofs.lemmas.Result.{IfErr-at_err}
use Rattle.merge_log.specs.declared.refusals.Halt.TheVariants.{Refused}
use Rattle.merge_log.specs.declared.refusals.Refusal.TheVariants.{LogFull}
use Rattle.tables.specs.SetCells.{set_is}
use Rattle.tables.specs.Records.{restriction}
use Rattle.merge_log.proofs.Laws.Log.{restrict-full, restrict-done, keeps-change}
use native.Mathlib.Omega.{arith}
use borrow.Author.Rules.{rules}
use Rattle.merge_log.proofs.log.restrict.Goals as goal

pub returns-in_err-has_room-clause-log_after : goal.returns-in_err-has_room-clause-log_after
returns-in_err-has_room-clause-log_after c =
    let full = IfErr-at_err _ c.in_err-has_room.was c.has_room.ensures.full in
    let same : c.from_residual.result ≡ Err (Refused LogFull) = grind arith in
    rw same (restrict-full c.args.model.now c.args.log.now c.args.e.0 (set_is c.args.files) full.1)

pub returns : goal.returns
returns c =
    let m = c.args.model.now in
    let l = c.args.log.now in
    let e = c.args.e.0 in record { log_after = restrict-done m l c.set_set.new.model c.push_entry.new.log (search rules) e (set_is c.args.files) (set_is c.set_of-old.result) c.set_of-old.ensures c.push_entry.ensures c.set_set.ensures; keeps_state = keeps-change m l _ _ e (set_is c.args.files) (restriction e (set_is c.set_of-old.result)) (λ n z. omega (arith, c.requires.e_bound)) c.push_entry.ensures c.set_set.ensures }
