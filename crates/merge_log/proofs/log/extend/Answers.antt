use Rattle.std.specs.Prelude.{Err, ◌≡◌}
use Rattle.std.proofs.lemmas.Result.{IfErr-at_err}
use Rattle.merge_log.specs.declared.refusals.Halt.TheVariants.{Refused}
use Rattle.merge_log.specs.declared.refusals.Refusal.TheVariants.{LogFull}
use Rattle.tables.specs.SetCells.{set_is}
use mathlib.Core.Path.{sym, ◌∙◌}
use Rattle.tables.specs.Records.{extension}
use Rattle.merge_log.proofs.Laws.Log.{extend-held, extend-full, extend-done, keeps-change}
use native.Mathlib.Omega.{arith}
use borrow.Author.Rules.{rules}
use Rattle.merge_log.proofs.log.extend.Goals as goal

pub returns-then-holds-clause-log_after : goal.returns-then-holds-clause-log_after
returns-then-holds-clause-log_after c =
    extend-held c.args.model.now c.args.log.now c.args.e.0 c.args.f.0 (sym c.if-holds.true ∙ (rw c.set_of-old.ensures at c.holds.ensures))

pub returns-in_err-has_room-clause-log_after : goal.returns-in_err-has_room-clause-log_after
returns-in_err-has_room-clause-log_after c =
    let full = IfErr-at_err _ c.in_err-has_room.was c.has_room.ensures.full in
    let same : c.from_residual.result ≡ Err (Refused LogFull) = grind arith in
    rw same (extend-full c.args.model.now c.args.log.now c.args.e.0 c.args.f.0 (sym c.if-holds.false ∙ (rw c.set_of-old.ensures at c.holds.ensures)) full.1)

pub returns : goal.returns
returns c =
    let m = c.args.model.now in
    let l = c.args.log.now in
    let e = c.args.e.0 in
    let f = c.args.f.0 in record {
      log_after = extend-done m l c.set_set.new.model c.push_entry.new.log (search rules) e f (set_is c.with.result)
          (sym c.if-holds.false ∙ (rw c.set_of-old.ensures at c.holds.ensures)) c.push_entry.ensures (rw c.set_of-old.ensures at c.with.ensures) c.set_set.ensures;
      keeps_state = keeps-change m l _ _ e (set_is c.with.result) (extension e f) (λ n z. (omega (arith, c.requires.e_bound), c.requires.f_lt_file_limit)) c.push_entry.ensures c.set_set.ensures;
    }
