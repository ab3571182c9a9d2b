use Rattle.std.specs.Prelude.{Some, None, Err, ◌≡◌}
use Rattle.std.proofs.lemmas.Result.{IfOk-at_ok, IfErr-at_err}
use native.Mathlib.Omega.{arith}
use Rattle.merge_log.specs.declared.refusals.Halt.TheVariants.{Refused}
use Rattle.merge_log.specs.declared.refusals.Refusal.TheVariants.{LogFull, NotInVersion}
use Rattle.schema_calls.proofs.Laws.Scans.{found-at, found-missing}
use Rattle.imports.proofs.Laws.Entering.{into-no-row, into-log-full, into-done}
use borrow.Author.Rules.{rules}
use Rattle.imports.proofs.import.import_into.Goals as goal

pub returns-in_err-ok_or : goal.returns-in_err-ok_or
returns-in_err-ok_or c =
    let missing : c.find_sub_element.result ≡ None = grind arith in
    let same : c.from_residual.result ≡ Err (Refused (NotInVersion c.args.r.p c.element_name-n.result)) = grind arith in
    rw same (into-no-row c.args.schema.now c.args.elements.now c.args.f.0 c.args.v c.args.r c.args.e.0 c.element_type-t.result.0 c.element_name-n.result c.args.model.now c.args.log.now (search rules) c.element_name-n.ensures c.element_type-t.ensures (found-missing c.find_sub_element.ensures missing))

pub returns-in_err-has_room : goal.returns-in_err-has_room
returns-in_err-has_room c =
    let found : c.find_sub_element.result ≡ Some c.in_ok-ok_or.field-0 = grind arith in
    let full = IfErr-at_err _ c.in_err-has_room.was c.has_room.ensures.full in
    let same : c.from_residual-in_err-has_room.result ≡ Err (Refused LogFull) = grind arith in
    rw same (into-log-full c.args.schema.now c.args.elements.now c.args.f.0 c.args.v c.args.r c.args.e.0 c.element_type-t.result.0 c.element_name-n.result c.args.model.now c.args.log.now c.requires.v_lt_version_limit c.element_name-n.ensures c.element_type-t.ensures (found-at c.find_sub_element.ensures found)
    c.requires.any_place c.requires.model_over.good (rw c.requires.model_over.same c.requires.p_in_bounds) c.requires.run_in full.1)

pub returns : goal.returns
returns c =
    let found : c.find_sub_element.result ≡ Some c.in_ok-ok_or.field-0 = grind arith in
    into-done c.args.schema.now c.args.elements.now c.args.f.0 c.args.v c.args.r c.args.e.0 c.element_type-t.result.0 c.element_name-n.result c.args.model.now c.args.log.now c.requires.v_lt_version_limit c.element_name-n.ensures c.element_type-t.ensures (found-at c.find_sub_element.ensures found)
    c.requires.any_place c.requires.model_over.good (rw c.requires.model_over.same c.requires.p_in_bounds) c.requires.run_in c.enter.new.model c.enter.new.log c.requires.k_nonzero
    (IfOk-at_ok _ c.in_ok-has_room.was c.has_room.ensures.room) c.enter.ensures
