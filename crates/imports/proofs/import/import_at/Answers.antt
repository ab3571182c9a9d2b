use native.Mathlib.Omega.{arith}
use Rattle.std.specs.Prelude.{Err, ◌≡◌}
use Rattle.std.proofs.lemmas.Result.{IfOk-at_ok, IfErr-at_err}
use Rattle.merge_log.specs.declared.refusals.Halt.TheVariants.{Refused}
use Rattle.merge_log.specs.declared.refusals.Refusal.TheVariants.{LogFull}
use Rattle.state_test.specs.StateTest.{state_in}
use Rattle.imports.proofs.Laws.Entering.{import-log-full, import-content-full, inserted-count, inserted-place, import-inserted, keeps-inserted}
use borrow.Author.Rules.{rules}
use Rattle.imports.proofs.import.import_at.Goals as goal

pub returns-in_err-has_room-clause-log_after : goal.returns-in_err-has_room-clause-log_after
returns-in_err-has_room-clause-log_after c =
    let full = IfErr-at_err _ c.in_err-has_room.was c.has_room.ensures.full in
    let same : c.from_residual.result ≡ Err (Refused LogFull) = grind arith in
    rw same (import-log-full c.args.f.0 c.args.p.0 c.args.e.0 c.args.at (state_in c.args.model.now c.args.log.now) full.1)

pub returns-then-item_total-ge-ITEM_LIMIT-clause-log_after : goal.returns-then-item_total-ge-ITEM_LIMIT-clause-log_after
returns-then-item_total-ge-ITEM_LIMIT-clause-log_after c =
    rw c.into.ensures (import-content-full c.args.f.0 c.args.p.0 c.args.e.0 c.args.at (state_in c.args.model.now c.args.log.now) (IfOk-at_ok _ c.in_ok-has_room.was c.has_room.ensures.room) (search rules))

pub insert_items-requires : goal.insert_items-requires
insert_items-requires c = record { good_model = c.requires.good_model; e_bound = c.requires.p_bound; i_in_bounds = c.requires.at_in_bounds; k_bound = omega (arith, c.item_total.ensures, c.if-item_total-ge-ITEM_LIMIT.false); item_below = c.requires.e_bound }

pub enter-requires : goal.enter-requires
enter-requires c =
    let z = inserted-count c.args.f.0 c.args.p.0 c.args.e.0 c.args.at c.args.model.now c.args.log.now c.insert_items.new.model c.insert_items.ensures c.requires.good_model c.requires.p_bound c.requires.at_in_bounds in
    let w = inserted-place c.args.f.0 c.args.p.0 c.args.e.0 c.args.at c.args.model.now c.args.log.now c.insert_items.new.model c.insert_items.ensures c.requires.good_model c.requires.p_bound c.requires.at_in_bounds in record { good_model = c.insert_items.ensures.good; good_log = c.requires.good_log; log_len_bound = IfOk-at_ok _ c.in_ok-has_room.was c.has_room.ensures.room; p_bound = omega (arith, z, c.requires.p_bound); e_bound = omega (arith, z, c.requires.e_bound); at_in_bounds = w; f_lt_file_limit = c.requires.f_lt_file_limit }

pub returns : goal.returns
returns c = record { log_after = import-inserted c.args.f.0 c.args.p.0 c.args.e.0 c.args.at c.args.model.now c.args.log.now c.insert_items.new.model c.insert_items.ensures c.requires.good_model c.requires.p_bound c.requires.at_in_bounds c.enter.new.model c.enter.new.log c.enter.ensures (IfOk-at_ok _ c.in_ok-has_room.was c.has_room.ensures.room); keeps_state = keeps-inserted c.args.f.0 c.args.p.0 c.args.e.0 c.args.at c.args.model.now c.args.log.now c.insert_items.new.model c.insert_items.ensures c.requires.good_model c.requires.p_bound c.requires.at_in_bounds c.enter.new.model c.enter.new.log c.enter.ensures }
