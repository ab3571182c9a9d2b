use mathlib.Core.Path.{◌∙◌}
use Rattle.tables.specs.SetCells.{set_is}
use Rattle.state_test.specs.StateTest.{fixed_in, state_in}
use Rattle.pairs.proofs.Laws.Settle.{settle-done, settle-conflict, settle-refused}
use borrow.Author.Rules.{rules}
use Rattle.pairs.proofs.settle.settle.Goals as goal

pub returns-in-Ok-clause-log_after : goal.returns-in-Ok-clause-log_after
returns-in-Ok-clause-log_after c =
    let x = fixed_in c.args.deck.now c.args.schema.now c.args.elements.now in
    c.extend_pair.ensures.log_after ∙ settle-done x c.args.f.0 c.args.v c.args.p.0 (record { a = c.args.a.0; b = c.args.b.0 }) (set_is c.args.files) c.args.mark (state_in c.args.model.now c.args.log.now) c.args.below c.in-Ok.is

pub returns-in-Err-Conflict-clause-log_after : goal.returns-in-Err-Conflict-clause-log_after
returns-in-Err-Conflict-clause-log_after c =
    let x = fixed_in c.args.deck.now c.args.schema.now c.args.elements.now in
    c.settle_conflict.ensures.log_after ∙ settle-conflict x c.args.f.0 c.args.v c.args.p.0 (record { a = c.args.a.0; b = c.args.b.0 }) (set_is c.args.files) c.args.mark (state_in c.args.model.now c.args.log.now) c.args.below c.in-Err-Conflict.e (search rules)

pub returns-in-Err-Refused-clause-log_after : goal.returns-in-Err-Refused-clause-log_after
returns-in-Err-Refused-clause-log_after c =
    let x = fixed_in c.args.deck.now c.args.schema.now c.args.elements.now in
    settle-refused x c.args.f.0 c.args.v c.args.p.0 (record { a = c.args.a.0; b = c.args.b.0 }) (set_is c.args.files) c.args.mark (state_in c.args.model.now c.args.log.now) c.args.below c.in-Err-Refused.field-0-0 (search rules)
