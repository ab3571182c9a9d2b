use mathlib.Core.Path.{ap, ◌∙◌}
use Prim.Native.Nat.{ℕ}
use Rattle.state_test.proofs.Laws.Answers.{passed, failed}
use Rattle.state_test.proofs.Laws.States.{passed-tables}
use Rattle.answer_numbers.specs.Numbers.{accept}
use Rattle.answer_numbers.proofs.Laws.Numbers.{mark-bad, mark-good}
use Rattle.answer_numbers.proofs.numbers.mark_numbers.Goals as goal

pub returns-then-not-lent_tables_pass : goal.returns-then-not-lent_tables_pass
returns-then-not-lent_tables_pass c = c.refused.ensures ∙ mark-bad _ _ _ _ _ (failed c.lent_tables_pass.ensures c.if-not-lent_tables_pass.true)

pub log_length-requires : goal.log_length-requires
log_length-requires c = (passed-tables _ _ _ _ _ (passed c.lent_tables_pass.ensures c.if-not-lent_tables_pass.false)).log_tested.good

pub returns : goal.returns
returns c =
    c.accepted.ensures
    ∙ ap (λ (n : ℕ). accept n 0 0 0) c.log_length.ensures
    ∙ mark-good _ _ _ _ _ (passed c.lent_tables_pass.ensures c.if-not-lent_tables_pass.false)
