-- The mark of lent tables, and the lent answer. Assumes nothing.
use mathlib.Core.Bool.{true, false}
use mathlib.Core.List.{List, [], ◌∷◌}
use mathlib.Core.Path.{◌≡◌, sym, ap, ◌∙◌}
use Prim.Native.Nat.{ℕ}
use lib.ListN.{length}
use borrow.Author.Tests.{eq-eqb, ne_eqb}
use Rattle.tables.specs.LogTable.{log_of}
use Rattle.state_test.specs.StateTest.{lent_tables_pass}
use Rattle.answer_numbers.specs.Numbers.{answer_size, numbered, numbers_is, by_answer, refused_by0, accept, refuse, mark_numbers}
use Rattle.answer_numbers.specs.declared.numbers.Numbers as program

module _ (deck schema elements model log : List ℕ) where
  pub mark-bad : lent_tables_pass deck schema elements model log ≡ false → refuse 0 0 0 ≡ mark_numbers deck schema elements model log
  unfolding mark_numbers
  mark-bad bad = rw (bad, mark_numbers)

  pub mark-good : lent_tables_pass deck schema elements model log ≡ true → accept (length (log_of log)) 0 0 0 ≡ mark_numbers deck schema elements model log
  unfolding mark_numbers
  mark-good pass = rw (pass, mark_numbers)

-- ---- the lent answer

module _ (answer : List ℕ) where
  pub wrong_size : {A : Type 0} (left left_by0 : A) → (length answer ≡ answer_size → ⊥) → left_by0 ≡ by_answer answer left left_by0
  wrong_size left left_by0 h = rw (ne_eqb (length answer) answer_size h, by_answer)

  module _ (h : length answer ≡ answer_size) where
    pub right-size : {A : Type 0} (left left_by0 : A) → left ≡ by_answer answer left left_by0
    right-size left left_by0 = rw (eq-eqb (length answer) answer_size h, by_answer)

    pub filled : (n : program.Numbers) {whole : List ℕ} → whole ≡ n.first ∷ n.second ∷ n.third ∷ n.fourth ∷ []
        → numbered n.code whole ≡ by_answer answer (numbers_is n) (refused_by0 answer)
    filled n e = ap (numbered n.code) e ∙ right-size (numbers_is n) (refused_by0 answer)
