-- Document 01, "What each operation refuses": the calls on lent tables. 0, or what the operation answers to what the tables say.
-- Assumes nothing.
use Rattle.std.specs.Prelude.{true, false, List, ℕ}
use Rattle.tables.specs.LogTable.{encode_log}
use Rattle.tables.specs.ModelTable.{encode_model}
use Rattle.tables.specs.Records.{Element, Name, FileNumber, Version, State}
use Rattle.state_test.specs.StateTest.{lent_tables_pass, fixed_in, state_in}
use Rattle.merge_rules.specs.Calls.{MergeAnswer, merge, RangeAnswer, range, RollbackAnswer, rollback}

-- refusal 0, or the operation's answer
pub data CallAnswer (A : Type 0) : Type 0 where
  bad_tables : CallAnswer A
  answered : A → CallAnswer A

-- what a call that writes answers, and the tables that it leaves; schema and elements stay
pub record CallResult (A : Type 0) : Type 0 where
  pub answer : CallAnswer A
  pub model : List ℕ
  pub log : List ℕ

-- the tables of the state that the operation left
abbrev pub encoded_result : {A : Type 0} → A → State → CallResult A
encoded_result a s = record { answer = answered a; model = encode_model s.model; log = encode_log s.log }

-- the files, marks, elements, names and versions asked for are any numbers
unfoldable pub merge_call : List ℕ → List ℕ → List ℕ → List ℕ → List ℕ → FileNumber → CallResult MergeAnswer
merge_call deck schema elements model log f =
    elim (lent_tables_pass deck schema elements model log) [
      | true ↦ let r = merge (fixed_in deck schema elements) f (state_in model log) in encoded_result r.answer r.state
      | false ↦ record { answer = bad_tables; model = model; log = log }
    ]

unfoldable pub rollback_call : List ℕ → List ℕ → List ℕ → List ℕ → List ℕ → ℕ → CallResult RollbackAnswer
rollback_call deck schema elements model log mark =
    elim (lent_tables_pass deck schema elements model log) [
      | true ↦ let r = rollback mark (state_in model log) in encoded_result r.answer r.state
      | false ↦ record { answer = bad_tables; model = model; log = log }
    ]

unfoldable pub range_call : List ℕ → List ℕ → List ℕ → List ℕ → List ℕ → Element → Name → Version → CallAnswer RangeAnswer
range_call deck schema elements model log e n v =
    elim (lent_tables_pass deck schema elements model log) [
      | true ↦ answered (range (fixed_in deck schema elements) e n v (state_in model log))
      | false ↦ bad_tables
    ]
