-- Lent tables as a load or a call after it left them: they pass refusal 0 and are the encoding of what they say, and so are those that
-- any further list of calls leaves. Assumes nothing.
use Rattle.std.specs.Prelude.{List, ◌≡◌, ℕ}
use Rattle.tables.specs.ElementsTable.{encode_elements}
use Rattle.tables.specs.LogTable.{encode_log}
use Rattle.tables.specs.ModelTable.{encode_model}
use Rattle.tables.specs.Records.{Fixed, State}
use Rattle.tables.specs.SchemaTable.{encode_schema}
use Rattle.load.specs.LoadCall.{tables_of, encoded}
use Rattle.state_test.specs.StateTest.{fixed_in, state_in}
use Rattle.merge_rules.specs.Book.{Call}
use Rattle.merge_rules.specs.Sound.{Passes}
use Rattle.merge_rules.specs.Withdrawal.{state_after}

-- the tables of the records pass, and hold the records
pub record Holds (deck : List ℕ) (x : Fixed) (s : State) : Type 0 where
  pub passes : Passes deck x s
  pub fixed : fixed_in deck (encode_schema x.schema) (encode_elements x.elements) ≡ x
  pub state : state_in (encode_model s.model) (encode_log s.log) ≡ s

-- the tables of every state that calls reach pass, and hold it
pub record StaysHolding (deck : List ℕ) (x : Fixed) (s : State) : Type 0 where
  pub after : (cs : List Call) → Holds deck x (state_after x cs s)

-- of the raw tables
pub record Standing (deck schema elements model log : List ℕ) : Type 0 where
  pub is : tables_of schema elements model log ≡ encoded (fixed_in deck schema elements) (state_in model log)
  pub stays : StaysHolding deck (fixed_in deck schema elements) (state_in model log)

-- the tables stand, and say this state
pub record StandsAt (deck schema elements model log : List ℕ) (s : State) : Type 0 where
  pub is : state_in model log ≡ s
  pub standing : Standing deck schema elements model log
