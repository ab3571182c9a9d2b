-- Document 01, "What each operation refuses": load as a call on lent tables. Assumes nothing.
use Rattle.std.specs.Prelude.{Result, Ok, Err, Bool, true, false, ◌&&◌, List, [], ◌≡◌, ℕ, eqb, length, replicate}
use Rattle.tables.specs.Records.{Fixed, State}
use Rattle.tables.specs.ElementsTable.{elements_size, elements_of, GoodElements, encode_elements}
use Rattle.tables.specs.LogTable.{log_size, encode_log}
use Rattle.tables.specs.ModelTable.{model_size, model_of, GoodModel, encode_model}
use Rattle.tables.specs.SchemaTable.{schema_size, schema_of, GoodSchema, encode_schema}
use Rattle.deck.specs.Load.{Load, loaded, refused_at, load}
use Rattle.load.specs.Lines.{refusal_number}
use Rattle.load.specs.declared.refusals.LoadError.{LoadError}

-- ---- the tables together

pub record Tables : Type 0 where
  pub schema : List ℕ
  pub elements : List ℕ
  pub model : List ℕ
  pub log : List ℕ

abbrev pub tables_of : List ℕ → List ℕ → List ℕ → List ℕ → Tables
tables_of schema elements model log = record { schema = schema; elements = elements; model = model; log = log }

abbrev pub encoded : Fixed → State → Tables
encoded x s =
    record {
      schema = encode_schema x.schema;
      elements = encode_elements x.elements;
      model = encode_model s.model;
      log = encode_log s.log;
    }

abbrev pub zeros : List ℕ → List ℕ
zeros xs = replicate (length xs) 0

abbrev pub zeroed : Tables → Tables
zeroed t = record { schema = zeros t.schema; elements = zeros t.elements; model = zeros t.model; log = zeros t.log }

-- no lent table of a wrong size
unfoldable pub sizes_fit : Tables → Bool
sizes_fit t =
    eqb (length t.schema) schema_size && eqb (length t.elements) elements_size && eqb (length t.model) model_size
    && eqb (length t.log) log_size

-- ---- the call

-- what a load answers: taken, or the refusal's number and the line's
pub data Answer : Type 0 where
  Loaded : Answer
  Refused : ℕ → ℕ → Answer

-- what a load answers and leaves
pub record LoadResult : Type 0 where
  pub answer : Answer
  pub tables : Tables

abbrev pub load_result : Answer → List ℕ → List ℕ → List ℕ → List ℕ → LoadResult
load_result r schema elements model log = record { answer = r; tables = tables_of schema elements model log }

-- All lent tables become zero where the deck is refused.
unfoldable pub load_into : Tables → Load → LoadResult
load_into t (loaded x s) = record { answer = Loaded; tables = encoded x s }
load_into t (refused_at n line) = record { answer = Refused n line; tables = zeroed t }

-- 0 too, line 0
unfoldable pub load_call : List ℕ → Tables → LoadResult
load_call deck t =
    elim (sizes_fit t) [
      | true ↦ load_into t (load deck)
      | false ↦ record { answer = Refused 0 0; tables = zeroed t }
    ]

-- ---- what the program answers

unfoldable pub load_answer : Result (Unit {0}) LoadError → Answer
load_answer (Ok u) = Loaded
load_answer (Err e) = Refused (refusal_number e.refusal) e.line

-- an answer, with the tables, as the rules have it; of the tables after a refusal it says nothing: the call clears all tables then
unfoldable pub answer_is : Result (Unit {0}) LoadError → List ℕ → List ℕ → List ℕ → List ℕ → Load
answer_is (Ok u) deck schema elements model =
    loaded (record { deck = deck; schema = schema_of schema; elements = elements_of elements }) (record { model = model_of model; log = [] })
answer_is (Err e) deck schema elements model = refused_at (refusal_number e.refusal) e.line

pub record Loads (r : Result (Unit {0}) LoadError) (deck schema elements model : List ℕ) (o : Load) : Type 0 where
  pub is : answer_is r deck schema elements model ≡ o
  pub good_schema : GoodSchema schema
  pub good_elements : GoodElements elements
  pub good_model : GoodModel model
