-- On the tables of a state that passes, each call is the rules' call: it answers what the rules answer, and leaves the tables of the state
-- that they leave. Assumes nothing.
use mathlib.Core.Bool.{false}
use mathlib.Core.List.{List, [], ◌∷◌, ◌++◌, map}
use mathlib.Core.Path.{◌≡◌, refl, sym, ap}
use Prim.Native.Nat.{ℕ}
use native.Mathlib.Omega.{arith}
use Rattle.tables.specs.ElementsTable.{encode_elements}
use Rattle.tables.specs.Lists.{any_of}
use Rattle.tables.specs.LogTable.{encode_log}
use Rattle.tables.specs.ModelTable.{encode_model}
use Rattle.tables.specs.Records.{Element, Name, FileNumber, Version, Fixed, State}
use Rattle.tables.specs.SchemaTable.{encode_schema}
use Rattle.tables.proofs.Laws.Cases.{bool_case}
use Rattle.tables.proofs.Laws.ElementsTable.{elements-back}
use Rattle.tables.proofs.Laws.LogTable.{log_back}
use Rattle.tables.proofs.Laws.ModelTable.{decode-encode}
use Rattle.tables.proofs.Laws.SchemaTable.{schema-back}
use Rattle.deck.specs.Load.{Load, loaded, refused_at, load}
use Rattle.load.specs.LoadCall.{Tables, encoded, LoadResult, sizes_fit, load_into, load_call, Loaded}
use Rattle.state_test.specs.StateTest.{fixed_in, state_in}
use Rattle.merge_rules.specs.Book.{Call, call_merge, call_rollback, call_range, of_rollback, call}
use Rattle.merge_rules.specs.Calls.{merge, range, RollbackAnswer, rollback}
use Rattle.merge_rules.specs.Sound.{Sound}
use Rattle.merge_rules.specs.Standing.{Holds, StaysHolding}
use Rattle.merge_rules.specs.TableCalls.{answered, encoded_result, merge_call, rollback_call, range_call}
use Rattle.merge_rules.specs.TableWithdrawal.{TablesCalled, answer_as, call_on, tables_after, CallAnswered, history_on, answers_of, is_bad_tables, any_bad_tables, TablesWithdrawn, TablesWithdrawnFrom}
use Rattle.merge_rules.specs.Withdrawal.{Answered, state_after, history, book_after, Withdrawn, WithdrawnFrom}
use Rattle.merge_rules.proofs.Laws.Loaded.{FixedInRange}
use Rattle.merge_rules.proofs.Laws.Passing.{sound-passes}
use Rattle.merge_rules.proofs.Laws.PassingTables.{schema-in, elements-in, model_in}

-- ---- what the tables say

-- those of a sound state do
pub sound-holds : (deck : List ℕ) (x : Fixed) (s : State) → FixedInRange deck x → Sound x s → Holds deck x s
sound-holds deck x s r h =
    let schema = schema-back x.schema (schema-in x.schema r.schema).sized in
    let elements = elements-back x.elements (elements-in deck x r h.static).sized in
    let model = decode-encode s.model (model_in deck x r h.static s h.kept).sized in
    let log = log_back s.log in
    record {
      passes = sound-passes deck x s r h;
      fixed = λ i. record { deck = sym r.read i; schema = schema i; elements = elements i };
      state = λ i. record { model = model i; log = log i };
    }

-- ---- load

-- what holds of the tables of all that the deck loads to holds of those that an accepted load leaves
pub loaded-tables : (deck : List ℕ) (t : Tables) (P : Tables → Type 0) → ((x : Fixed) (s : State) → load deck ≡ loaded x s → P (encoded x s))
    → (load_call deck t).answer ≡ Loaded → P (load_call deck t).tables
unfolding load_call load_into
loaded-tables deck t P h =
    bool_case (λ (r : LoadResult). r.answer ≡ Loaded → P r.tables) (sizes_fit t) (λ _. into (load deck) refl) (λ _ k.
    let z : ◌≡◌ {A = ℕ} 0 1 = cc in
    absurd (omega arith))
  where
    into : (l : Load) → load deck ≡ l → (load_into t l).answer ≡ Loaded → P (load_into t l).tables
    into (loaded x s) e k = h x s e
    into (refused_at n line) e k = let z : ◌≡◌ {A = ℕ} 0 1 = cc in absurd (omega arith)

-- ---- one call

-- what a call answers and leaves, as the rules have it
abbrev pub called : Fixed → Call → State → TablesCalled
called x c s = record { answer = answered (call x c s).answer; tables = encoded x (call x c s).state }

module _ {deck : List ℕ} {x : Fixed} {s : State} (h : Holds deck x s) where
  merge-encoded : (f : FileNumber)
      → merge_call deck (encode_schema x.schema) (encode_elements x.elements) (encode_model s.model) (encode_log s.log) f
      ≡ encoded_result (merge x f s).answer (merge x f s).state
  unfolding merge_call
  merge-encoded f = rw (h.passes, merge_call, h.fixed, h.state)

  rollback-encoded : (mark : ℕ)
      → rollback_call deck (encode_schema x.schema) (encode_elements x.elements) (encode_model s.model) (encode_log s.log) mark
      ≡ encoded_result (rollback mark s).answer (rollback mark s).state
  unfolding rollback_call
  rollback-encoded mark = rw (h.passes, rollback_call, h.state)

  range-encoded : (e : Element) (n : Name) (v : Version)
      → range_call deck (encode_schema x.schema) (encode_elements x.elements) (encode_model s.model) (encode_log s.log) e n v
      ≡ answered (range x e n v s)
  unfolding range_call
  range-encoded e n v = rw (h.passes, range_call, h.fixed, h.state)

  -- any call
  pub call-encoded : (c : Call) → call_on deck c (encoded x s) ≡ called x c s
  unfolding call_on answer_as call
  call-encoded (call_merge f) = rw (merge-encoded f)
  call-encoded (call_rollback mark) = rw (rollback-encoded mark)
  call-encoded (call_range e n v) = rw (range-encoded e n v)

-- ---- lists of calls

state_after-append : (x : Fixed) (cs ds : List Call) (s : State) → state_after x (cs ++ ds) s ≡ state_after x ds (state_after x cs s)
unfolding state_after
state_after-append x [] ds s = refl
state_after-append x (c ∷ cs) ds s = state_after-append x cs ds (call x c s).state

-- an answer of the rules, as a call gives it
abbrev pub from_rules : Answered → CallAnswered
from_rules d = record { asked = d.asked; answer = answered d.answer }

module _ {deck : List ℕ} {x : Fixed} where
  stays_after : {s : State} → StaysHolding deck x s → (cs : List Call) → StaysHolding deck x (state_after x cs s)
  stays_after h cs = record { after = λ ds. rw state_after-append at (h.after (cs ++ ds)) }

  first-call : {s : State} → StaysHolding deck x s → (c : Call) → call_on deck c (encoded x s) ≡ called x c s
  unfolding state_after
  first-call h c = call-encoded (h.after []) c

  -- the state behind a call stays so
  pub later-calls : {s : State} → StaysHolding deck x s → (c : Call) → StaysHolding deck x (call x c s).state
  unfolding state_after
  later-calls h c = stays_after h (c ∷ [])

  -- the tables behind a list of calls
  pub tables_after_lem : {s : State} → StaysHolding deck x s → (cs : List Call) → tables_after deck cs (encoded x s) ≡ encoded x (state_after x cs s)
  unfolding tables_after state_after
  tables_after_lem h [] = refl
  tables_after_lem {s = s} h (c ∷ cs) = rw (first-call h c) (tables_after_lem {s = (call x c s).state} (later-calls h c) cs)

  -- its answers
  history-after : {s : State} → StaysHolding deck x s → (cs : List Call) → history_on deck cs (encoded x s) ≡ map from_rules (history x cs s)
  unfolding history_on history
  history-after h [] = refl
  history-after {s = s} h (c ∷ cs) = rw (first-call h c, history-after {s = (call x c s).state} (later-calls h c) cs)

-- ---- answers

answers-back : (ds : List Answered) → answers_of (map from_rules ds) ≡ ds
unfolding answers_of
answers-back [] = refl
answers-back (d ∷ ds) = λ i. d ∷ answers-back ds i

none-bad : (ds es : List Answered) → any_bad_tables (map from_rules ds ++ map from_rules es) ≡ false
unfolding any_bad_tables any_of is_bad_tables
none-bad [] [] = refl
none-bad [] (e ∷ es) = none-bad [] es
none-bad (d ∷ ds) es = none-bad ds es

-- ---- demand 3

-- one rollback more, on the tables
withdrawn-encoded : {deck : List ℕ} {x : Fixed} {at_mark at_end : State} (ds es : List Answered) → Holds deck x at_end
    → Withdrawn at_mark at_end (book_after ds []) (book_after es (book_after ds []))
    → TablesWithdrawn deck (encoded x at_mark) (encoded x at_end) (map from_rules ds) (map from_rules es)
unfolding call
withdrawn-encoded {x = x} {at_mark = at_mark} ds es h w =
    record {
      no_bad_tables = none-bad ds es;
      sums_since = w.sums_since;
      book = rw (answers-back, answers-back) w.book;
      accepted = rw (log_back, call-encoded h) (ap (λ (a : RollbackAnswer). answered (of_rollback a)) w.accepted);
      tables = rw (log_back, call-encoded h) (ap (encoded x) w.state);
    }

-- from the tables of a state, by what the rules say of the state
pub withdrawn-on : {deck : List ℕ} {x : Fixed} {s : State} → StaysHolding deck x s → WithdrawnFrom x s → TablesWithdrawnFrom deck (encoded x s)
withdrawn-on {deck = deck} {x = x} {s = s} h w before after =
    let h₁ = stays_after h before in
    rw (tables_after_lem h before, history-after h before, tables_after_lem h₁ after, history-after h₁ after, answers-back, log_back)
    (λ high. withdrawn-encoded (history x before s) (history x after (state_after x before s)) (h₁.after after) (w before after high))
