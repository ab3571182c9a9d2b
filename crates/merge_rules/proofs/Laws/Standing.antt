-- Standing tables: every call on them is the rules' call, and the tables that it leaves stand; those of an accepted load stand.
-- Assumes nothing.
use mathlib.Core.Bool.{true}
use mathlib.Core.List.{List, []}
use mathlib.Core.Path.{◌≡◌, refl, sym, ap, subst, ◌∙◌}
use Prim.Native.Nat.{ℕ}
use native.Mathlib.Omega.{arith}
use Rattle.tables.specs.Records.{Element, Name, FileNumber, Version, Fixed, State}
use Rattle.deck.specs.Load.{Load, loaded, refused_at, load}
use Rattle.load.specs.LoadCall.{Tables, tables_of, encoded, LoadResult, load_result, sizes_fit, load_into, load_call, Loaded, Refused}
use Rattle.state_test.specs.StateTest.{lent_tables_pass, fixed_in, state_in}
use Rattle.merge_rules.specs.Book.{call_merge, call_rollback, call}
use Rattle.merge_rules.specs.Calls.{MergeAnswer, merge, RangeAnswer, range, RollbackAnswer, rollback}
use Rattle.merge_rules.specs.CallLists.{calls_output_of, calls_output}
use Rattle.merge_rules.specs.Program.{output_of, output}
use Rattle.merge_rules.specs.Sound.{TablesPass}
use Rattle.merge_rules.specs.Standing.{Holds, StaysHolding, Standing, StandsAt}
use Rattle.merge_rules.specs.TableCalls.{CallAnswer, answered, CallResult, encoded_result, merge_call, rollback_call, range_call}
use Rattle.merge_rules.specs.Withdrawal.{state_after}
use Rattle.merge_rules.proofs.Laws.TableCalls.{loaded-tables, later-calls}
use Rattle.merge_rules.proofs.TableWithdrawal.{stays-holding}

-- ---- what the tables say

-- where every state that calls reach passes, so does this one
holds-now : {deck : List ℕ} {x : Fixed} {s : State} → StaysHolding deck x s → Holds deck x s
unfolding state_after
holds-now h = h.after []

-- the tables of such a state say it, and stand
module _ {deck schema elements model log : List ℕ} {x : Fixed} {s : State} (h : StaysHolding deck x s)
    (e : tables_of schema elements model log ≡ encoded x s) where
  fixed-is : fixed_in deck schema elements ≡ x
  fixed-is = ap (λ (t : Tables). fixed_in deck t.schema t.elements) e ∙ (holds-now h).fixed

  state-is : state_in model log ≡ s
  state-is = ap (λ (t : Tables). state_in t.model t.log) e ∙ (holds-now h).state

  stands_at : StandsAt deck schema elements model log s
  stands_at =
      record {
        is = state-is;
        standing =
            record {
              is = e ∙ (λ i. encoded (sym fixed-is i) (sym state-is i));
              stays = subst (λ (y : Fixed). StaysHolding deck y (state_in model log)) (sym fixed-is) (subst (StaysHolding deck x) (sym state-is) h);
            };
      }

-- ---- the calls

module _ {deck schema elements model log : List ℕ} (h : Standing deck schema elements model log) where
  abbrev x : Fixed
  x = fixed_in deck schema elements

  abbrev s : State
  s = state_in model log

  -- they pass refusal 0
  pub standing-passes : lent_tables_pass deck schema elements model log ≡ true
  standing-passes = subst (TablesPass deck) (sym h.is) (holds-now h.stays).passes

  -- what a call leaves that answers and writes what the rules do
  result-stands : {A : Type 0} {a : CallAnswer A} {model' log' : List ℕ} (answer : A) (t : State) → StaysHolding deck x t
      → record { answer = a; model = model'; log = log' } ≡ encoded_result answer t
      → (a ≡ answered answer) × StandsAt deck schema elements model' log' t
  result-stands {A} {a} {model'} {log'} answer t stays e =
      let same : tables_of schema elements model log ≡ encoded x s = h.is in (
        ap CallResult.answer e,
        stands_at stays (λ i. tables_of (same i).schema (same i).elements (e i).model (e i).log),
      )

  -- merge
  pub merge-standing : (f : FileNumber) {a : CallAnswer MergeAnswer} {model' log' : List ℕ}
      → record { answer = a; model = model'; log = log' } ≡ merge_call deck schema elements model log f
      → (a ≡ answered (merge x f s).answer) × StandsAt deck schema elements model' log' (merge x f s).state
  unfolding merge_call call
  merge-standing f e =
      result-stands (merge x f s).answer (merge x f s).state (later-calls h.stays (call_merge f)) (e ∙ rw (standing-passes, merge_call))

  -- rollback
  pub rollback-standing : (mark : ℕ) {a : CallAnswer RollbackAnswer} {model' log' : List ℕ}
      → record { answer = a; model = model'; log = log' } ≡ rollback_call deck schema elements model log mark
      → (a ≡ answered (rollback mark s).answer) × StandsAt deck schema elements model' log' (rollback mark s).state
  unfolding rollback_call call
  rollback-standing mark e =
      result-stands (rollback mark s).answer (rollback mark s).state (later-calls h.stays (call_rollback mark)) (e ∙ rw (standing-passes, rollback_call))

  -- range
  pub range-standing : (e : Element) (n : Name) (v : Version) {a : CallAnswer RangeAnswer}
      → a ≡ range_call deck schema elements model log e n v → a ≡ answered (range x e n v s)
  unfolding range_call
  range-standing e n v k = k ∙ rw (standing-passes, range_call)

-- ---- load

-- the deck loaded to what the tables say, and they stand
pub record StandsLoaded (deck schema elements model log : List ℕ) : Type 0 where
  pub standing : Standing deck schema elements model log
  pub loads : load deck ≡ loaded (fixed_in deck schema elements) (state_in model log)

-- an accepted load
pub loaded-standing : (deck : List ℕ) (t : Tables) {schema elements model log : List ℕ}
    → load_result Loaded schema elements model log ≡ load_call deck t → StandsLoaded deck schema elements model log
loaded-standing deck t e =
    subst P (sym (ap LoadResult.tables e))
    (loaded-tables deck t P
    (λ x s l.
    let stays = stays-holding deck x s l in
    record { standing = (stands_at stays refl).standing; loads = l ∙ (λ i. loaded (sym (fixed-is stays refl) i) (sym (state-is stays refl) i)) })
    (sym (ap LoadResult.answer e)))
  where
    P : Tables → Type 0
    P u = StandsLoaded deck u.schema u.elements u.model u.log

-- a refused one, into tables of the right sizes
pub refused-load : (deck : List ℕ) (t : Tables) {n line : ℕ} {after : Tables} → sizes_fit t ≡ true
    → record { answer = Refused n line; tables = after } ≡ load_call deck t → load deck ≡ refused_at n line
unfolding load_call load_into
refused-load deck t {n} {line} {after} fit e = into (load deck) (rw (fit, load_call) at (ap LoadResult.answer e))
  where
    into : (l : Load) → Refused n line ≡ (load_into t l).answer → l ≡ refused_at n line
    into (loaded y r) k = let z : ◌≡◌ {A = ℕ} 0 1 = cc in absurd (omega arith)
    into (refused_at m at) k = cc

-- ---- what is printed

-- of a deck
pub output-of : (deck : List ℕ) → output deck ≡ output_of (load deck)
unfolding output
output-of deck = refl

-- of a deck and a list of calls
pub calls-output-of : (deck calls : List ℕ) → calls_output deck calls ≡ calls_output_of calls (load deck)
unfolding calls_output
calls-output-of deck calls = refl
