-- What the answer to a request, and a whole run, leave in the buffer and in the tables. Assumes nothing.
use Rattle.std.specs.Prelude.{Option, Some, None, Bool, true, false, List, [], ◌≡◌, ℕ}
use Rattle.std.specs.Borrow.{Bor}
use Rattle.tables.specs.Records.{Fixed, State}
use Rattle.state_test.specs.StateTest.{fixed_in}
use Rattle.deck.specs.Deck.{lines}
use Rattle.merge_rules.specs.CallLists.{Request, reply, call_lines, calls_output}
use Rattle.merge_rules.specs.Program.{merge_lines, output}
use Rattle.merge_rules.specs.Standing.{StandsAt}
use Rattle.printing.specs.Buffers.{Buffer, appended, Appends, Printed}

-- of the request q, on tables that say the state s: its lines are appended, and the tables stand at the state behind it
pub record Replies (deck schema elements : List ℕ) (s : State) (q : Request) (before after : Buffer) (model log : List ℕ) : Type 0 where
  pub text : Appends before (reply (fixed_in deck schema elements) q s).text after
  pub state : StandsAt deck schema elements model log (reply (fixed_in deck schema elements) q s).state

-- what a caller sees of a buffer
abbrev pub shown : Buffer → Printed
shown b = record { count = b.count; buffer = b.held }

-- a text is printed as far as there is room
pub record Shows (before : Buffer) (text : List ℕ) (after : Buffer) : Type 0 where
  pub is : shown after ≡ shown (appended before text)

-- ---- the two runs of the program, by a list of calls or by the deck's trees

-- the bytes of the list that a run is given; where there is none, the run has no list
abbrev pub list_in : Option (Bor (List ℕ)) → List ℕ
list_in (Some calls) = calls.now
list_in None = []

unfoldable pub run_lines : Bool → Fixed → List ℕ → State → List ℕ
run_lines true x calls s = call_lines x 0 (lines calls) s
run_lines false x calls s = merge_lines x x.elements.trees s

unfoldable pub run_output : Bool → List ℕ → List ℕ → List ℕ
run_output true deck calls = calls_output deck calls
run_output false deck calls = output deck
