-- Document 01, "Printed example and decks to try": the starred rows, as one list. Assumes nothing.
use Rattle.std.specs.Prelude.{List, [], ◌∷◌, ◌++◌, ◌≡◌, ℕ}
use Rattle.std.proofs.Math.Option.{Option, none, some}
use Rattle.tables.specs.Bytes.{bytes}
use Rattle.tables.specs.Records.{Element, Name, Fixed, State}
use Rattle.deck.specs.Load.{load, Load, loaded, refused_at}
use Rattle.merge_rules.specs.Book.{Call, call_merge, call_rollback, call_range, Answer, of_merge, of_rollback, of_range, call}
use Rattle.merge_rules.specs.Calls.{merged, merge_refused, taken_off, rollback_refused, range_is, range_refused}
use Rattle.merge_rules.specs.Program.{output, model_lines, program_rules}
use Rattle.merge_rules.specs.Refusals.{Refusal, refusal_fields}
use Rattle.merge_rules.specs.Unfolding.{merge_rules}

-- ---- a row: a deck with what the program prints, or a deck with calls, the answers to them and the model's lines behind them

-- an answer in the paper's numbers: the three counts; entries taken off; the first and last place; a refusal's number, element and name
pub data Numbered : Type 0 where
  counts : ℕ → ℕ → ℕ → Numbered
  off : ℕ → Numbered
  places_between : ℕ → ℕ → Numbered
  refusal : ℕ → Option Element → Option Name → Numbered

pub data Row : Type 0 where
  prints : List ℕ → List ℕ → Row
  gives : List ℕ → List Call → List Numbered → List ℕ → Row

unfoldable pub numbered_refusal : Refusal → Numbered
numbered_refusal r = let f = refusal_fields r in refusal f.number f.element f.name

unfoldable pub numbered : Answer → Numbered
numbered (of_merge (merged c)) = counts c.imports c.restrictions c.extensions
numbered (of_merge (merge_refused r)) = numbered_refusal r
numbered (of_rollback (taken_off n)) = off n
numbered (of_rollback (rollback_refused r)) = numbered_refusal r
numbered (of_range (range_is first last)) = places_between first last
numbered (of_range (range_refused r)) = numbered_refusal r

pub record Result : Type 0 where
  pub answers : List Numbered
  pub model : List ℕ

unfoldable pub result_of_calls : Fixed → List Call → State → List Numbered → Result
result_of_calls x [] s answers = record { answers = answers; model = model_lines x s.model }
result_of_calls x (c ∷ cs) s answers =
    let r = call x c s in
    result_of_calls x cs r.state (answers ++ (numbered r.answer ∷ []))

unfoldable pub result_of_load : Load → List Call → Result
result_of_load (loaded x s) cs = result_of_calls x cs s []
result_of_load (refused_at n line) cs = record { answers = refusal n none none ∷ []; model = [] }

unfoldable pub result_of : List ℕ → List Call → Result
unfolding merge_rules program_rules numbered_refusal numbered result_of_calls result_of_load
result_of deck cs = result_of_load (load deck) cs

abbrev pub Holds : Row → Type 0
Holds (prints deck text) = output deck ≡ text
Holds (gives deck cs answers model) = result_of deck cs ≡ record { answers = answers; model = model }

infixr 20 ◌and◌
pub data AllHold : List Row → Type 0 where
  all : AllHold []
  ◌and◌ : {r : Row} {rs : List Row} → Holds r → AllHold rs → AllHold (r ∷ rs)

-- ---- the printed example, and the same rolled back

abbrev pub example : List ℕ
example =
    bytes "T,0,0,0,f\nT,1,4,0,0\nS,0,0,3,1,2,f\nS,0,1,4,1,0,f\nF,0,2\nF,1,3\n" ++ bytes "M\nE,0,0,1\nE,1,3,0\nC,2,s,p\n"
    ++ bytes "B,1\nE,0,0,0\nE,1,3,0\nC,2,s,q\nE,1,4,0\nC,2,u,7\n"

abbrev pub example_merged : List ℕ
example_merged = bytes "E,0,0,3\nE,1,3,1\nC,2,s,p\nE,1,3,2\nC,2,s,q\nE,1,4,2\nC,2,u,7\n"

abbrev pub example_rows : List Row
example_rows =
    -- the example
    prints example (bytes "merged,1,2,1,1\n" ++ example_merged)
    -- Rolled back to 0 or 4 (its length): the deck's model, or no change;
    ∷ gives example (call_merge 1 ∷ call_rollback 0 ∷ []) (counts 2 1 1 ∷ off 4 ∷ []) (bytes "E,0,0,1\nE,1,3,0\nC,2,s,p\n")
    ∷ gives example (call_merge 1 ∷ call_rollback 4 ∷ []) (counts 2 1 1 ∷ off 0 ∷ []) example_merged
    -- to 3 or 5: 14.
    ∷ gives example (call_merge 1 ∷ call_rollback 3 ∷ []) (counts 2 1 1 ∷ refusal 14 none none ∷ []) example_merged
    ∷ gives example (call_merge 1 ∷ call_rollback 5 ∷ []) (counts 2 1 1 ∷ refusal 14 none none ∷ []) example_merged
    ∷ []

-- ---- ranges of the root, for name 4, in version 2

-- a root of this mode with rows at paths 0, 1 and 2, the one at path 1 of this mult
abbrev pub range_deck : List ℕ → List ℕ → List ℕ → List ℕ
range_deck mode mult model =
    bytes "T,0," ++ mode ++ bytes ",0,0\nT,1,4,0,0\nS,0,0,3,1,2,f\nS,0,1,4,1," ++ mult ++ bytes ",f\nS,0,2,5,1,2,f\nF,0,2\nM\n" ++ model

abbrev pub paths012 : List ℕ
paths012 = bytes "E,0,0,1\nE,1,3,0\nE,1,4,0\nE,1,5,0\n"

abbrev pub range_row : List ℕ → List ℕ → List ℕ → Numbered → Row
range_row mode mult model answer = gives (range_deck mode mult model) (call_range 0 4 2 ∷ []) (answer ∷ []) model

abbrev pub range_rows : List Row
range_rows =
    -- Range, sequence holding paths 0, 1, 2, new path 1: (1, 2) with mult 2,
    range_row (bytes "0") (bytes "2") paths012 (places_between 1 2)
    -- 13 with mult 0.
    ∷ range_row (bytes "0") (bytes "0") paths012 (refusal 13 (some 0) none)
    -- Empty sequence: (0, 0).
    ∷ range_row (bytes "0") (bytes "2") (bytes "E,0,0,1\n") (places_between 0 0)
    -- Choice holding another path: 13; bag of 3: (0, 3).
    ∷ range_row (bytes "1") (bytes "2") (bytes "E,0,0,1\nE,1,3,0\n") (refusal 13 (some 0) none)
    ∷ range_row (bytes "2") (bytes "2") paths012 (places_between 0 3)
    ∷ []

-- ---- named elements

-- a sequence, splittable as numbered, of named elements 3 with a SHORT-NAME each
abbrev pub named_deck : List ℕ → List ℕ → List ℕ → List ℕ
named_deck split model tree =
    bytes "T,0,0,0," ++ split ++ bytes "\nT,1,0,1,0\nT,2,4,0,0\nS,0,0,3,1,2,f\nS,1,0,1,2,1,f\nF,0,2\nF,1,3\nM\nE,0,0,1\n" ++ model
    ++ bytes "B,1\nE,0,0,0\n" ++ tree

abbrev pub named_x : List ℕ
named_x = bytes "E,1,3,0\nE,2,1,0\nC,3,s,x\n"

abbrev pub named_y : List ℕ
named_y = bytes "E,1,3,0\nE,2,1,0\nC,3,s,y\n"

abbrev pub named_rows : List Row
named_rows =
    -- Named x, y against y, x: two pairs.
    gives (named_deck (bytes "0") (named_x ++ named_y) (named_y ++ named_x)) (call_merge 1 ∷ []) (counts 0 0 1 ∷ []) (bytes "E,0,0,3\n" ++ named_x ++ named_y)
    -- x against y: 6,
    ∷ gives (named_deck (bytes "0") named_x named_y) (call_merge 1 ∷ []) (refusal 6 (some 0) none ∷ []) (bytes "E,0,0,1\n" ++ named_x)
    -- or both kept if splittable.
    ∷ gives (named_deck (bytes "f") named_x named_y) (call_merge 1 ∷ []) (counts 1 1 1 ∷ [])
    (bytes "E,0,0,3\nE,1,3,1\nE,2,1,0\nC,3,s,x\nE,1,3,2\nE,2,1,0\nC,3,s,y\n")
    ∷ []

-- ---- definitions

abbrev pub defined_d : List ℕ
defined_d = bytes "E,1,3,0\nE,2,2,0\nC,3,s,d\n"

abbrev pub defined_e : List ℕ
defined_e = bytes "E,1,3,0\nE,2,2,0\nC,3,s,e\n"

abbrev pub definition_rows : List Row
definition_rows =
    -- Definitions d, d against e, d: 8. The delivered d is element 8.
    gives
    (bytes "T,0,0,0,f\nT,1,0,0,0\nT,2,4,0,0\nS,0,0,3,1,2,f\nS,1,0,2,2,1,f\nF,0,2\nF,1,3\nM\nE,0,0,1\n" ++ defined_d ++ defined_d
    ++ bytes "B,1\nE,0,0,0\n" ++ defined_e ++ defined_d)
    (call_merge 1 ∷ []) (refusal 8 (some 8) none ∷ []) (bytes "E,0,0,1\n" ++ defined_d ++ defined_d)
    ∷ []

-- ---- a conflict below

-- unnamed n, a choice of c1 and c2, in a splittable sequence; the row of n is of this mult
abbrev pub choice_deck : List ℕ → List ℕ
choice_deck mult =
    bytes "T,0,0,0,f\nT,1,1,0,0\nT,2,4,0,0\nS,0,0,3,1," ++ mult ++ bytes ",f\nS,1,0,4,2,0,f\nS,1,1,5,2,0,f\nF,0,2\nF,1,3\n"
    ++ bytes "M\nE,0,0,1\nE,1,3,0\nE,2,4,0\nB,1\nE,0,0,0\nE,1,3,0\nE,2,5,0\n"

abbrev pub choice_rows : List Row
choice_rows =
    -- Unnamed n with c1 against n with c2 in a choice, mult 2, parent splittable: both n, counts 1, 1, 1;
    gives (choice_deck (bytes "2")) (call_merge 1 ∷ []) (counts 1 1 1 ∷ []) (bytes "E,0,0,3\nE,1,3,1\nE,2,4,0\nE,1,3,2\nE,2,5,0\n")
    -- with mult 0: 6 at A's n.
    ∷ gives (choice_deck (bytes "0")) (call_merge 1 ∷ []) (refusal 6 (some 1) none ∷ []) (bytes "E,0,0,1\nE,1,3,0\nE,2,4,0\n")
    ∷ []

-- ---- Starred rows form one list, proved together of the rules.

abbrev pub starred_rows : List Row
starred_rows = example_rows ++ range_rows ++ named_rows ++ definition_rows ++ choice_rows
