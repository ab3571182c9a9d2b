-- Lists of calls, one to a line: what each line asks for, and the bytes that the program prints for the bytes of a deck and of a list.
-- Assumes nothing.
use Rattle.std.specs.Prelude.{List, [], ◌∷◌, ◌++◌, ℕ, suc, ◌-◌, ◌^◌, eqb, length}
use Rattle.std.proofs.Math.Option.{Option, none, some, bind as ◌>>=◌}
use Rattle.tables.specs.Bytes.{bytes}
use Rattle.tables.specs.Lists.{first_of, same_list}
use Rattle.tables.specs.Records.{Element, Name, Version, Entry, import, restriction, extension, Log, Fixed, State}
use Rattle.deck.specs.Deck.{Part, lines, fields, field, decimal, only}
use Rattle.deck.specs.Load.{load, Load, loaded, refused_at}
use Rattle.merge_rules.specs.Book.{Call, call_merge, call_rollback, call_range}
use Rattle.merge_rules.specs.Calls.{merge, RangeAnswer, range_is, range_refused, range, RollbackAnswer, taken_off, rollback_refused, rollback}
use Rattle.merge_rules.specs.DeckLines.{tree_lines, waiting_lines, waits, trees_lines}
use Rattle.merge_rules.specs.Program.{decimal_of, hexadecimal_of, or_dash, line_of, model_lines, answer_line, refused_deck}
use Rattle.merge_rules.specs.Refusals.{refusal_fields}

-- ---- what a line asks for

pub data Request : Type 0 where
  of_call : Call → Request
  of_model : Request
  of_trees : Request
  of_log : Request

-- Numbers are decimal without leading zeros, up to 64 bits
unfoldable pub word_field : Part → Option ℕ
word_field p = decimal (2 ^ 64 - 1) p

-- `merge,file`
unfoldable pub line_merge : List Part → Option Request
line_merge l = do
  file ← word_field (field l 1)
  only (eqb (length l) 2) (of_call (call_merge file))

-- `rollback,mark`
unfoldable pub line_rollback : List Part → Option Request
line_rollback l = do
  mark ← word_field (field l 1)
  only (eqb (length l) 2) (of_call (call_rollback mark))

-- `range,element,name,version`
unfoldable pub line_range : List Part → Option Request
line_range l = do
  element ← word_field (field l 1)
  name ← word_field (field l 2)
  version ← word_field (field l 3)
  only (eqb (length l) 4) (of_call (call_range element name version))

-- `model`, `trees`, `log`
unfoldable pub line_alone : Request → List Part → Option Request
line_alone r l = only (eqb (length l) 1) r

abbrev pub words : List (List ℕ × (List Part → Option Request))
words =
    (bytes "merge", line_merge) ∷ (bytes "rollback", line_rollback) ∷ (bytes "range", line_range) ∷ (bytes "model", line_alone of_model)
    ∷ (bytes "trees", line_alone of_trees) ∷ (bytes "log", line_alone of_log) ∷ []

-- the fields read by the word that the first of them is
unfoldable pub by_word : List Part → Option Request
by_word l =
    elim (first_of (λ (w : List ℕ × (List Part → Option Request)). same_list (field l 0).bytes w.0) words) [ none ↦ none | some w ↦ w.1 l ]

-- the line read by its fields; none where its form is wrong
unfoldable pub read_request : Part → Option Request
read_request line = by_word (fields line)

-- ---- what is printed for it

-- `rolledback,mark,entries` or `rollback-refused,mark,number`
unfoldable pub rollback_line : ℕ → RollbackAnswer → List ℕ
rollback_line mark (taken_off n) = line_of (bytes "rolledback" ∷ decimal_of mark ∷ decimal_of n ∷ [])
rollback_line mark (rollback_refused r) = line_of (bytes "rollback-refused" ∷ decimal_of mark ∷ decimal_of (refusal_fields r).number ∷ [])

-- `range,element,name,version,first,last` or `range-refused,element,name,version,number,element,name`
unfoldable pub range_line : Element → Name → Version → RangeAnswer → List ℕ
range_line e n v (range_is first last) =
    line_of (bytes "range" ∷ decimal_of e ∷ decimal_of n ∷ decimal_of v ∷ decimal_of first ∷ decimal_of last ∷ [])
range_line e n v (range_refused r) =
    let f = refusal_fields r in
    line_of
    (bytes "range-refused" ∷ decimal_of e ∷ decimal_of n ∷ decimal_of v ∷ decimal_of f.number ∷ or_dash f.element ∷ or_dash f.name ∷ [])

-- `import,element,parent,old parent,old set`, `restriction,element,old set`, `extension,element,file`
unfoldable pub entry_line : Entry → List ℕ
entry_line (import e p old_parent old_set) =
    line_of (bytes "import" ∷ decimal_of e ∷ decimal_of p ∷ or_dash old_parent ∷ hexadecimal_of old_set ∷ [])
entry_line (restriction e old_set) = line_of (bytes "restriction" ∷ decimal_of e ∷ hexadecimal_of old_set ∷ [])
entry_line (extension e f) = line_of (bytes "extension" ∷ decimal_of e ∷ decimal_of f ∷ [])

-- oldest first; a log has its newest entry first
unfoldable pub entry_lines : Log → List ℕ
entry_lines [] = []
entry_lines (e ∷ l) = entry_lines l ++ entry_line e

-- `log,length`, then each entry
unfoldable pub log_lines : Log → List ℕ
log_lines l = line_of (bytes "log" ∷ decimal_of (length l) ∷ []) ++ entry_lines l

-- what is printed for a request, and the state behind it
pub record Reply : Type 0 where
  pub text : List ℕ
  pub state : State

unfoldable pub reply : Fixed → Request → State → Reply
reply x (of_call (call_merge f)) s = let r = merge x f s in record { text = answer_line f r.answer; state = r.state }
reply x (of_call (call_rollback mark)) s = let r = rollback mark s in record { text = rollback_line mark r.answer; state = r.state }
reply x (of_call (call_range e n v)) s = record { text = range_line e n v (range x e n v s); state = s }
reply x of_model s = record { text = model_lines x s.model; state = s }
reply x of_trees s = record { text = trees_lines x s.model; state = s }
reply x of_log s = record { text = log_lines s.log; state = s }

-- ---- a list of calls

-- a line of another form prints `calls,line` with its number from 1 and ends the run
unfoldable pub bad_call : ℕ → List ℕ
bad_call n = line_of (bytes "calls" ∷ decimal_of n ∷ [])

-- so many lines have been answered; what stands behind the last LF is a line of another form, unless it is nothing
unfoldable pub call_lines : Fixed → ℕ → List Part → State → List ℕ
call_lines x n [] s = []
call_lines x n (p ∷ []) s = elim p.bytes [ [] ↦ [] | b ∷ bs ↦ bad_call (suc n) ]
call_lines x n (p ∷ q ∷ ps) s =
    elim (read_request p) [
      | none ↦ bad_call (suc n)
      | some r ↦ let a = reply x r s in a.text ++ call_lines x (suc n) (q ∷ ps) a.state
    ]

-- A refused deck prints `deck,number,line` only.
unfoldable pub calls_output_of : List ℕ → Load → List ℕ
calls_output_of calls (loaded x s) = call_lines x 0 (lines calls) s
calls_output_of calls (refused_at n line) = refused_deck n line

unfoldable pub calls_output : List ℕ → List ℕ → List ℕ
calls_output deck calls = calls_output_of calls (load deck)

-- names every rule of this file, and those that print the trees, on one `unfolding` line
unfoldable pub call_list_rules : Unit {0}
unfolding tree_lines waiting_lines waits trees_lines word_field line_merge line_rollback line_range line_alone by_word read_request rollback_line range_line entry_line entry_lines log_lines reply bad_call call_lines calls_output_of calls_output
call_list_rules = tt
