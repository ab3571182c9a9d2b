-- Lists of calls on the printed example of document 01, with what the program prints for each, as one list. Assumes nothing.
use Rattle.std.specs.Prelude.{List, [], ◌∷◌, ◌++◌, ◌≡◌, ℕ}
use Rattle.tables.specs.Bytes.{bytes}
use Rattle.tables.specs.Cells.{Each}
use Rattle.merge_rules.specs.CallLists.{calls_output}
use Rattle.merge_rules.specs.Stars.{example, example_merged}

-- ---- a row: a deck, a list of calls and what is printed for them

pub record Row : Type 0 where
  pub deck : List ℕ
  pub calls : List ℕ
  pub text : List ℕ

abbrev pub Prints : Row → Type 0
Prints r = calls_output r.deck r.calls ≡ r.text

-- ---- the rows

abbrev pub on_example : List ℕ → List ℕ → Row
on_example calls text = record { deck = example; calls = calls; text = text }

-- the answer to the example's merge
abbrev pub merged_line : List ℕ
merged_line = bytes "merged,1,2,1,1\n"

abbrev pub call_rows : List Row
call_rows =
    -- a merge, its log, and taken back: the deck's model
    on_example (bytes "merge,1\nlog\nrollback,0\nmodel\n")
    (merged_line ++ bytes "log,4\nrestriction,1,0\nimport,3,0,2,0\nimport,4,0,2,0\nextension,0,1\n" ++ bytes "rolledback,0,4\n"
    ++ bytes "E,0,0,1\nE,1,3,0\nC,2,s,p\n")
    -- The marks are 0 and 4. The content's paths are 0, 0, 1: path 0 goes to places 0 to 2. There are 5 elements. Taken back, the tree
    -- waits again.
    ∷ on_example (bytes "merge,1\nrollback,3\nrollback,4\nrange,0,3,2\nrange,9,3,2\nrollback,0\nmerge,1\n")
    (merged_line ++ bytes "rollback-refused,3,14\nrolledback,4,0\n" ++ bytes "range,0,3,2,0,2\nrange-refused,9,3,2,11,-,-\n"
    ++ bytes "rolledback,0,4\n" ++ merged_line)
    -- refusals with number, element and name: no tree waits, no row of the name, a characters parent
    ∷ on_example (bytes "merge,1\nmerge,1\nrange,0,9,2\nrange,1,3,2\n")
    (merged_line ++ bytes "refused,1,5,-,-\nrange-refused,0,9,2,7,0,9\nrange-refused,1,3,2,12,1,-\n")
    -- the deck's own trees; a merged tree waits no more
    ∷ on_example (bytes "trees\nmerge,1\ntrees\n")
    (bytes "M\nE,0,0,1\nE,1,3,0\nC,2,s,p\n" ++ bytes "B,1\nE,0,0,0\nE,1,3,0\nC,2,s,q\nE,1,4,0\nC,2,u,7\n" ++ merged_line ++ bytes "M\n"
    ++ example_merged)
    -- a leading zero ends the run,
    ∷ on_example (bytes "merge,1\nmerge,01\nmodel\n") (merged_line ++ bytes "calls,2\n")
    -- and so do a field too many,
    ∷ on_example (bytes "model,1\nmodel\n") (bytes "calls,1\n")
    -- a number past 64 bits
    ∷ on_example (bytes "rollback,18446744073709551615\nrollback,18446744073709551616\n")
    (bytes "rollback-refused,18446744073709551615,14\n" ++ bytes "calls,2\n")
    -- and a last line without its LF.
    ∷ on_example (bytes "merge,1\nlog") (merged_line ++ bytes "calls,2\n")
    -- no call, no line
    ∷ on_example [] []
    -- a refused deck: its last root is missing
    ∷ record { deck = bytes "T,0,0,0,0\nF,0,0\nM\n"; calls = bytes "model\n"; text = bytes "deck,3,3\n" }
    ∷ []

abbrev pub CallRowsPrint : Type 0
CallRowsPrint = Each Prints call_rows
