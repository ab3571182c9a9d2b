-- The trees of a loaded deck, printed, are the deck's own lines from its M line on. Assumes nothing.
use Rattle.std.specs.Prelude.{Bool, true, false, ◌&&◌, List, [], ◌∷◌, ◌++◌, ◌≡◌, ℕ, suc, leb}
use Rattle.std.proofs.Math.Option.{Option, none, some}
use Rattle.tables.specs.Bytes.{bytes}
use Rattle.tables.specs.Limits.{depth_limit}
use Rattle.tables.specs.Lists.{keep, same_list}
use Rattle.tables.specs.Records.{Tree, Model, Fixed, State}
use Rattle.deck.specs.Deck.{Part, lines, Line, T, G, S, F, M, B, E, C, read_line}
use Rattle.deck.specs.Load.{load, loaded}
unfoldable pub use Rattle.state_test.specs.StateTest.{waits}
use Rattle.merge_rules.specs.Program.{decimal_of, line_of, element_lines, model_lines, output}

-- ---- the trees printed

-- a tree: `B,file` and its elements
unfoldable pub tree_lines : Fixed → Model → Tree → List ℕ
tree_lines x m t = line_of (bytes "B" ∷ decimal_of t.file ∷ []) ++ element_lines (suc depth_limit) x m t.root

unfoldable pub waiting_lines : Fixed → Model → List Tree → List ℕ
waiting_lines x m [] = []
waiting_lines x m (t ∷ ts) = tree_lines x m t ++ waiting_lines x m ts

-- `M` and the model, then the waiting trees in deck order
unfoldable pub trees_lines : Fixed → Model → List ℕ
trees_lines x m = line_of (bytes "M" ∷ []) ++ (model_lines x m ++ waiting_lines x m (keep (waits m) x.elements.trees))

-- ---- the deck's own lines

-- the bytes of lines, each with its LF; the last part is behind the last LF
unfoldable pub joined_lines : List Part → List ℕ
joined_lines [] = []
joined_lines (p ∷ []) = p.bytes
joined_lines (p ∷ q ∷ ps) = (p.bytes ++ bytes "\n") ++ joined_lines (q ∷ ps)

-- the lines from the first `M` on
unfoldable pub tree_part : List Part → List ℕ
tree_part [] = []
tree_part (p ∷ ps) = elim (same_list p.bytes (bytes "M")) [ true ↦ joined_lines (p ∷ ps) | false ↦ tree_part ps ]

-- ---- decks in the order of their trees

-- the depth of an E or C line; 0 for the others
unfoldable pub line_depth : Line → ℕ
line_depth (T t r) = 0
line_depth (G g) = 0
line_depth (S r) = 0
line_depth (F d) = 0
line_depth M = 0
line_depth (B f) = 0
line_depth (E d n s) = d
line_depth (C d t) = d

-- The line behind a C line is no deeper than it: a deeper one belongs to an element before the text.
unfoldable pub may_follow : Line → Line → Bool
may_follow (T t r) next = true
may_follow (G g) next = true
may_follow (S r) next = true
may_follow (F d) next = true
may_follow M next = true
may_follow (B f) next = true
may_follow (E d n s) next = true
may_follow (C d t) next = leb (line_depth next) d

-- the same of two lines as they are read; what is no line follows and is followed by any
unfoldable pub follows : Option Line → Option Line → Bool
follows none next = true
follows (some l) none = true
follows (some l) (some next) = may_follow l next

unfoldable pub in_order : List Part → Bool
in_order [] = true
in_order (p ∷ []) = true
in_order (p ∷ q ∷ ps) = follows (read_line p) (read_line q) && in_order (q ∷ ps)

-- Where no line behind a C line is deeper than it, the printed trees are the deck's own lines.
abbrev pub PrintsBack : Type 0
PrintsBack =
    (deck : List ℕ) (x : Fixed) (s : State) → load deck ≡ loaded x s → in_order (lines deck) ≡ true
    → trees_lines x s.model ≡ tree_part (lines deck)

-- A deck that loads and does not print back: E,2 belongs to the element before the text of C,1, and is printed before that text.
abbrev pub overtaken : List ℕ
overtaken =
    bytes "T,0,3,0,0\nT,1,2,0,0\nS,0,0,1,1,2,1\nS,1,0,2,1,2,1\nF,0,0\nM\nE,0,0,1\nE,1,1,1\nC,1,s,a\nE,2,2,1\n"

abbrev pub PrintsOvertaken : Type 0
PrintsOvertaken = (in_order (lines overtaken) ≡ false) × (output overtaken ≡ bytes "E,0,0,1\nE,1,1,1\nE,2,2,1\nC,1,s,a\n")
