-- Document 01, "Printed example and decks to try": the bytes that the program prints for the bytes of a deck. Assumes nothing.
use Rattle.std.specs.Prelude.{true, false, List, [], ◌∷◌, ◌++◌, ℕ, zero, suc, ◌+◌, ◌-◌, ◌/◌, ◌%◌, ltb}
use Rattle.std.proofs.Math.Option.{Option, none, some}
use Prim.Native.Char.{code}
use Rattle.tables.specs.Bytes.{bytes}
use Rattle.tables.specs.Limits.{depth_limit}
use Rattle.tables.specs.Records.{Element, FileNumber, Text, enum_number, string, whole_number, float, Tree, Item, child, text, Model, Fixed, State, root, name_of, depth_of, text_of, set_of, list_of}
use Rattle.tables.specs.Texts.{bytes_at}
use Rattle.deck.specs.Load.{load, Load, loaded, refused_at}
use Rattle.merge_rules.specs.Calls.{MergeAnswer, merged, merge_refused, merge}
use Rattle.merge_rules.specs.Unfolding.{merge_rules}
use Rattle.merge_rules.specs.Refusals.{refusal_fields}

-- ---- numbers and lines

unfoldable pub digit_byte : ℕ → ℕ
digit_byte d = elim (ltb d 10) [ true ↦ code "0" + d | false ↦ code "a" + (d - 10) ]

-- the digits of a number before those already written; the first number bounds their count
unfoldable pub digits_before : ℕ → ℕ → ℕ → List ℕ → List ℕ
digits_before zero radix n written = written
digits_before (suc k) radix n written =
    let more = digit_byte (n % radix) ∷ written in
    elim (ltb n radix) [ true ↦ more | false ↦ digits_before k radix (n / radix) more ]

unfoldable pub decimal_of : ℕ → List ℕ
decimal_of n = digits_before (suc n) 10 n []

unfoldable pub hexadecimal_of : ℕ → List ℕ
hexadecimal_of n = digits_before (suc n) 16 n []

-- (`-` where missing)
unfoldable pub or_dash : Option ℕ → List ℕ
or_dash none = bytes "-"
or_dash (some n) = decimal_of n

-- fields parted by commas, and LF
unfoldable pub line_of : List (List ℕ) → List ℕ
line_of [] = bytes "\n"
line_of (f ∷ []) = f ++ bytes "\n"
line_of (f ∷ g ∷ fs) = f ++ bytes "," ++ line_of (g ∷ fs)

-- ---- the model as E and C lines

unfoldable pub kind_of_text : Text → List ℕ
kind_of_text (enum_number n) = bytes "e"
kind_of_text (string p) = bytes "s"
kind_of_text (whole_number n) = bytes "u"
kind_of_text (float b) = bytes "f"

unfoldable pub value_of_text : Fixed → Text → List ℕ
value_of_text x (enum_number n) = decimal_of n
value_of_text x (string p) = bytes_at x.deck p
value_of_text x (whole_number n) = decimal_of n
value_of_text x (float b) = hexadecimal_of b

-- `C,depth,kind,value`
unfoldable pub text_line : Fixed → ℕ → Text → List ℕ
text_line x d t = line_of (bytes "C" ∷ decimal_of d ∷ kind_of_text t ∷ value_of_text x t ∷ [])

-- `E,depth,name,set`
unfoldable pub element_line : Fixed → Model → Element → List ℕ
element_line x m e =
    line_of (bytes "E" ∷ decimal_of (depth_of x e) ∷ decimal_of (name_of x e) ∷ hexadecimal_of (set_of m e) ∷ [])

unfoldable pub item_lines : (Element → List ℕ) → Fixed → ℕ → List Item → List ℕ
item_lines lower x d [] = []
item_lines lower x d (child e ∷ is) = lower e ++ item_lines lower x d is
item_lines lower x d (text t ∷ is) = text_line x d (text_of x t) ++ item_lines lower x d is

unfoldable pub element_lines : ℕ → Fixed → Model → Element → List ℕ
element_lines zero x m e = []
element_lines (suc n) x m e = element_line x m e ++ item_lines (element_lines n x m) x (suc (depth_of x e)) (list_of m e)

unfoldable pub model_lines : Fixed → Model → List ℕ
model_lines x m = element_lines (suc depth_limit) x m root

-- ---- the program

-- `merged,file,imports,restrictions,extensions` or `refused,file,number,element,name`
unfoldable pub answer_line : FileNumber → MergeAnswer → List ℕ
answer_line f (merged c) =
    line_of (bytes "merged" ∷ decimal_of f ∷ decimal_of c.imports ∷ decimal_of c.restrictions ∷ decimal_of c.extensions ∷ [])
answer_line f (merge_refused r) =
    let x = refusal_fields r in
    line_of (bytes "refused" ∷ decimal_of f ∷ decimal_of x.number ∷ or_dash x.element ∷ or_dash x.name ∷ [])

-- merges each waiting tree in deck order, also after a refusal, and prints for each its answer, then the model
unfoldable pub merge_lines : Fixed → List Tree → State → List ℕ
merge_lines x [] s = model_lines x s.model
merge_lines x (t ∷ ts) s =
    let r = merge x t.file s in
    answer_line t.file r.answer ++ merge_lines x ts r.state

-- A refused deck prints `deck,number,line` only.
unfoldable pub refused_deck : ℕ → ℕ → List ℕ
refused_deck n line = line_of (bytes "deck" ∷ decimal_of n ∷ decimal_of line ∷ [])

unfoldable pub output_of : Load → List ℕ
output_of (loaded x s) = merge_lines x x.elements.trees s
output_of (refused_at n line) = refused_deck n line

-- names every rule of this file on one `unfolding` line
unfoldable pub program_rules : Unit {0}
unfolding digit_byte digits_before decimal_of hexadecimal_of or_dash line_of kind_of_text value_of_text text_line element_line item_lines element_lines model_lines answer_line merge_lines refused_deck output_of
program_rules = tt

unfoldable pub output : List ℕ → List ℕ
unfolding merge_rules program_rules
output deck = output_of (load deck)
