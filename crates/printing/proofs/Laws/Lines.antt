-- Laws of one line: the parts that are written in turn are the line of the rules. Assumes nothing.
use mathlib.Core.List.{List, [], ◌∷◌, ◌++◌}
use mathlib.Core.Path.{◌≡◌, refl, sym, subst}
use Prim.Native.Nat.{ℕ, suc, ◌+◌, ◌-◌}
use native.Mathlib.Omega.{arith}
use lib.ListN.{length, take, drop}
use Rattle.tables.specs.Bytes.{bytes}
use Rattle.tables.specs.Records.{Place, Text, enum_number, string, whole_number, float, Model, Fixed, name_of, depth_of, set_of}
use Rattle.tables.specs.declared.text.StoredText as stored
use Rattle.tables.specs.declared.text.StoredText.TheVariants.{Number as StoredNumber, Str as StoredStr, Whole as StoredWhole, Float as StoredFloat}
use Rattle.tables.specs.Texts.{bytes_at, stored_is, stored_in}
use Rattle.table_test.specs.ElementsTest.{TextIn}
use Rattle.merge_rules.specs.Program.{digits_before, decimal_of, hexadecimal_of, line_of, kind_of_text, value_of_text, text_line, element_line}
use Rattle.printing.specs.TreeLines.{value_end}

-- ---- the last two fields of a C line

module _ (x : Fixed) (v : ℕ) where
  pub value-enum : (101 ∷ 44 ∷ []) ++ (digits_before (suc v) 10 v [] ++ (10 ∷ [])) ≡ value_end x (enum_number v)
  unfolding kind_of_text value_of_text decimal_of bytes
  value-enum = refl

  pub value-whole : (117 ∷ 44 ∷ []) ++ (digits_before (suc v) 10 v [] ++ (10 ∷ [])) ≡ value_end x (whole_number v)
  unfolding kind_of_text value_of_text decimal_of bytes
  value-whole = refl

  pub value-float : (102 ∷ 44 ∷ []) ++ (digits_before (suc v) 16 v [] ++ (10 ∷ [])) ≡ value_end x (float v)
  unfolding kind_of_text value_of_text hexadecimal_of bytes
  value-float = refl

pub value-string : (x : Fixed) (p : Place) (deck : List ℕ) → x.deck ≡ deck → (115 ∷ 44 ∷ []) ++ (bytes_at deck p ++ (10 ∷ [])) ≡ value_end x (string p)
unfolding kind_of_text value_of_text bytes
value-string x p deck d = rw d

-- the part of the deck that is lent
pub string-part : (deck : List ℕ) (a n : ℕ) → take (a + n - a) (drop a deck) ≡ bytes_at deck (record { start = a; size = n })
unfolding bytes_at
string-part deck a n = let e : a + n - a ≡ n = omega arith in rw e

-- ---- lines

pub text-parts : (x : Fixed) (d : ℕ) (t : Text) → (67 ∷ 44 ∷ []) ++ ((digits_before (suc d) 10 d [] ++ (44 ∷ [])) ++ value_end x t) ≡ text_line x d t
unfolding text_line line_of decimal_of bytes
text-parts x d t = refl

pub row-parts : (d n s : ℕ)
    → (69 ∷ 44 ∷ [])
    ++ ((digits_before (suc d) 10 d [] ++ (44 ∷ [])) ++ ((digits_before (suc n) 10 n [] ++ (44 ∷ [])) ++ (digits_before (suc s) 16 s [] ++ (10 ∷ []))))
    ≡ line_of (bytes "E" ∷ decimal_of d ∷ decimal_of n ∷ hexadecimal_of s ∷ [])
unfolding line_of decimal_of hexadecimal_of bytes
row-parts d n s = refl

pub element-line : (x : Fixed) (m : Model) (e : ℕ) {d n s : ℕ} → d ≡ depth_of x e → n ≡ name_of x e → s ≡ set_of m e
    → line_of (bytes "E" ∷ decimal_of d ∷ decimal_of n ∷ hexadecimal_of s ∷ []) ≡ element_line x m e
unfolding element_line
element-line x m e hd hn hs = λ i. line_of (bytes "E" ∷ decimal_of (hd i) ∷ decimal_of (hn i) ∷ hexadecimal_of (hs i) ∷ [])

-- ---- a stored string stands in the deck

pub text-within : (deck : List ℕ) (t : stored.StoredText) {u : Text} → stored_is t ≡ u → TextIn (length deck) u → stored_in deck t
text-within deck (StoredNumber n) e h = tt
text-within deck (StoredStr p) e h = subst (TextIn (length deck)) (sym e) h
text-within deck (StoredWhole n) e h = tt
text-within deck (StoredFloat b) e h = tt
