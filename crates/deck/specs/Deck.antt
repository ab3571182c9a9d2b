-- Document 01, "Deck and schema": lines, fields and the kinds of lines. A line that is refused for its form has no reading here.
-- Assumes nothing.
use Rattle.std.specs.Prelude.{Bool, true, false, ◌&&◌, List, [], ◌∷◌, ℕ, suc, ◌+◌, ◌-◌, ◌*◌, ◌^◌, eqb, leb, ltb, length, get_or}
use Rattle.std.proofs.Math.Option.{Option, none, some, bind as ◌>>=◌}
use Prim.Native.Char.{code}
use Rattle.tables.specs.Limits.{path_limit, file_limit, version_limit, name_limit, enum_limit, part_limit}
use Rattle.tables.specs.Lists.{all_of, first_of}
use Rattle.tables.specs.Records.{Name, TypeNumber, FileNumber, Mask, FileSet, SchemaPath, Mode, characters, modes, Mult, any, mults, TypeRow, Group, SubElement, File, Text, enum_number, string, whole_number, float}

-- ---- lines and fields

-- bytes of the deck, with the place of the first of them
pub record Part : Type 0 where
  pub start : ℕ
  pub bytes : List ℕ

-- the byte at this place, put before the first part
unfoldable pub ahead : ℕ → ℕ → List Part → List Part
ahead at b [] = record { start = at; bytes = b ∷ [] } ∷ []
ahead at b (p ∷ ps) = record { start = at; bytes = b ∷ p.bytes } ∷ ps

-- the parts between the separators, one more than there are separators
unfoldable pub parts : ℕ → ℕ → List ℕ → List Part
parts separator at [] = record { start = at; bytes = [] } ∷ []
parts separator at (b ∷ bs) =
    elim (eqb b separator) [
      | true ↦ record { start = at; bytes = [] } ∷ parts separator (suc at) bs
      | false ↦ ahead at b (parts separator (suc at) bs)
    ]

-- Lines end in LF; the last part is what stands behind the last LF.
unfoldable pub lines : List ℕ → List Part
lines deck = parts 10 0 deck

-- fields are parted by commas, no quoting.
unfoldable pub fields : Part → List Part
fields line = parts (code ",") line.start line.bytes

abbrev pub field : List Part → ℕ → Part
field l i = get_or l i (record { start = 0; bytes = [] })

-- ---- numbers

-- the worth of a digit; 16 where the byte is none
unfoldable pub digit : ℕ → ℕ
digit b =
    elim (leb (code "0") b && leb b (code "9")) [
      | true ↦ b - code "0"
      | false ↦ elim (leb (code "a") b && leb b (code "f")) [ true ↦ b - code "a" + 10 | false ↦ 16 ]
    ]

-- what the digits are worth behind a number already read
unfoldable pub value_from : ℕ → ℕ → List ℕ → Option ℕ
value_from radix v [] = some v
value_from radix v (b ∷ bs) = elim (ltb (digit b) radix) [ true ↦ value_from radix (v * radix + digit b) bs | false ↦ none ]

-- without leading zeros (zero is `0`), and with at least one digit
unfoldable pub plain : List ℕ → Bool
plain [] = false
plain (b ∷ []) = true
plain (b ∷ c ∷ bs) = elim (eqb b (code "0")) [ true ↦ false | false ↦ true ]

-- the value, where the test holds of it
unfoldable pub only : {A : Type 0} → Bool → A → Option A
only true a = some a
only false a = none

-- a number up to a largest one; a value past its field is none
unfoldable pub number : ℕ → ℕ → Part → Option ℕ
number radix most p =
    elim (plain p.bytes) [ true ↦ do v ← value_from radix 0 p.bytes; only (leb v most) v | false ↦ none ]

-- Numbers are decimal,
unfoldable pub decimal : ℕ → Part → Option ℕ
decimal most p = number 10 most p

-- masks, sets and float bits lower-case hexadecimal, of so many bits.
unfoldable pub hexadecimal : ℕ → Part → Option ℕ
hexadecimal bits p = number 16 (2 ^ bits - 1) p

-- Type and depth fields go to 65535.
abbrev pub number_limit : ℕ
number_limit = 65535

unfoldable pub type_field : Part → Option TypeNumber
type_field p = decimal number_limit p

unfoldable pub depth_field : Part → Option ℕ
depth_field p = decimal number_limit p

-- name 0 to 4095
unfoldable pub name_field : Part → Option Name
name_field p = decimal name_limit p

-- file 0 to 63
unfoldable pub file_field : Part → Option FileNumber
file_field p = decimal (file_limit - 1) p

unfoldable pub set_field : Part → Option FileSet
set_field p = hexadecimal file_limit p

-- 32-bit version mask
unfoldable pub mask_field : Part → Option Mask
mask_field p = hexadecimal version_limit p

-- Mode: 0 sequence, 1 choice, 2 bag, 3 mixed, 4 characters.
unfoldable pub mode_field : ℕ → Part → Option Mode
mode_field most p = do n ← decimal most p; some (get_or modes n characters)

-- mult 0 (at most one), 1 (one) or 2 (any)
unfoldable pub mult_field : Part → Option Mult
mult_field p = do n ← decimal 2 p; some (get_or mults n any)

-- Named: 0 or 1.
unfoldable pub named_field : Part → Option Bool
named_field p = do n ← decimal 1 p; some (eqb n 1)

-- parts (0 to 255)
unfoldable pub path_parts : List Part → Option SchemaPath
path_parts [] = some []
path_parts (p ∷ ps) = do n ← decimal part_limit p; ns ← path_parts ps; some (n ∷ ns)

-- path of 1 to so many parts, parted by dots
unfoldable pub path_field : ℕ → Part → Option SchemaPath
path_field most p =
    let ps = parts (code ".") p.start p.bytes in
    elim (leb (length ps) most) [ true ↦ path_parts ps | false ↦ none ]

-- ---- texts

-- bytes 20 to 7e hexadecimal; a comma is never in a field
unfoldable pub printable : ℕ → Bool
printable b = leb 0x20 b && leb b 0x7e

-- what the reading in the table under this letter gives; none where it has none
unfoldable pub by_letter : {A B : Type 0} → List (ℕ × (A → Option B)) → ℕ → A → Option B
by_letter table k a = elim (first_of (λ r. eqb r.0 k) table) [ none ↦ none | some r ↦ r.1 a ]

-- an enum number (`e`, 0 to 65535),
unfoldable pub text_e : Part → Option Text
text_e p = do n ← decimal enum_limit p; some (enum_number n)

-- a string (`s`, may be empty),
unfoldable pub text_s : Part → Option Text
text_s p = only (all_of printable p.bytes) (string (record { start = p.start; size = length p.bytes }))

-- a whole number (`u`, 64 bits)
unfoldable pub text_u : Part → Option Text
text_u p = do n ← decimal (2 ^ 64 - 1) p; some (whole_number n)

-- or a float (`f`, its 64 bits).
unfoldable pub text_f : Part → Option Text
text_f p = do n ← hexadecimal 64 p; some (float n)

abbrev pub texts : List (ℕ × (Part → Option Text))
texts = (code "e", text_e) ∷ (code "s", text_s) ∷ (code "u", text_u) ∷ (code "f", text_f) ∷ []

-- the one byte of a field
unfoldable pub letter : Part → Option ℕ
letter p = elim p.bytes [ [] ↦ none | b ∷ bs ↦ only (eqb (length bs) 0) b ]

unfoldable pub text_fields : Part → Part → Option Text
text_fields kind value = do k ← letter kind; by_letter texts k value

-- ---- kinds of lines

pub data Line : Type 0 where
  T : TypeNumber → TypeRow → Line
  G : Group → Line
  S : SubElement → Line
  F : File → Line
  M : Line
  B : FileNumber → Line
  E : ℕ → Name → FileSet → Line
  C : ℕ → Text → Line

-- `T,type,mode,named,split`
unfoldable pub line_t : List Part → Option Line
line_t l = do
  type ← type_field (field l 1)
  mode ← mode_field 4 (field l 2)
  named ← named_field (field l 3)
  split ← mask_field (field l 4)
  only (eqb (length l) 5) (T type (record { mode = mode; named = named; split = split }))

-- `G,type,path,mode`: mode 0 to 3; path of 1 to 3 parts
unfoldable pub line_g : List Part → Option Line
line_g l = do
  type ← type_field (field l 1)
  path ← path_field (path_limit - 1) (field l 2)
  mode ← mode_field 3 (field l 3)
  only (eqb (length l) 4) (G (record { type = type; path = path; mode = mode }))

-- `S,type,path,name,child,mult,mask`: path of 1 to 4 parts, mask not zero
unfoldable pub line_s : List Part → Option Line
line_s l = do
  type ← type_field (field l 1)
  path ← path_field path_limit (field l 2)
  name ← name_field (field l 3)
  child_type ← type_field (field l 4)
  mult ← mult_field (field l 5)
  mask ← mask_field (field l 6)
  only (eqb (length l) 7 && ltb 0 mask)
      (S (record { type = type; path = path; name = name; child_type = child_type; mult = mult; mask = mask }))

-- `F,file,version`: version 0 to 31
unfoldable pub line_f : List Part → Option Line
line_f l = do
  file ← file_field (field l 1)
  version ← decimal (version_limit - 1) (field l 2)
  only (eqb (length l) 3) (F (record { file = file; version = version }))

-- `M` opens the model tree,
unfoldable pub line_m : List Part → Option Line
line_m l = only (eqb (length l) 1) M

-- `B,file` a waiting tree.
unfoldable pub line_b : List Part → Option Line
line_b l = do
  file ← file_field (field l 1)
  only (eqb (length l) 2) (B file)

-- Then `E,depth,name,set`
unfoldable pub line_e : List Part → Option Line
line_e l = do
  depth ← depth_field (field l 1)
  name ← name_field (field l 2)
  set ← set_field (field l 3)
  only (eqb (length l) 4) (E depth name set)

-- and `C,depth,kind,value`.
unfoldable pub line_c : List Part → Option Line
line_c l = do
  depth ← depth_field (field l 1)
  text ← text_fields (field l 2) (field l 3)
  only (eqb (length l) 4) (C depth text)

abbrev pub kinds : List (ℕ × (List Part → Option Line))
kinds =
    (code "T", line_t) ∷ (code "G", line_g) ∷ (code "S", line_s) ∷ (code "F", line_f) ∷ (code "M", line_m) ∷ (code "B", line_b)
    ∷ (code "E", line_e) ∷ (code "C", line_c) ∷ []

-- the line read by its fields; none where its form is wrong
unfoldable pub read_line : Part → Option Line
read_line line =
    let l = fields line in
    do kind ← letter (field l 0); by_letter kinds kind l
