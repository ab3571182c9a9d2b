-- Texts of document 01, "Pairing": when two are equal. Assumes nothing.
use Rattle.std.specs.Prelude.{Bool, false, ◌&&◌, ◌||◌, cond, List, ℕ, ◌+◌, ◌*◌, ◌/◌, ◌%◌, ◌^◌, ◌≤◌, ◌<◌, eqb, Float, length, take, drop}
use Rattle.std.specs.Float.{binary64}
use Rattle.std.specs.Float.Ieee.{of_bits, is_nan, eq}
use Rattle.tables.specs.declared.text.Place as code
use Rattle.tables.specs.declared.text.Text as code_text
use Rattle.tables.specs.declared.text.Text.TheVariants.{Number, Str, Whole, Float as FloatValue}
use Rattle.tables.specs.declared.text.StoredText as stored
use Rattle.tables.specs.declared.text.StoredText.TheVariants.{Number as StoredNumber, Str as StoredStr, Whole as StoredWhole, Float as StoredFloat}
use Rattle.tables.specs.Limits.{string_limit}
use Rattle.tables.specs.Lists.{same_list}
use Rattle.tables.specs.Records.{Place, Text, enum_number, string, whole_number, float}

-- the bytes of a string
unfoldable pub bytes_at : List ℕ → Place → List ℕ
bytes_at deck p = take p.size (drop p.start deck)

-- floats if both are NaN or they compare equal
unfoldable pub same_floats : Float → Float → Bool
same_floats p q = is_nan p && is_nan q || eq p q

unfoldable pub same_float : ℕ → ℕ → Bool
same_float a b = same_floats (of_bits binary64 a) (of_bits binary64 b)

-- Texts are equal with equal kind and value;
unfoldable pub same_text : List ℕ → Text → Text → Bool
same_text deck (enum_number a) (enum_number b) = eqb a b
same_text deck (enum_number a) (string q) = false
same_text deck (enum_number a) (whole_number b) = false
same_text deck (enum_number a) (float b) = false
same_text deck (string p) (enum_number b) = false
same_text deck (string p) (string q) = same_list (bytes_at deck p) (bytes_at deck q)
same_text deck (string p) (whole_number b) = false
same_text deck (string p) (float b) = false
same_text deck (whole_number a) (enum_number b) = false
same_text deck (whole_number a) (string q) = false
same_text deck (whole_number a) (whole_number b) = eqb a b
same_text deck (whole_number a) (float b) = false
same_text deck (float a) (enum_number b) = false
same_text deck (float a) (string q) = false
same_text deck (float a) (whole_number b) = false
same_text deck (float a) (float b) = same_float a b

-- ---- as a table holds them: kind and value; a string is its place * string_limit + its length

unfoldable pub text_kind : Text → ℕ
text_kind (enum_number n) = 0
text_kind (string p) = 1
text_kind (whole_number n) = 2
text_kind (float b) = 3

unfoldable pub text_value : Text → ℕ
text_value (enum_number n) = n
text_value (string p) = p.start * string_limit + p.size
text_value (whole_number n) = n
text_value (float b) = b

unfoldable pub text_from : ℕ → ℕ → Text
text_from kind v =
    cond (eqb kind 0) (enum_number v)
    (cond (eqb kind 1) (string (record { start = v / string_limit; size = v % string_limit }))
    (cond (eqb kind 2) (whole_number v) (float v)))

-- ---- as the code holds them: a float by its value

abbrev pub place_of : code.Place → Place
place_of p = record { start = p.start; size = p.size }

unfoldable pub value_of : Text → code_text.Text
value_of (enum_number n) = Number n
value_of (string p) = Str (record { start = p.start; size = p.size })
value_of (whole_number n) = Whole n
value_of (float b) = FloatValue (of_bits binary64 b)

-- a text as the tables' reader hands it on: a float by its bits
abbrev pub stored_is : stored.StoredText → Text
stored_is (StoredNumber n) = enum_number n
stored_is (StoredStr p) = string (place_of p)
stored_is (StoredWhole n) = whole_number n
stored_is (StoredFloat b) = float b

-- place and length of a string fit one cell
abbrev pub StoredFits : stored.StoredText → Type 0
StoredFits (StoredNumber n) = Unit {0}
StoredFits (StoredStr p) = (p.size < string_limit) × (p.start * string_limit + p.size < 2 ^ 64)
StoredFits (StoredWhole n) = Unit {0}
StoredFits (StoredFloat b) = Unit {0}

-- the string stands in the deck
abbrev pub place_in : List ℕ → code.Place → Type 0
place_in deck p = p.start + p.size ≤ length deck

-- a string stands in the deck
abbrev pub text_in : List ℕ → code_text.Text → Type 0
text_in deck (Number n) = Unit {0}
text_in deck (Str p) = place_in deck p
text_in deck (Whole n) = Unit {0}
text_in deck (FloatValue x) = Unit {0}

-- a stored string stands in the deck
abbrev pub stored_in : List ℕ → stored.StoredText → Type 0
stored_in deck (StoredNumber n) = Unit {0}
stored_in deck (StoredStr p) = place_in deck p
stored_in deck (StoredWhole n) = Unit {0}
stored_in deck (StoredFloat b) = Unit {0}

unfoldable pub same_values : List ℕ → code_text.Text → code_text.Text → Bool
same_values deck (Number a) (Number b) = eqb a b
same_values deck (Number a) (Str q) = false
same_values deck (Number a) (Whole b) = false
same_values deck (Number a) (FloatValue y) = false
same_values deck (Str p) (Number b) = false
same_values deck (Str p) (Str q) = same_list (bytes_at deck (place_of p)) (bytes_at deck (place_of q))
same_values deck (Str p) (Whole b) = false
same_values deck (Str p) (FloatValue y) = false
same_values deck (Whole a) (Number b) = false
same_values deck (Whole a) (Str q) = false
same_values deck (Whole a) (Whole b) = eqb a b
same_values deck (Whole a) (FloatValue y) = false
same_values deck (FloatValue x) (Number b) = false
same_values deck (FloatValue x) (Str q) = false
same_values deck (FloatValue x) (Whole b) = false
same_values deck (FloatValue x) (FloatValue y) = same_floats x y
