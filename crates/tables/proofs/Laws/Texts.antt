-- Laws of texts: when two are equal. Assumes nothing.
use mathlib.Core.Bool.{Bool, true, false, not, ◌||◌, ◌&&◌}
use mathlib.Core.List.{List, [], ◌∷◌}
use mathlib.Core.Path.{◌≡◌, refl, sym, ap, ◌∙◌}
use Prim.Native.Nat.{ℕ, suc, ◌+◌, ◌-◌, ◌*◌, ◌%◌, ◌≤◌, ◌<◌}
use native.Mathlib.Nat.{sub-zero, add-zero}
use native.Mathlib.Omega.{arith}
use borrow.Author.Tests.{eq-eqb, ne_eqb, lt-ltb, le-ltb}
use lib.Dec.{T, eqb}
use lib.Ieee.{Float, nan, inf, fin, up, down, binary64, of_bits, nan_bits, is_nan, eq, ne, div}
use lib.Ieee.Bits.{nan_bits_is, nan_bits_above}
use lib.ListN.{length, take, drop, get_or, length-drop}
use lib.Seq.{drop-cons, length-take-le}
use Rattle.tables.specs.declared.text.Place as code_place
use Rattle.tables.specs.declared.text.Text as code_text
use Rattle.tables.specs.declared.text.Text.TheVariants.{Number, Str, Whole, Float as FloatValue}
use Rattle.tables.specs.Lists.{same_list}
use Rattle.tables.specs.Records.{Place, Text, enum_number, string, whole_number, float}
use Rattle.tables.specs.declared.text.StoredText as stored
use Rattle.tables.specs.declared.text.StoredText.TheVariants.{Number as StoredNumber, Str as StoredStr, Whole as StoredWhole, Float as StoredFloat}
use Rattle.tables.specs.ElementsTable.{TextFits}
use Rattle.tables.specs.Texts.{stored_is, StoredFits, bytes_at, same_floats, same_float, same_text, value_of, same_values}
use Rattle.tables.proofs.Laws.Scans.{and-all}

-- ---- floats

pub nan-only : (x : Float) → is_nan x ≡ true → x ≡ nan
unfolding is_nan
nan-only nan h = refl
nan-only (inf s) h = cc
nan-only (fin s m e) h = cc

-- the patterns of a NaN, and the others
pub nan_pattern : (n : ℕ) → 0x7ff0_0000_0000_0000 < n % 0x8000_0000_0000_0000 → of_bits binary64 n ≡ nan
nan_pattern n h =
    nan-only (of_bits binary64 n)
    (sym (nan_bits_is binary64 n) ∙ nan_bits_above binary64 n ∙ lt-ltb 0x7ff0_0000_0000_0000 (n % 0x8000_0000_0000_0000) h)

pub other-pattern : (n : ℕ) → n % 0x8000_0000_0000_0000 ≤ 0x7ff0_0000_0000_0000 → T (not (nan_bits binary64 n))
other-pattern n h =
    rw (nan_bits_above binary64 n ∙ le-ltb 0x7ff0_0000_0000_0000 (n % 0x8000_0000_0000_0000) h) tt

pub zero_by_zero : div binary64 (of_bits binary64 0) (of_bits binary64 0) ≡ nan
unfolding div of_bits
zero_by_zero = refl

-- a float differs from itself only as the NaN
pub ne-self : (x : Float) → ne x x ≡ is_nan x
unfolding ne eq is_nan
ne-self nan = refl
ne-self (inf true) = refl
ne-self (inf false) = refl
ne-self (fin true m e) = rw (eq-eqb (m * up e * down e) (m * up e * down e) refl)
ne-self (fin false m e) = rw (eq-eqb (m * up e * down e) (m * up e * down e) refl)

or-false : (b : Bool) → b || false ≡ b
or-false true = refl
or-false false = refl

pub same-nan : (x y : Float) → ne x x ≡ true → ne y y ≡ same_floats x y
unfolding same_floats is_nan eq
same-nan nan y h = ne-self y ∙ sym (or-false (is_nan y))
same-nan (inf s) y h = let z : false ≡ true = sym (ne-self (inf s)) ∙ h in cc
same-nan (fin s m e) y h = let z : false ≡ true = sym (ne-self (fin s m e)) ∙ h in cc

pub same-other : (x y : Float) → ne x x ≡ false → eq x y ≡ same_floats x y
unfolding same_floats is_nan
same-other nan y h = let z : true ≡ false = sym (ne-self nan) ∙ h in cc
same-other (inf s) y h = refl
same-other (fin s m e) y h = refl

-- ---- strings

either : (t : Bool) {x : Bool} → x ≡ false → ◌≡◌ {A = Bool} (elim t [ true ↦ x | false ↦ false ]) false
either true h = h
either false h = refl

-- lists of different lengths are not the same
pub lengths_differ : (xs ys : List ℕ) → (length xs ≡ length ys → ⊥) → same_list xs ys ≡ false
unfolding same_list
lengths_differ [] [] n = absurd (n refl)
lengths_differ [] (b ∷ ys) n = refl
lengths_differ (a ∷ xs) [] n = refl
lengths_differ (a ∷ xs) (b ∷ ys) n = either (eqb a b) (lengths_differ xs ys (λ e. n (ap suc e)))

-- the bytes of a part from byte i on, the first of them apart
part_at : (d : List ℕ) (a i n : ℕ) → i < n → a + n ≤ length d
    → take (n - i) (drop (a + i) d) ≡ get_or d (a + i) 0 ∷ take (n - (i + 1)) (drop (a + (i + 1)) d)
part_at d a i n h k =
    let e : n - i ≡ suc (n - (i + 1)) = omega arith in
    let e' : suc (a + i) ≡ a + (i + 1) = omega arith in
    rw (e, drop-cons d (a + i) 0 (omega arith), e')

module _ (d : List ℕ) (a b n : ℕ) where
  pub bytes-start : same_list (take n (drop a d)) (take n (drop b d)) ≡ same_list (take (n - 0) (drop (a + 0) d)) (take (n - 0) (drop (b + 0) d))
  bytes-start = rw (sub-zero n, add-zero a, add-zero b)

  pub bytes-end : (i : ℕ) → n ≤ i → same_list (take (n - i) (drop (a + i) d)) (take (n - i) (drop (b + i) d)) ≡ true
  unfolding same_list
  bytes-end i h = let e : n - i ≡ 0 = omega arith in rw e

  module _ (i : ℕ) (h : i < n) (ha : a + n ≤ length d) (hb : b + n ≤ length d) where
    abbrev left : Bool
    left = same_list (take (n - (i + 1)) (drop (a + (i + 1)) d)) (take (n - (i + 1)) (drop (b + (i + 1)) d))

    bytes-here : same_list (take (n - i) (drop (a + i) d)) (take (n - i) (drop (b + i) d))
        ≡ elim (eqb (get_or d (a + i) 0) (get_or d (b + i) 0)) [ true ↦ left | false ↦ false ]
    unfolding same_list
    bytes-here = rw (part_at d a i n h ha, part_at d b i n h hb, same_list)

    pub bytes-differ : (get_or d (a + i) 0 ≡ get_or d (b + i) 0 → ⊥)
        → same_list (take (n - i) (drop (a + i) d)) (take (n - i) (drop (b + i) d)) ≡ false
    bytes-differ k = bytes-here ∙ rw (ne_eqb (get_or d (a + i) 0) (get_or d (b + i) 0) k)

    pub bytes-more : get_or d (a + i) 0 ≡ get_or d (b + i) 0 → same_list (take (n - i) (drop (a + i) d)) (take (n - i) (drop (b + i) d)) ≡ left
    bytes-more k = bytes-here ∙ rw (eq-eqb (get_or d (a + i) 0) (get_or d (b + i) 0) k)

    -- the same where t is the answer for the bytes before i
    pub bytes_next : (t : Bool)
        → (t && eqb (get_or d (a + i) 0) (get_or d (b + i) 0) && left) ≡ (t && same_list (take (n - i) (drop (a + i) d)) (take (n - i) (drop (b + i) d)))
    bytes_next t = and-all t (eqb (get_or d (a + i) 0) (get_or d (b + i) 0)) left ∙ ap (λ (r : Bool). t && r) (sym bytes-here)

-- strings of different lengths are not the same
pub sizes-differ : (d : List ℕ) (p q : Place) → p.start + p.size ≤ length d → q.start + q.size ≤ length d → (p.size ≡ q.size → ⊥)
    → same_list (bytes_at d p) (bytes_at d q) ≡ false
unfolding bytes_at
sizes-differ d p q hp hq n =
    lengths_differ (take p.size (drop p.start d)) (take q.size (drop q.start d))
    (λ e. n (sym (size-at p hp) ∙ e ∙ size-at q hq))
  where
    size-at : (r : Place) → r.start + r.size ≤ length d → length (take r.size (drop r.start d)) ≡ r.size
    size-at r h = length-take-le r.size (drop r.start d) (omega (arith, length-drop r.start d))

-- ---- stored texts

pub stored_fits : (t : stored.StoredText) → StoredFits t → TextFits (stored_is t)
stored_fits (StoredNumber n) h = tt
stored_fits (StoredStr p) h = h.0
stored_fits (StoredWhole n) h = tt
stored_fits (StoredFloat b) h = tt

-- ---- texts of different kinds

-- a text that is of no such kind has none of its values
pub not-number : (d : List ℕ) (x : ℕ) (b : code_text.Text) → ((y : ℕ) → b ≡ Number y → ⊥) → same_values d (Number x) b ≡ false
unfolding same_values
not-number d x (Number y) h = absurd (h y refl)
not-number d x (Str y) h = refl
not-number d x (Whole y) h = refl
not-number d x (FloatValue y) h = refl

pub not-str : (d : List ℕ) (x : code_place.Place) (b : code_text.Text) → ((y : code_place.Place) → b ≡ Str y → ⊥) → same_values d (Str x) b ≡ false
unfolding same_values
not-str d x (Number y) h = refl
not-str d x (Str y) h = absurd (h y refl)
not-str d x (Whole y) h = refl
not-str d x (FloatValue y) h = refl

pub not-whole : (d : List ℕ) (x : ℕ) (b : code_text.Text) → ((y : ℕ) → b ≡ Whole y → ⊥) → same_values d (Whole x) b ≡ false
unfolding same_values
not-whole d x (Number y) h = refl
not-whole d x (Str y) h = refl
not-whole d x (Whole y) h = absurd (h y refl)
not-whole d x (FloatValue y) h = refl

pub not-float : (d : List ℕ) (x : Float) (b : code_text.Text) → ((y : Float) → b ≡ FloatValue y → ⊥) → same_values d (FloatValue x) b ≡ false
unfolding same_values
not-float d x (Number y) h = refl
not-float d x (Str y) h = refl
not-float d x (Whole y) h = refl
not-float d x (FloatValue y) h = absurd (h y refl)

-- ---- the rule's equality is that of the values

pub same-values : (d : List ℕ) (a b : Text) → same_text d a b ≡ same_values d (value_of a) (value_of b)
unfolding same_text same_values value_of same_float
same-values d (enum_number a) (enum_number b) = refl
same-values d (enum_number a) (string b) = refl
same-values d (enum_number a) (whole_number b) = refl
same-values d (enum_number a) (float b) = refl
same-values d (string a) (enum_number b) = refl
same-values d (string a) (string b) = refl
same-values d (string a) (whole_number b) = refl
same-values d (string a) (float b) = refl
same-values d (whole_number a) (enum_number b) = refl
same-values d (whole_number a) (string b) = refl
same-values d (whole_number a) (whole_number b) = refl
same-values d (whole_number a) (float b) = refl
same-values d (float a) (enum_number b) = refl
same-values d (float a) (string b) = refl
same-values d (float a) (whole_number b) = refl
same-values d (float a) (float b) = refl
