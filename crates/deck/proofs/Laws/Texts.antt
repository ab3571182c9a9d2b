-- Text fields: a string's bytes, and a kind's letter. Assumes nothing.
use mathlib.Core.Bool.{true, false}
use mathlib.Core.List.{List}
use mathlib.Core.Option.{none, some, bind}
use mathlib.Core.Path.{◌≡◌, refl}
use Prim.Native.Nat.{ℕ, ◌-◌, ◌≤◌, ◌<◌}
use native.Mathlib.Omega.{arith}
use borrow.Author.Tests.{le-leb, lt-leb}
use lib.ListN.{length}
use Rattle.tables.specs.Lists.{all_of, first_of}
use Rattle.tables.specs.Records.{enum_number, string, whole_number, float}
use Rattle.deck.specs.Deck.{only, number, decimal, hexadecimal, printable, by_letter, texts, text_e, text_s, text_u, text_f}
use Rattle.tables.specs.Cells.{between}
use Rattle.tables.specs.Limits.{deck_limit, enum_limit}
use Rattle.deck.specs.Answers.{whole, part_at}
use Rattle.deck.proofs.Laws.Parts.{length-between}

pub printable-low : (b : ℕ) → b < 0x20 → printable b ≡ false
unfolding printable
printable-low b h = rw (printable, lt-leb 0x20 b h)

pub printable-high : (b : ℕ) → 0x7e < b → printable b ≡ false
unfolding printable
printable-high b h = rw (printable, le-leb 0x20 b (omega arith), lt-leb b 0x7e h)

pub printable-is : (b : ℕ) → 0x20 ≤ b → b ≤ 0x7e → printable b ≡ true
unfolding printable
printable-is b h k = rw (printable, le-leb 0x20 b h, le-leb b 0x7e k)

-- ---- a string

module _ (deck : List ℕ) (start end : ℕ) where
  pub string-bad : all_of printable (between start end deck) ≡ false → text_s (part_at deck start end) ≡ none
  unfolding text_s only
  string-bad e = rw (text_s, e)

  pub string-is : start ≤ end → end ≤ length deck → length deck ≤ deck_limit → all_of printable (between start end deck) ≡ true
      → some (string (record { start = start; size = end - start })) ≡ text_s (part_at deck start end)
  unfolding text_s only
  string-is h k m e = rw (text_s, e, length-between deck start end k)

-- ---- kinds by their letters

module _ (deck : List ℕ) (start end : ℕ) where
  pub letter-e : bind (number 10 enum_limit (whole (between start end deck))) (λ v. some (enum_number v)) ≡ by_letter texts 101 (part_at deck start end)
  unfolding by_letter first_of text_e decimal number
  letter-e = refl

  pub letter-s : text_s (part_at deck start end) ≡ by_letter texts 115 (part_at deck start end)
  unfolding by_letter first_of
  letter-s = refl

  pub letter-u : bind (number 10 0xffff_ffff_ffff_ffff (whole (between start end deck))) (λ v. some (whole_number v))
      ≡ by_letter texts 117 (part_at deck start end)
  unfolding by_letter first_of text_u decimal number
  letter-u = refl

  pub letter-f : bind (number 16 0xffff_ffff_ffff_ffff (whole (between start end deck))) (λ v. some (float v))
      ≡ by_letter texts 102 (part_at deck start end)
  unfolding by_letter first_of text_f hexadecimal number
  letter-f = refl
