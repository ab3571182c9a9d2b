-- Laws of file sets, for every file number and every width. Assumes nothing.
use mathlib.Core.Bool.{true, false}
use mathlib.Core.Path.{◌≡◌, refl, sym, ap, ap₂, ◌∙◌}
use Prim.Native.Nat.{ℕ, zero, suc, ◌+◌, ◌-◌, ◌*◌, ◌/◌, ◌%◌, ◌^◌, ◌≤◌, ◌<◌, min, max}
use native.Mathlib.Nat.{div-one, div-div-eq-div-mul, pow-succ', one-le-pow, le-div_iff_mul-le, div-add-mod', zero-div, zero-min, max-zero, one-mul, mod-eq_of_lt, pow-le-pow_right}
use native.Mathlib.Omega.{arith}
use borrow.Author.Tests.{eq-eqb, ne_eqb, eqb-true, eqb-false}
use lib.Arith.{bin_ind}
use lib.Bits.{bit_and, bit_or, bit_xor, differ, and_comm, and_shr, and_mod, and_mask, and_step, or_step, xor_step, or_zero_r, and_zero_r, xor_zero_r}
use lib.Dec.{eqb}
use lib.Pow.{pow-lt}
use Rattle.tables.specs.FileSets.{holds, with_file, without_file, part_of, no_set}
use Rattle.tables.specs.Limits.{file_limit}
use Rattle.tables.specs.Records.{FileNumber, FileSet}
use Rattle.tables.proofs.Laws.Cases.{bool-split}

-- ---- each by its cases

pub with_file-held : (s : FileSet) (f : FileNumber) → holds s f ≡ true → with_file s f ≡ s
unfolding with_file
with_file-held s f h = rw (h, with_file)

pub with_file-absent : (s : FileSet) (f : FileNumber) → holds s f ≡ false → with_file s f ≡ s + 2 ^ f
unfolding with_file
with_file-absent s f h = rw (h, with_file)

pub without_file-held : (s : FileSet) (f : FileNumber) → holds s f ≡ true → without_file s f ≡ s - 2 ^ f
unfolding without_file
without_file-held s f h = rw (h, without_file)

pub without_file-absent : (s : FileSet) (f : FileNumber) → holds s f ≡ false → without_file s f ≡ s
unfolding without_file
without_file-absent s f h = rw (h, without_file)

-- ---- file 0, and the others by the half

holds-zero : (s : FileSet) → holds s 0 ≡ eqb (s % 2) 1
unfolding holds
holds-zero s = rw (div-one s)

holds-suc : (s : FileSet) (f : FileNumber) → holds s (suc f) ≡ holds (s / 2) f
unfolding holds
holds-suc s f = rw (pow-succ' 2 f, div-div-eq-div-mul s 2 (2 ^ f))

odd : (s : FileSet) → holds s 0 ≡ true → s % 2 ≡ 1
odd s h = eqb-true (s % 2) 1 (sym (holds-zero s) ∙ h)

even : (s : FileSet) → holds s 0 ≡ false → s % 2 ≡ 0
even s h = let n = eqb-false (s % 2) 1 (sym (holds-zero s) ∙ h) in omega arith

-- a held file's bit is no more than the set
pub held-le : (s : FileSet) (f : FileNumber) → holds s f ≡ true → 2 ^ f ≤ s
unfolding holds
held-le s f h =
    let e : s / 2 ^ f % 2 ≡ 1 = eqb-true (s / 2 ^ f % 2) 1 h in
    let p : 1 ≤ s / 2 ^ f = omega arith in
    let q : 1 * 2 ^ f ≤ s = (le-div_iff_mul-le (one-le-pow f 2 (omega arith))).0 p in
    omega arith

with_file-zero-half : (s : FileSet) → with_file s 0 / 2 ≡ s / 2
with_file-zero-half s =
    bool-split (holds s 0) (λ h. rw (with_file-held s 0 h)) (λ h. rw (with_file-absent s 0 h) (omega (arith, even s h)))

with_file-suc-half : (s : FileSet) (f : FileNumber) → with_file s (suc f) / 2 ≡ with_file (s / 2) f
with_file-suc-half s f =
    bool-split (holds (s / 2) f)
    (λ h. rw (with_file-held s (suc f) (holds-suc s f ∙ h), with_file-held (s / 2) f h))
    (λ h. rw (with_file-absent s (suc f) (holds-suc s f ∙ h), with_file-absent (s / 2) f h, pow-succ' 2 f) (omega arith))

with_file-suc-odd : (s : FileSet) (f : FileNumber) → with_file s (suc f) % 2 ≡ s % 2
with_file-suc-odd s f =
    bool-split (holds s (suc f))
    (λ h. rw (with_file-held s (suc f) h))
    (λ h. rw (with_file-absent s (suc f) h, pow-succ' 2 f) (omega arith))

without_file-zero-half : (s : FileSet) → without_file s 0 / 2 ≡ s / 2
without_file-zero-half s =
    bool-split (holds s 0) (λ h. rw (without_file-held s 0 h) (omega (arith, odd s h))) (λ h. rw (without_file-absent s 0 h))

without_file-suc-half : (s : FileSet) (f : FileNumber) → without_file s (suc f) / 2 ≡ without_file (s / 2) f
without_file-suc-half s f =
    bool-split (holds (s / 2) f)
    (λ h.
    let p = held-le (s / 2) f h in
    rw (without_file-held s (suc f) (holds-suc s f ∙ h), without_file-held (s / 2) f h, pow-succ' 2 f) (omega arith))
    (λ h. rw (without_file-absent s (suc f) (holds-suc s f ∙ h), without_file-absent (s / 2) f h))

without_file-suc-odd : (s : FileSet) (f : FileNumber) → without_file s (suc f) % 2 ≡ s % 2
without_file-suc-odd s f =
    bool-split (holds s (suc f))
    (λ h.
    let p = held-le (s / 2) f (sym (holds-suc s f) ∙ h) in
    rw (without_file-held s (suc f) h, pow-succ' 2 f) (omega arith))
    (λ h. rw (without_file-absent s (suc f) h))

-- a change that the halves follow keeps every other file
module _ (change : FileSet → FileNumber → FileSet) (zero-half : (s : FileSet) → change s 0 / 2 ≡ s / 2)
    (suc-half : (s : FileSet) (f : FileNumber) → change s (suc f) / 2 ≡ change (s / 2) f)
    (suc-odd : (s : FileSet) (f : FileNumber) → change s (suc f) % 2 ≡ s % 2) where
  others-stay : (s : FileSet) (f g : FileNumber) → (g ≡ f → ⊥) → holds (change s f) g ≡ holds s g
  others-stay s zero zero n = absurd (n refl)
  others-stay s zero (suc g) n =
      holds-suc (change s 0) g ∙ ap (λ (x : ℕ). holds x g) (zero-half s) ∙ sym (holds-suc s g)
  others-stay s (suc f) zero n =
      holds-zero (change s (suc f)) ∙ ap (λ (x : ℕ). eqb x 1) (suc-odd s f) ∙ sym (holds-zero s)
  others-stay s (suc f) (suc g) n =
      holds-suc (change s (suc f)) g ∙ ap (λ (x : ℕ). holds x g) (suc-half s f)
      ∙ others-stay (s / 2) f g (λ e. n (ap suc e)) ∙ sym (holds-suc s g)

-- ---- which file each changes, and that all others stay

pub holds-with_file : (s : FileSet) (f : FileNumber) → holds (with_file s f) f ≡ true
holds-with_file s zero =
    bool-split (holds s 0)
    (λ h. rw (with_file-held s 0 h) h)
    (λ h. rw (with_file-absent s 0 h, holds-zero (s + 2 ^ 0)) (eq-eqb ((s + 1) % 2) 1 (omega (arith, even s h))))
holds-with_file s (suc f) =
    holds-suc (with_file s (suc f)) f ∙ ap (λ (x : ℕ). holds x f) (with_file-suc-half s f) ∙ holds-with_file (s / 2) f

pub holds-with_file-other : (s : FileSet) (f g : FileNumber) → (g ≡ f → ⊥) → holds (with_file s f) g ≡ holds s g
holds-with_file-other = others-stay with_file with_file-zero-half with_file-suc-half with_file-suc-odd

pub holds-without_file : (s : FileSet) (f : FileNumber) → holds (without_file s f) f ≡ false
holds-without_file s zero =
    bool-split (holds s 0)
    (λ h.
    rw (without_file-held s 0 h, holds-zero (s - 2 ^ 0))
    (ne_eqb ((s - 1) % 2) 1 (λ e. omega (arith, odd s h))))
    (λ h. rw (without_file-absent s 0 h) h)
holds-without_file s (suc f) =
    holds-suc (without_file s (suc f)) f ∙ ap (λ (x : ℕ). holds x f) (without_file-suc-half s f) ∙ holds-without_file (s / 2) f

pub holds-without_file-other : (s : FileSet) (f g : FileNumber) → (g ≡ f → ⊥) → holds (without_file s f) g ≡ holds s g
holds-without_file-other = others-stay without_file without_file-zero-half without_file-suc-half without_file-suc-odd

-- ---- no set, and each undone by the other

pub holds-no_set : (f : FileNumber) → holds no_set f ≡ false
unfolding holds
holds-no_set f = rw (zero-div (2 ^ f))

pub without_file-with_file : (s : FileSet) (f : FileNumber) → holds s f ≡ false → without_file (with_file s f) f ≡ s
without_file-with_file s f h =
    without_file-held (with_file s f) f (holds-with_file s f) ∙ rw (with_file-absent s f h) (omega arith)

pub with_file-without_file : (s : FileSet) (f : FileNumber) → holds s f ≡ true → with_file (without_file s f) f ≡ s
with_file-without_file s f h =
    let p = held-le s f h in
    with_file-absent (without_file s f) f (holds-without_file s f) ∙ rw (without_file-held s f h) (omega arith)

-- ---- size

pub with_file-positive : (s : FileSet) (f : FileNumber) → 0 < with_file s f
with_file-positive s f =
    let p = held-le (with_file s f) f (holds-with_file s f) in
    let q = one-le-pow f 2 (omega arith) in
    omega arith

-- a set of files below w stays one
pub with_file-lt : (w : ℕ) (s : FileSet) (f : FileNumber) → s < 2 ^ w → f < w → with_file s f < 2 ^ w
with_file-lt zero s f h k = omega arith
with_file-lt (suc w) s zero h k =
    let e = with_file-zero-half s in
    rw (pow-succ' 2 w) (let h' = rw (pow-succ' 2 w) at h in omega arith)
with_file-lt (suc w) s (suc f) h k =
    let e = with_file-suc-half s f in
    let h' : s < 2 * 2 ^ w = rw (pow-succ' 2 w) at h in
    let i = with_file-lt w (s / 2) f (omega arith) (omega arith) in
    rw (pow-succ' 2 w) (omega arith)

pub without_file-le : (s : FileSet) (f : FileNumber) → without_file s f ≤ s
without_file-le s f =
    bool-split (holds s f) (λ h. rw (without_file-held s f h) (omega arith)) (λ h. rw (without_file-absent s f h) (omega arith))

-- a file past the width is in no set
pub absent-past : (w : ℕ) (s : FileSet) (f : FileNumber) → s < 2 ^ w → w ≤ f → holds s f ≡ false
absent-past w s f h k =
    let p : 2 ^ w ≤ 2 ^ f = pow-le-pow_right (omega arith) k in
    bool-split (holds s f) (λ e. let q = held-le s f e in absurd (omega arith)) (λ e. e)

-- ---- part of another set

halves-hold : (s t : FileSet) → ((f : FileNumber) → holds s f ≡ true → holds t f ≡ true) → (f : FileNumber)
    → holds (s / 2) f ≡ true → holds (t / 2) f ≡ true
halves-hold s t h f e = sym (holds-suc t f) ∙ h (suc f) (holds-suc s f ∙ e)

min-odd : (s t : FileSet) → (holds s 0 ≡ true → holds t 0 ≡ true) → min (s % 2) (t % 2) ≡ s % 2
min-odd s t h =
    bool-split (holds s 0)
    (λ e. rw (odd s e, odd t (h e)))
    (λ e. rw (even s e) (zero-min (t % 2)))

and-part : (s t : FileSet) → ((f : FileNumber) → holds s f ≡ true → holds t f ≡ true) → bit_and s t ≡ s
and-part =
    bin_ind (λ (s : ℕ). (t : FileSet) → ((f : FileNumber) → holds s f ≡ true → holds t f ≡ true) → bit_and s t ≡ s)
    (λ t h. refl)
    (λ s ih t h.
    and_step s t ∙ ap₂ (λ (x y : ℕ). x * 2 + y) (ih (t / 2) (halves-hold s t h)) (min-odd s t (h 0)) ∙ div-add-mod' s 2)

-- a file of both sets' common part is in the second
and-holds : (s t : FileSet) → bit_and s t ≡ s → (f : FileNumber) → holds s f ≡ true → holds t f ≡ true
and-holds s t e zero h =
    bool-split (holds t 0)
    (λ k. k)
    (λ k.
    let z : min (s % 2) (t % 2) ≡ 0 = rw (odd s h, even t k) in
    absurd (omega (arith, sym e ∙ and_step s t, odd s h)))
and-holds s t e (suc f) h =
    holds-suc t f
    ∙ and-holds (s / 2) (t / 2) (sym (and_shr s t 1) ∙ ap (λ (x : ℕ). x / 2) e) f (sym (holds-suc s f) ∙ h)

pub holds-part_of : (s t : FileSet) → ((f : FileNumber) → holds s f ≡ true → holds t f ≡ true) → part_of s t ≡ true
unfolding part_of
holds-part_of s t h = eq-eqb (bit_and s t) s (and-part s t h)

pub part_of-holds : (s t : FileSet) → part_of s t ≡ true → (f : FileNumber) → holds s f ≡ true → holds t f ≡ true
unfolding part_of
part_of-holds s t h = and-holds s t (eqb-true (bit_and s t) s h)

pub part_of-refl : (s : FileSet) → part_of s s ≡ true
part_of-refl s = holds-part_of s s (λ f h. h)

pub part_of-trans : (s t u : FileSet) → part_of s t ≡ true → part_of t u ≡ true → part_of s u ≡ true
part_of-trans s t u h k = holds-part_of s u (λ f e. part_of-holds t u k f (part_of-holds s t h f e))

pub part_of-no_set : (t : FileSet) → part_of no_set t ≡ true
part_of-no_set t = holds-part_of no_set t (λ f h. let z : true ≡ false = sym h ∙ holds-no_set f in cc)

pub part_of-with_file : (s d : FileSet) (f : FileNumber) → part_of s d ≡ true → holds d f ≡ true → part_of (with_file s f) d ≡ true
part_of-with_file s d f h k =
    holds-part_of (with_file s f) d
    (λ g e.
    bool-split (eqb g f)
    (λ q. rw (eqb-true g f q) k)
    (λ q. part_of-holds s d h g (sym (holds-with_file-other s f g (eqb-false g f q)) ∙ e)))

pub part_of-without_file : (s d : FileSet) (f : FileNumber) → part_of s d ≡ true → part_of (without_file s f) d ≡ true
part_of-without_file s d f h =
    holds-part_of (without_file s f) d
    (λ g e.
    bool-split (eqb g f)
    (λ q. let z : true ≡ false = sym e ∙ rw (eqb-true g f q) (holds-without_file s f) in cc)
    (λ q. part_of-holds s d h g (sym (holds-without_file-other s f g (eqb-false g f q)) ∙ e)))

-- two sets with the same files are the same set
pub same-files : (s t : FileSet) → ((f : FileNumber) → holds s f ≡ holds t f) → s ≡ t
same-files s t h =
    sym (and-part s t (λ f e. sym (h f) ∙ e)) ∙ and_comm s t ∙ and-part t s (λ f e. h f ∙ e)

-- ---- the operations on bits

-- two numbers are equal when their digits are
join : {a b c d : ℕ} → a ≡ b → c ≡ d → a * 2 + c ≡ b * 2 + d
join p q = ap₂ (λ (x y : ℕ). x * 2 + y) p q

pow-suc-half : (f : FileNumber) → 2 ^ suc f / 2 ≡ 2 ^ f
pow-suc-half f = rw (pow-succ' 2 f) (omega arith)

pow-suc-even : (f : FileNumber) → 2 ^ suc f % 2 ≡ 0
pow-suc-even f = rw (pow-succ' 2 f) (omega arith)

pub or-with_file : (s : FileSet) (f : FileNumber) → bit_or s (2 ^ f) ≡ with_file s f
or-with_file s zero =
    or_step s 1 ∙ join (or_zero_r (s / 2)) refl
    ∙ bool-split (holds s 0)
    (λ h. rw (with_file-held s 0 h, odd s h) (omega (arith, odd s h)))
    (λ h. rw (with_file-absent s 0 h, even s h) (omega (arith, even s h)))
or-with_file s (suc f) =
    or_step s (2 ^ suc f)
    ∙ join (ap (bit_or (s / 2)) (pow-suc-half f) ∙ or-with_file (s / 2) f ∙ sym (with_file-suc-half s f))
    (ap (max (s % 2)) (pow-suc-even f) ∙ max-zero (s % 2) ∙ sym (with_file-suc-odd s f))
    ∙ div-add-mod' (with_file s (suc f)) 2

differ-zero : (x : ℕ) → differ x 0 ≡ x
differ-zero zero = refl
differ-zero (suc x) = refl

and-pow-half : (s : FileSet) (f : FileNumber) → bit_and s (2 ^ suc f) / 2 ≡ bit_and (s / 2) (2 ^ f)
and-pow-half s f = and_shr s (2 ^ suc f) 1 ∙ ap (bit_and (s / 2)) (pow-suc-half f)

and-pow-even : (s : FileSet) (f : FileNumber) → bit_and s (2 ^ suc f) % 2 ≡ 0
and-pow-even s f = and_mod s (2 ^ suc f) 1 ∙ ap (bit_and (s % 2)) (pow-suc-even f) ∙ and_zero_r (s % 2)

pub xor-without_file : (s : FileSet) (f : FileNumber) → bit_xor s (bit_and s (2 ^ f)) ≡ without_file s f
xor-without_file s zero =
    ap (bit_xor s) (and_mask s 1) ∙ xor_step s (s % 2)
    ∙ bool-split (holds s 0)
    (λ h. rw (without_file-held s 0 h, odd s h, xor_zero_r (s / 2)) (omega (arith, odd s h)))
    (λ h. rw (without_file-absent s 0 h, even s h, xor_zero_r (s / 2)) (omega (arith, even s h)))
xor-without_file s (suc f) =
    xor_step s (bit_and s (2 ^ suc f))
    ∙ join (ap (bit_xor (s / 2)) (and-pow-half s f) ∙ xor-without_file (s / 2) f ∙ sym (without_file-suc-half s f))
    (ap (differ (s % 2)) (and-pow-even s f) ∙ differ-zero (s % 2) ∙ sym (without_file-suc-odd s f))
    ∙ div-add-mod' (without_file s (suc f)) 2

-- the bit of a file
pub one_shifted : (f : FileNumber) → f < file_limit → 1 * 2 ^ f % 2 ^ 64 ≡ 2 ^ f
one_shifted f h = rw (one-mul (2 ^ f)) (mod-eq_of_lt (pow-lt h))
