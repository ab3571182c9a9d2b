-- Lists without repetition: as a test of items has it, joined, and how long they are. Assumes nothing.
use mathlib.Core.Bool.{Bool, true, false, not}
use mathlib.Core.List.Memᴰ
use mathlib.Core.List.{List, [], ◌∷◌, ◌++◌}
use mathlib.Core.Logic.{⊎_elim}
use mathlib.Core.Path.{◌≡◌, refl, sym, ap}
use Prim.Native.Nat.{ℕ, zero, suc, ◌≤◌, ◌<◌, zero-le}
use native.Mathlib.Nat.{not-suc-le-zero}
use native.Mathlib.Omega.{arith}
use borrow.Author.Tests.{eqb-true, eqb-false, ne_eqb, not-true, not-false}
use lib.Dec.{eqb}
use lib.ListN.{length}
use Rattle.tables.specs.Lists.{any_of, keep}
use Rattle.tables.specs.Records.{Element, Item, child, text}
use Rattle.tables.proofs.Laws.Cases.{bool_case}
use Rattle.table_test.specs.ModelTest.{same_child, once_in}
use Rattle.table_test.proofs.Laws.Scans.{any-text}
use Rattle.merge_rules.specs.Pairing.{children}
use Rattle.merge_rules.specs.Sound.{In, Once, once-nil, once-cons}
use Rattle.merge_rules.proofs.Laws.Lists.{each_nil, each-cons, Within, within-head, any_of-none, in-children, once-head, once-tail}

-- ---- children of a list

same-child : (e : Element) (l : List Item) → (In (child e) l → ⊥) → any_of (same_child (child e)) l ≡ false
unfolding same_child
same-child e l absent = any_of-none (same_child (child e)) l other
  where
    other : (a : Item) → In a l → same_child (child e) a ≡ false
    other (child c) h = ne_eqb e c (λ q. absent (rw q h))
    other (text t) h = refl

-- a list whose children are without repetition passes
pub once-in : (l : List Item) → Once (children l) → once_in l ≡ true
unfolding once_in children
once-in [] o = refl
once-in (child e ∷ l) o = rw (once_in, same-child e l (λ h. once-head o (in-children l h))) (once-in l (once-tail o))
once-in (text t ∷ l) o = rw (once_in, any-text t l) (once-in l o)

-- ---- joined

-- two that have nothing in common
pub once-append : {l k : List Element} → Once l → Once k → ((e : Element) → In e l → In e k → ⊥) → Once (l ++ k)
once-append once-nil p apart = p
once-append (once-cons {e} {l} h o) p apart =
    once-cons (λ i. ⊎_elim h (apart e (Memᴰ.head refl)) (Memᴰ.append_cases l i)) (once-append o p (λ c i. apart c (Memᴰ.tail i)))

-- and the other way round
pub once-apart : {e : Element} (l : List Element) {k : List Element} → Once (l ++ k) → In e l → In e k → ⊥
once-apart [] o i j = Memᴰ.not-nil i
once-apart (y ∷ l) o i j =
    ⊎_elim (λ q. once-head o (Memᴰ.append_right l (Memᴰ.cast (sym q) j))) (λ h. once-apart l (once-tail o) h j) (Memᴰ.cases_cons i)

-- ---- how long they are

-- the list without a number
abbrev without : ℕ → List ℕ → List ℕ
without n l = keep (λ (y : ℕ). not (eqb y n)) l

module _ {A : Type 0} (t : A → Bool) where
  -- an entry that is kept passes the test and was in the list
  keep-in : (l : List A) (a : A) → In a (keep t l) → (t a ≡ true) × In a l
  unfolding keep
  keep-in [] = each_nil _
  keep-in (x ∷ l) =
      bool_case (λ (k : List A). (a : A) → In a k → (t a ≡ true) × In a (x ∷ l)) (t x)
      (λ h. each-cons (λ (a : A). (t a ≡ true) × In a (x ∷ l)) (h, Memᴰ.head refl) (rest (keep-in l))) (λ _. rest (keep-in l))
    where
      rest : ((a : A) → In a (keep t l) → (t a ≡ true) × In a l) → (a : A) → In a (keep t l) → (t a ≡ true) × In a (x ∷ l)
      rest old a i = let (h, k) = old a i in (h, Memᴰ.tail k)

once-keep : (t : ℕ → Bool) {l : List ℕ} → Once l → Once (keep t l)
unfolding keep
once-keep t once-nil = once-nil
once-keep t (once-cons {e} {l} h o) = bool_case Once (t e) (λ _. once-cons (λ i. h (keep-in t l e i).1) (once-keep t o)) (λ _. once-keep t o)

without-none : (n : ℕ) (l : List ℕ) → (In n l → ⊥) → without n l ≡ l
unfolding keep
without-none n [] absent = refl
without-none n (y ∷ l) absent =
    rw (keep, ne_eqb y n (λ e. absent (Memᴰ.head (sym e)))) (ap {B = List ℕ} (λ k. y ∷ k) (without-none n l (λ i. absent (Memᴰ.tail i))))

without-few : (n : ℕ) {l : List ℕ} → Once l → length l ≤ suc (length (without n l))
unfolding keep
without-few n once-nil = zero-le
without-few n (once-cons {e} {l} h o) =
    bool_case (λ (k : List ℕ). suc (length l) ≤ suc (length k)) (not (eqb e n)) (λ _. omega (arith, without-few n o))
    (λ q.
    let same : e ≡ n = eqb-true e n (not-false _ q) in
    omega (arith, ap (length {A = ℕ}) (without-none n l (λ i. h (rw same i)))))

-- numbers below n, each once, are at most n
pub once-below : (n : ℕ) (l : List ℕ) → Once l → ((a : ℕ) → In a l → a < n) → length l ≤ n
once-below zero [] o h = zero-le
once-below zero (a ∷ l) o h = absurd (not-suc-le-zero (h a (Memᴰ.head refl)))
once-below (suc n) l o h = omega (arith, without-few n o, once-below n (without n l) (once-keep _ o) below)
  where
    below : (a : ℕ) → In a (without n l) → a < n
    below a i = let (other, k) = keep-in (λ (y : ℕ). not (eqb y n)) l a i in omega (arith, h a k, eqb-false a n (not-true _ other))

-- entries of a list, each once, are at most as many as it has
pub once-within : {l : List ℕ} (k : List ℕ) → Once l → Within l k → length l ≤ length k
once-within [] once-nil w = zero-le
once-within [] (once-cons h o) w = absurd (Memᴰ.not-nil (within-head w))
once-within {l} (y ∷ k) o w = omega (arith, without-few y o, once-within {l = without y l} k (once-keep _ o) rest)
  where
    rest : Within (without y l) k
    rest a i =
        let (other, j) = keep-in (λ (z : ℕ). not (eqb z y)) l a i in
        ⊎_elim (λ q. absurd (eqb-false a y (not-true _ other) q)) (λ h. h) (Memᴰ.cases_cons (w a j))
