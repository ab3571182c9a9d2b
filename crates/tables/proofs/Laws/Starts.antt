-- Laws of starts: sums of lengths, one list longer or shorter, one list more. Assumes nothing.
use mathlib.Core.Path.{◌≡◌, refl, sym, ap, ◌∙◌}
use mathlib.Core.List.{List, [], ◌∷◌, ◌++◌, map}
use Prim.Native.Nat.{ℕ, zero, suc, ◌+◌, ◌-◌, ◌≤◌, ◌<◌}
use native.Mathlib.Nat.{add-zero, add-sub_cancel_left, le_of_suc-le-suc, not-suc-le-zero}
use native.Mathlib.Omega.{arith}
use lib.ListN.{length, set, get_or}
use Rattle.tables.specs.Lists.{sum}
use Rattle.tables.specs.ModelTable.{sums, gaps, gaps_of, start_of, on_from}

pub length-sums : (a : ℕ) (ns : List ℕ) → length (sums a ns) ≡ suc (length ns)
unfolding sums
length-sums a [] = refl
length-sums a (n ∷ ns) = ap suc (length-sums (a + n) ns)

gaps-sums-from : (a n : ℕ) (ns : List ℕ) → gaps a (sums (a + n) ns) ≡ n ∷ gaps_of (sums (a + n) ns)
unfolding gaps gaps_of sums
gaps-sums-from a n [] = rw (add-sub_cancel_left a n)
gaps-sums-from a n (k ∷ ns) = rw (add-sub_cancel_left a n)

pub gaps-sums : (a : ℕ) (ns : List ℕ) → gaps_of (sums a ns) ≡ ns
unfolding gaps gaps_of sums
gaps-sums a [] = refl
gaps-sums a (n ∷ ns) = gaps-sums-from a n ns ∙ ap (λ (r : List ℕ). n ∷ r) (gaps-sums (a + n) ns)

-- where the list of e starts, and where the last one ends
pub sums_at : {A : Type 0} (a : ℕ) (ls : List (List A)) (e : ℕ) → e ≤ length ls → get_or (sums a (map length ls)) e 0 ≡ a + start_of ls e
unfolding sums start_of
sums_at a [] zero h = sym (add-zero a)
sums_at a [] (suc e) h = absurd (not-suc-le-zero h)
sums_at a (l ∷ ls) zero h = sym (add-zero a)
sums_at a (l ∷ ls) (suc e) h = sums_at (a + length l) ls e (le_of_suc-le-suc h) ∙ omega arith

-- the numbers on which the starts after the first are raised and lowered
pub sums-raised : (a : ℕ) (ns : List ℕ) (k : ℕ) → on_from (λ (x : ℕ). x + k) (sums a ns) zero ≡ sums (a + k) ns
unfolding sums on_from
sums-raised a [] k = refl
sums-raised a (n ∷ ns) k =
    let z : a + n + k ≡ a + k + n = omega arith in
    ap (λ (r : List ℕ). (a + k) ∷ r) (sums-raised (a + n) ns k ∙ ap (λ (j : ℕ). sums j ns) z)

pub sums-lowered : (a : ℕ) (ns : List ℕ) (k : ℕ) → k ≤ a → on_from (λ (x : ℕ). x - k) (sums a ns) zero ≡ sums (a - k) ns
unfolding sums on_from
sums-lowered a [] k h = refl
sums-lowered a (n ∷ ns) k h =
    let z : a + n - k ≡ a - k + n = omega arith in
    ap (λ (r : List ℕ). (a - k) ∷ r) (sums-lowered (a + n) ns k (omega arith) ∙ ap (λ (j : ℕ). sums j ns) z)

-- one list longer by k, one list shorter by k
pub sums-insert : (a : ℕ) (ns : List ℕ) (e k : ℕ) → e < length ns
    → on_from (λ (x : ℕ). x + k) (sums a ns) (suc e) ≡ sums a (set ns e (get_or ns e 0 + k))
unfolding sums on_from
sums-insert a [] e k h = absurd (not-suc-le-zero h)
sums-insert a (n ∷ ns) zero k h =
    let z : a + n + k ≡ a + (n + k) = omega arith in
    ap (λ (r : List ℕ). a ∷ r) (sums-raised (a + n) ns k ∙ ap (λ (j : ℕ). sums j ns) z)
sums-insert a (n ∷ ns) (suc e) k h = ap (λ (r : List ℕ). a ∷ r) (sums-insert (a + n) ns e k (le_of_suc-le-suc h))

pub sums-remove : (a : ℕ) (ns : List ℕ) (e k : ℕ) → e < length ns → k ≤ get_or ns e 0
    → on_from (λ (x : ℕ). x - k) (sums a ns) (suc e) ≡ sums a (set ns e (get_or ns e 0 - k))
unfolding sums on_from
sums-remove a [] e k h b = absurd (not-suc-le-zero h)
sums-remove a (n ∷ ns) zero k h b =
    let z : a + n - k ≡ a + (n - k) = omega arith in
    ap (λ (r : List ℕ). a ∷ r) (sums-lowered (a + n) ns k (omega arith) ∙ ap (λ (i : ℕ). sums i ns) z)
sums-remove a (n ∷ ns) (suc e) k h b = ap (λ (r : List ℕ). a ∷ r) (sums-remove (a + n) ns e k (le_of_suc-le-suc h) b)

-- one empty list more: the last start once more
pub sums-append : (a : ℕ) (ns : List ℕ) → sums a (ns ++ (0 ∷ [])) ≡ sums a ns ++ ((a + sum ns) ∷ [])
unfolding sums sum
sums-append a [] = rw (add-zero a)
sums-append a (n ∷ ns) =
    let z : a + n + sum ns ≡ a + (n + sum ns) = omega arith in
    ap (λ (r : List ℕ). a ∷ r) (sums-append (a + n) ns ∙ ap (λ (k : ℕ). sums (a + n) ns ++ (k ∷ [])) z)

-- starts lie between the first and the last
pub sums-least : (a : ℕ) (ns : List ℕ) (k : ℕ) → k < length (sums a ns) → a ≤ get_or (sums a ns) k 0
unfolding sums
sums-least a [] zero h = omega arith
sums-least a [] (suc k) h = absurd (not-suc-le-zero (le_of_suc-le-suc h))
sums-least a (n ∷ ns) zero h = omega arith
sums-least a (n ∷ ns) (suc k) h =
    let r = sums-least (a + n) ns k (le_of_suc-le-suc h) in
    omega arith

pub sums-most : (a : ℕ) (ns : List ℕ) (k : ℕ) → get_or (sums a ns) k 0 ≤ a + sum ns
unfolding sums sum
sums-most a [] zero = omega arith
sums-most a [] (suc k) = omega arith
sums-most a (n ∷ ns) zero = omega arith
sums-most a (n ∷ ns) (suc k) =
    let r = sums-most (a + n) ns k in
    omega arith

-- behind a list of so many, no start is less
pub sums-past : (a : ℕ) (ns : List ℕ) (e k j : ℕ) → e < length ns → k ≤ get_or ns e 0 → suc e ≤ j → j < length (sums a ns) → k ≤ get_or (sums a ns) j 0
unfolding sums
sums-past a [] e k j h p g l = absurd (not-suc-le-zero h)
sums-past a (n ∷ ns) e k zero h p g l = absurd (not-suc-le-zero g)
sums-past a (n ∷ ns) zero k (suc j) h p g l =
    let r = sums-least (a + n) ns j (le_of_suc-le-suc l) in
    omega arith
sums-past a (n ∷ ns) (suc e) k (suc j) h p g l = sums-past (a + n) ns e k j (le_of_suc-le-suc h) p (le_of_suc-le-suc g) (le_of_suc-le-suc l)
