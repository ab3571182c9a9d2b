-- The entries above a mark, and which numbers are marks. Assumes nothing.
use mathlib.Core.Bool.{true, false≢true}
use mathlib.Core.List.{[], ◌∷◌, ◌++◌}
use mathlib.Core.Path.{◌≡◌, refl, sym, ◌∙◌}
use Prim.Native.Nat.{ℕ, zero, suc, ◌+◌, ◌-◌, ◌<◌, ◌≤◌}
use native.Mathlib.Omega.{arith}
use borrow.Author.Tests.{ltb-true, lt-ltb}
use lib.Dec.{ltb}
use lib.ListN.{length, drop, length-append, length-take}
use lib.Seq.{drop-append-add}
use Rattle.tables.specs.Lists.{keep}
use Rattle.tables.specs.Records.{Entry, import, restriction, extension, Log, State}
use Rattle.tables.proofs.Laws.Cases.{bool_case}
use Rattle.merge_rules.specs.Book.{sum_of}
use Rattle.merge_rules.specs.Calls.{is_import, is_restriction, is_extension, counts_of, entries_above}
use Rattle.merge_rules.specs.Log.{is_mark, ends_merge, is_root_extension}
use Rattle.merge_rules.proofs.Laws.Steps.{Steps}
use Rattle.merge_rules.proofs.Laws.Undo.{steps-log}

-- every entry is counted once
counts-sum : (l : Log) → sum_of (counts_of l) ≡ length l
unfolding sum_of counts_of keep is_import is_restriction is_extension
counts-sum [] = refl
counts-sum (import e p old_parent old_set ∷ l) = omega (arith, counts-sum l)
counts-sum (restriction e old_set ∷ l) = omega (arith, counts-sum l)
counts-sum (extension e f ∷ l) = omega (arith, counts-sum l)

-- the counts of the entries above a mark are what the log has above it
pub counts-above : (mark : ℕ) (l : Log) → mark ≤ length l → length l ≡ mark + sum_of (counts_of (entries_above mark l))
unfolding entries_above
counts-above mark l h = rw counts-sum (rw length-take (omega arith))

-- ---- marks

mark-suc : (n : ℕ) (l : Log) → n < length l → is_mark (suc n) l ≡ ends_merge (drop (length l - suc n) l)
unfolding is_mark
mark-suc n l h = rw (lt-ltb n (length l) h, is_mark)

-- a mark is not above the log's length
pub mark-within : (k : ℕ) (l : Log) → is_mark k l ≡ true → k ≤ length l
unfolding is_mark
mark-within zero l h = omega arith
mark-within (suc n) l h =
    bool_case (λ b. b ≡ true → suc n ≤ length l) (ltb n (length l)) (λ t _. ltb-true n (length l) t) (λ _ q. absurd (false≢true q)) h

-- entries on top leave the marks up to the log's length as they are
pub mark-below : (k : ℕ) (l below : Log) → k ≤ length below → is_mark k (l ++ below) ≡ is_mark k below
unfolding is_mark
mark-below zero l below h = refl
mark-below (suc n) l below h =
    let place : length (l ++ below) - suc n ≡ length l + (length below - suc n) = simp length-append (omega arith) in
    mark-suc n (l ++ below) (simp length-append (omega arith)) ∙ rw (place, drop-append-add) (sym (mark-suc n below h))

-- whether the log's length is a mark is in the newest entry
pub mark-top : (e : Entry) (l : Log) → is_mark (suc (length l)) (e ∷ l) ≡ is_root_extension e
unfolding ends_merge
mark-top e l =
    let top : suc (length l) - suc (length l) ≡ 0 = omega arith in
    mark-suc (length l) (e ∷ l) (omega arith) ∙ rw top

-- the length of a log that ends a merge is a mark
pub mark-end : (l : Log) → ends_merge l ≡ true → is_mark (length l) l ≡ true
unfolding ends_merge
mark-end [] h = absurd (false≢true h)
mark-end (e ∷ l) h = mark-top e l ∙ h

-- changes leave the marks up to the log's length as they are
pub mark-steps : {s t : State} → Steps s t → (k : ℕ) → k ≤ length s.log → is_mark k t.log ≡ is_mark k s.log
mark-steps {s} p k h =
    let (l, log) = steps-log p in
    rw log (mark-below k l s.log h)
