-- Laws of the counts of a merge: the entries are taken newest first, one more each time. Assumes nothing.
use mathlib.Core.Bool.{Bool}
use mathlib.Core.List.{List, [], ◌∷◌, ◌++◌}
use mathlib.Core.Path.{◌≡◌, sym, ap, ◌∙◌}
use Prim.Native.Nat.{ℕ, suc, ◌+◌, ◌-◌, ◌≤◌, ◌<◌}
use native.Mathlib.Omega.{arith}
use lib.ListN.{length, get_or, take, length-take}
use lib.Seq.{take-suc}
use Rattle.tables.specs.Limits.{log_limit}
use Rattle.tables.specs.Lists.{keep}
use Rattle.tables.specs.LogTable.{no_entry, entry_at}
use Rattle.tables.specs.Records.{Entry, Log}
use Rattle.tables.proofs.Laws.Cases.{bool-split}
use Rattle.pairing.proofs.Laws.Uses.{keep-few}
use Rattle.merge_rules.specs.Calls as rules
use Rattle.merge_rules.specs.Calls.{is_import, is_restriction, is_extension, counts_of, entries_above}
use Rattle.merge.specs.declared.counts.Counts.{Counts}
use Rattle.merge.specs.Calls.{counts_is, plus_counts, CountsBelow}

keep-more : {A : Type 0} (t : A → Bool) (l : List A) (a : A) → length (keep t (l ++ (a ∷ []))) ≡ length (keep t l) + length (keep t (a ∷ []))
unfolding keep
keep-more t [] a = omega arith
keep-more t (b ∷ l) a = bool-split (t b) (λ e. rw (keep, e) (omega (arith, keep-more t l a))) (λ e. rw (keep, e) (keep-more t l a))

counts-more : (l : Log) (a : Entry) → plus_counts (counts_of l) (counts_of (a ∷ [])) ≡ counts_of (l ++ (a ∷ []))
unfolding counts_of plus_counts
counts-more l a = sym (rw (keep-more is_import l a, keep-more is_restriction l a, keep-more is_extension l a))

-- the entries from i on are counted
pub record Counting (mark : ℕ) (l : Log) (c : Counts) (i : ℕ) : Type 0 where
  pub within : i ≤ length l
  pub low : length l - i ≤ length l - mark
  pub is : counts_is c ≡ counts_of (take (length l - i) l)

module _ (mark : ℕ) (l : Log) where
  pub counting-start : (c : Counts) (i : ℕ) → c.imports ≡ 0 → c.restrictions ≡ 0 → c.extensions ≡ 0 → i ≡ length l → Counting mark l c i
  unfolding counts_of keep
  counting-start c i a b e h =
      let z : length l - i ≡ 0 = omega arith in
      record { within = omega arith; low = omega arith; is = rw (z, a, b, e) }

  module _ (c : Counts) (i : ℕ) (k : Counting mark l c i) where
    few : mark < i → (t : Entry → Bool) → length l ≤ log_limit → length (keep t (take (length l - i) l)) < log_limit
    few h t fits =
        omega (arith, keep-few t (take (length l - i) l), length-take (length l - i) l, k.within)

    pub counts-below : mark < i → length l ≤ log_limit → CountsBelow log_limit c
    unfolding counts_of
    counts-below h fits =
        record {
          imports = rw (ap (λ (d : rules.Counts). d.imports) k.is) (few h is_import fits);
          restrictions = rw (ap (λ (d : rules.Counts). d.restrictions) k.is) (few h is_restriction fits);
          extensions = rw (ap (λ (d : rules.Counts). d.extensions) k.is) (few h is_extension fits);
        }

    pub counting-next : (d : Counts) (a : Entry) (j : ℕ) → mark < i → j ≡ i - 1 → a ≡ entry_at l j → counts_is d ≡ plus_counts (counts_is c) (counts_of (a ∷ [])) → Counting mark l d j
    counting-next d a j h z e g =
        let n : length l - j ≡ suc (length l - i) = omega (arith, k.within) in
        let at : length l - suc j ≡ length l - i = omega (arith, k.within) in
        let here : a ≡ get_or l (length l - i) no_entry = rw at at e in
        record {
          within = omega (arith, k.within);
          low = omega (arith, k.low);
          is = rw (n, take-suc l (length l - i) no_entry (omega (arith, k.within)), ← here) (g ∙ rw k.is (counts-more (take (length l - i) l) a));
        }

    pub counting-end : i ≤ mark → counts_is c ≡ counts_of (entries_above mark l)
    unfolding entries_above
    counting-end h =
        let z : length l - mark ≡ length l - i = omega (arith, k.low) in
        rw z k.is
