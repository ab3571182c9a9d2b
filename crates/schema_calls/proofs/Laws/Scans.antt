-- Searches that answer a place: the first entry that passes, and what the answer tells. Assumes nothing.
use mathlib.Core.Bool.{Bool, true}
use mathlib.Core.List.{List}
use mathlib.Core.Option.{Option, none, some}
use mathlib.Core.Path.{◌≡◌, refl, sym, ap, subst, ◌∙◌}
use Prim.Native.Nat.{ℕ, ◌≤◌, ◌<◌}
use lib.ListN.{length, get_or, drop}
use Rattle.tables.specs.Lists.{any_of, first_of}
use Rattle.tables.proofs.Laws.Scans.{any_some, any_none, first-stop, first-end}
use Rattle.std.specs.Prelude as program_option
use Rattle.std.specs.Prelude.{Some, None, is_some}
use Rattle.schema_calls.specs.Calls.{Finds, FoundWithin, found_in}

-- ---- the place of the first entry that passes

module _ {A : Type 0} (t : A → Bool) (d : A) (l : List A) (i : ℕ) {o : Option A} where
  pub finds-at : i < length l → t (get_or l i d) ≡ true → first_of t (drop i l) ≡ o → Finds d l (Some i) o
  unfolding found_in
  finds-at h e k = record { is = sym (first-stop t l i d h e) ∙ k; within = h }

  pub finds-none : length l ≤ i → first_of t (drop i l) ≡ o → Finds d l None o
  unfolding found_in
  finds-none h k = record { is = sym (first-end t l i h) ∙ k; within = tt }

-- ---- what an answer tells

module _ {A : Type 0} {d : A} {l : List A} {r : program_option.Option ℕ} {o : Option A} (f : Finds d l r o) where
  pub found-at : {i : ℕ} → r ≡ Some i → o ≡ some (get_or l i d)
  unfolding found_in
  found-at e = sym f.is ∙ ap (found_in d l) e

  pub found_within : {i : ℕ} → r ≡ Some i → i < length l
  found_within e = subst (FoundWithin (length l)) e f.within

  pub found-missing : r ≡ None → o ≡ none
  unfolding found_in
  found-missing e = sym f.is ∙ ap (found_in d l) e

  -- the first entry of a list that passes is found where any passes
  pub found-any : (t : A → Bool) (m : List A) → o ≡ first_of t m → is_some r ≡ any_of t m
  found-any t m e = go r refl
    where
      go : (q : program_option.Option ℕ) → r ≡ q → is_some q ≡ any_of t m
      go (Some i) h = any_some t m (sym e ∙ found-at h)
      go None h = any_none t m (sym e ∙ found-missing h)
