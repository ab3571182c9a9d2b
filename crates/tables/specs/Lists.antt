-- Operations on lists that the rules use and the library lacks. Assumes nothing.
use Rattle.std.specs.Prelude.{Bool, true, false, List, [], ◌∷◌, ◌++◌, ℕ, zero, suc, ◌+◌, eqb, drop, replicate}
use Rattle.std.proofs.Math.Option.{Option, none, some}

module _ {ℓ} {A : Type ℓ} where
  -- some entry passes the test
  unfoldable pub any_of : (A → Bool) → List A → Bool
  any_of t [] = false
  any_of t (x ∷ xs) = elim (t x) [ true ↦ true | false ↦ any_of t xs ]

  -- every entry passes the test
  unfoldable pub all_of : (A → Bool) → List A → Bool
  all_of t [] = true
  all_of t (x ∷ xs) = elim (t x) [ true ↦ all_of t xs | false ↦ false ]

  -- the first entry that passes the test
  unfoldable pub first_of : (A → Bool) → List A → Option A
  first_of t [] = none
  first_of t (x ∷ xs) = elim (t x) [ true ↦ some x | false ↦ first_of t xs ]

  -- the entry at a place, pushing what stands there and behind it back by one; past the end, at the end
  unfoldable pub insert_at : List A → ℕ → A → List A
  insert_at xs zero a = a ∷ xs
  insert_at [] (suc i) a = a ∷ []
  insert_at (x ∷ xs) (suc i) a = x ∷ insert_at xs i a

  -- the list without the entry at a place
  unfoldable pub remove_at : List A → ℕ → List A
  remove_at [] i = []
  remove_at (x ∷ xs) zero = xs
  remove_at (x ∷ xs) (suc i) = x ∷ remove_at xs i

  -- the entry k times at a place, pushing what stands there and behind it back by k; past the end, at the end
  unfoldable pub insert_run : List A → ℕ → ℕ → A → List A
  insert_run xs zero k a = replicate k a ++ xs
  insert_run [] (suc i) k a = replicate k a
  insert_run (x ∷ xs) (suc i) k a = x ∷ insert_run xs i k a

  -- the list without k entries, the first of them at a place
  unfoldable pub remove_run : List A → ℕ → ℕ → List A
  remove_run xs zero k = drop k xs
  remove_run [] (suc i) k = []
  remove_run (x ∷ xs) (suc i) k = x ∷ remove_run xs i k

  -- the entries that pass the test
  unfoldable pub keep : (A → Bool) → List A → List A
  keep t [] = []
  keep t (x ∷ xs) = elim (t x) [ true ↦ x ∷ keep t xs | false ↦ keep t xs ]

unfoldable pub sum : List ℕ → ℕ
sum [] = 0
sum (n ∷ ns) = n + sum ns

-- the two lists are equal, entry by entry
unfoldable pub same_list : List ℕ → List ℕ → Bool
same_list [] [] = true
same_list [] (b ∷ bs) = false
same_list (a ∷ as') [] = false
same_list (a ∷ as') (b ∷ bs) = elim (eqb a b) [ true ↦ same_list as' bs | false ↦ false ]
