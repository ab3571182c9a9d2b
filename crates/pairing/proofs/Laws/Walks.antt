-- The rule's walk, step by step, and the plan that it adds to. Assumes nothing.
use mathlib.Core.List.{List, [], ◌∷◌, ◌++◌, append_assoc}
use mathlib.Core.Path.{◌≡◌, refl, sym, ap, ◌∙◌}
use Prim.Native.Nat.{ℕ, zero, suc, ◌+◌, ◌≤◌}
use native.Mathlib.Omega.{arith}
use lib.ListN.{length}
use Rattle.tables.specs.Records.{Element}
use Rattle.merge_rules.specs.Pairing.{Action, merge_equal, merge_unequal, a_only, b_only, unmergeable_parent, Plan, Walked, planned, unmergeable_in, restrict_first, import_first, pair_first, import_unpaired, left_over_a, left_over_b, walk}
use Rattle.pairing.specs.Walks.{walk_on, after}

-- ---- steps are enough where there are as many as children

by-action : (o : Action) {e e' : Walked} {u u' : Element → Walked} {a a' b b' : Walked} → e ≡ e' → ((c : Element) → u c ≡ u' c) → a ≡ a' → b ≡ b'
    → ◌≡◌ {A = Walked} (elim o [ merge_equal ↦ e | merge_unequal c ↦ u c | a_only ↦ a | b_only ↦ b | unmergeable_parent ↦ unmergeable_in ])
    (elim o [ merge_equal ↦ e' | merge_unequal c ↦ u' c | a_only ↦ a' | b_only ↦ b' | unmergeable_parent ↦ unmergeable_in ])
by-action merge_equal h k l m = h
by-action (merge_unequal c) h k l m = k c
by-action a_only h k l m = l
by-action b_only h k l m = m
by-action unmergeable_parent h k l m = refl

module _ (act : Element → Element → Action) (end : ℕ) where
  pub enough : (n m i : ℕ) (as' bs paired : List Element) → length as' + length bs ≤ n → length as' + length bs ≤ m
      → walk act end n i as' bs paired ≡ walk act end m i as' bs paired
  unfolding walk left_over_a left_over_b
  enough zero zero i as' bs paired h k = refl
  enough zero (suc m) i [] [] paired h k = refl
  enough zero (suc m) i [] (b ∷ bs) paired h k = absurd (omega arith)
  enough zero (suc m) i (a ∷ as') bs paired h k = absurd (omega arith)
  enough (suc n) zero i [] [] paired h k = refl
  enough (suc n) zero i [] (b ∷ bs) paired h k = absurd (omega arith)
  enough (suc n) zero i (a ∷ as') bs paired h k = absurd (omega arith)
  enough (suc n) (suc m) i [] bs paired h k = refl
  enough (suc n) (suc m) i (a ∷ as') [] paired h k = refl
  enough (suc n) (suc m) i (a ∷ as') (b ∷ bs) paired h k =
      by-action (act a b) (ap (pair_first a b) (enough n m (suc i) as' bs (b ∷ paired) (omega arith) (omega arith)))
      (λ c. ap (pair_first a c) (enough n m (suc i) as' (b ∷ bs) (c ∷ paired) (omega arith) (omega arith)))
      (ap (restrict_first a) (enough n m (suc i) as' (b ∷ bs) paired (omega arith) (omega arith)))
      (ap (import_unpaired paired b i) (enough n m i (a ∷ as') bs paired (omega arith) (omega arith)))

  full : (n i : ℕ) (as' bs paired : List Element) → length as' + length bs ≤ n → walk act end n i as' bs paired ≡ walk_on act end i as' bs paired
  full n i as' bs paired h = enough n (length as' + length bs) i as' bs paired h (omega arith)

  -- ---- one step

  module _ (i : ℕ) (a b : Element) (as' bs paired : List Element) where
    one : walk_on act end i (a ∷ as') (b ∷ bs) paired ≡ walk act end (suc (length as' + suc (length bs))) i (a ∷ as') (b ∷ bs) paired
    one = sym (full (suc (length as' + suc (length bs))) i (a ∷ as') (b ∷ bs) paired (omega arith))

    pub on-equal : act a b ≡ merge_equal → walk_on act end i (a ∷ as') (b ∷ bs) paired ≡ pair_first a b (walk_on act end (suc i) as' bs (b ∷ paired))
    unfolding walk
    on-equal e = one ∙ rw (walk, e) (ap (pair_first a b) (full (length as' + suc (length bs)) (suc i) as' bs (b ∷ paired) (omega arith)))

    pub on-unequal : (c : Element) → act a b ≡ merge_unequal c
        → walk_on act end i (a ∷ as') (b ∷ bs) paired ≡ pair_first a c (walk_on act end (suc i) as' (b ∷ bs) (c ∷ paired))
    unfolding walk
    on-unequal c e = one ∙ rw (walk, e) (ap (pair_first a c) (full (length as' + suc (length bs)) (suc i) as' (b ∷ bs) (c ∷ paired) (omega arith)))

    pub on-first : act a b ≡ a_only → walk_on act end i (a ∷ as') (b ∷ bs) paired ≡ restrict_first a (walk_on act end (suc i) as' (b ∷ bs) paired)
    unfolding walk
    on-first e = one ∙ rw (walk, e) (ap (restrict_first a) (full (length as' + suc (length bs)) (suc i) as' (b ∷ bs) paired (omega arith)))

    pub on-second : act a b ≡ b_only → walk_on act end i (a ∷ as') (b ∷ bs) paired ≡ import_unpaired paired b i (walk_on act end i (a ∷ as') bs paired)
    unfolding walk
    on-second e = one ∙ rw (walk, e) (ap (import_unpaired paired b i) (full (length as' + suc (length bs)) i (a ∷ as') bs paired (omega arith)))

    pub on-neither : act a b ≡ unmergeable_parent → walk_on act end i (a ∷ as') (b ∷ bs) paired ≡ unmergeable_in
    unfolding walk
    on-neither e = one ∙ rw (walk, e)

  -- left-over A and B
  pub no_second : (n i : ℕ) (as' paired : List Element) → walk act end n i as' [] paired ≡ left_over_a as'
  unfolding walk left_over_a left_over_b
  no_second zero i as' paired = refl
  no_second (suc n) i [] paired = refl
  no_second (suc n) i (a ∷ as') paired = refl

  no-first : (n i : ℕ) (bs paired : List Element) → length bs ≤ n → walk act end n i [] bs paired ≡ left_over_b end paired bs
  unfolding walk left_over_a left_over_b
  no-first zero i [] paired h = refl
  no-first zero i (b ∷ bs) paired h = absurd (omega arith)
  no-first (suc n) i bs paired h = refl

  pub on-last-first : (i : ℕ) (a : Element) (as' paired : List Element) → walk_on act end i (a ∷ as') [] paired ≡ restrict_first a (walk_on act end (suc i) as' [] paired)
  unfolding left_over_a
  on-last-first i a as' paired =
      no_second (length (a ∷ as') + 0) i (a ∷ as') paired ∙ ap (restrict_first a) (sym (no_second (length as' + 0) (suc i) as' paired))

  pub on-last-second : (i : ℕ) (b : Element) (bs paired : List Element) → walk_on act end i [] (b ∷ bs) paired ≡ import_unpaired paired b end (walk_on act end i [] bs paired)
  unfolding left_over_b
  on-last-second i b bs paired =
      no-first (0 + length (b ∷ bs)) i (b ∷ bs) paired (omega arith) ∙ ap (import_unpaired paired b end) (sym (no-first (0 + length bs) i bs paired (omega arith)))

-- ---- a plan, and one entry more

abbrev pub no_plan : Plan
no_plan = record { restrictions = []; imports = []; pairs = [] }

abbrev pub plus_restriction : Plan → Element → Plan
plus_restriction p a = record { restrictions = p.restrictions ++ (a ∷ []); imports = p.imports; pairs = p.pairs }

abbrev pub plus_import : Plan → Element → ℕ → Plan
plus_import p b at = record { restrictions = p.restrictions; imports = p.imports ++ (record { element = b; position = at } ∷ []); pairs = p.pairs }

abbrev pub plus_pair : Plan → Element → Element → Plan
plus_pair p a b = record { restrictions = p.restrictions; imports = p.imports; pairs = p.pairs ++ (record { a = a; b = b } ∷ []) }

module _ (p : Plan) where
  pub after-restriction : (a : Element) (w : Walked) → after (plus_restriction p a) w ≡ after p (restrict_first a w)
  unfolding after restrict_first
  after-restriction a (planned q) = simp append_assoc
  after-restriction a unmergeable_in = refl

  pub after-import : (b : Element) (at : ℕ) (w : Walked) → after (plus_import p b at) w ≡ after p (import_first b at w)
  unfolding after import_first
  after-import b at (planned q) = simp append_assoc
  after-import b at unmergeable_in = refl

  pub after-pair : (a b : Element) (w : Walked) → after (plus_pair p a b) w ≡ after p (pair_first a b w)
  unfolding after pair_first
  after-pair a b (planned q) = simp append_assoc
  after-pair a b unmergeable_in = refl

pub after_none : (w : Walked) → after no_plan w ≡ w
unfolding after
after_none (planned q) = refl
after_none unmergeable_in = refl

-- nothing is left to walk
pub walk_none : (act : Element → Element → Action) (end i : ℕ) (paired : List Element) → walk_on act end i [] [] paired ≡ planned no_plan
unfolding walk left_over_a
walk_none act end i paired = refl
