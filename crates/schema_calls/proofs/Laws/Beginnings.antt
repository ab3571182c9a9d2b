-- Laws of a test of every proper beginning of a path that four cells hold. Assumes nothing.
use mathlib.Core.Bool.{Bool, true, false}
use mathlib.Core.List.{[], ◌∷◌}
use mathlib.Core.Path.{◌≡◌, refl, sym, ◌∙◌}
use Prim.Native.Nat.{ℕ, zero, suc}
use native.Mathlib.Omega.{arith}
use Rattle.tables.specs.Lists.{all_of}
use Rattle.tables.specs.Paths.{front}
use Rattle.tables.specs.Records.{SchemaPath}
use Rattle.deck.specs.Schema.{proper_beginnings}

-- the first part, the first two and the first three
abbrev pub one : ℕ → SchemaPath
one a = front (a ∷ 0 ∷ 0 ∷ 0 ∷ [])

abbrev pub two : ℕ → ℕ → SchemaPath
two a b = front (a ∷ b ∷ 0 ∷ 0 ∷ [])

abbrev pub three : ℕ → ℕ → ℕ → SchemaPath
three a b c = front (a ∷ b ∷ c ∷ 0 ∷ [])

module _ (h : SchemaPath → Bool) where
  abbrev pub every_beginning : ℕ → ℕ → ℕ → ℕ → Bool
  every_beginning a b c d = all_of h (proper_beginnings (front (a ∷ b ∷ c ∷ d ∷ [])))

  -- no part, or one
  pub every-none : (a b c d : ℕ) → a ≡ 0 → true ≡ every_beginning a b c d
  unfolding all_of proper_beginnings front
  every-none zero b c d e = refl
  every-none (suc a) b c d e = absurd (omega arith)

  pub every_one : (a b c d : ℕ) → b ≡ 0 → true ≡ every_beginning a b c d
  unfolding all_of proper_beginnings front
  every_one zero b c d e = refl
  every_one (suc a) zero c d e = refl
  every_one (suc a) (suc b) c d e = absurd (omega arith)

  -- the first part fails
  pub fails-one : (a b c d : ℕ) → (a ≡ 0 → ⊥) → (b ≡ 0 → ⊥) → h (one a) ≡ false → false ≡ every_beginning a b c d
  unfolding all_of proper_beginnings front
  fails-one zero b c d na nb e = absurd (na refl)
  fails-one (suc a) zero c d na nb e = absurd (nb refl)
  fails-one (suc a) (suc b) c d na nb e = rw (all_of, e)

  -- two parts, and the first one stands
  pub every_two : (a b c d : ℕ) → (a ≡ 0 → ⊥) → (b ≡ 0 → ⊥) → h (one a) ≡ true → c ≡ 0 → true ≡ every_beginning a b c d
  unfolding all_of proper_beginnings front
  every_two zero b c d na nb e z = absurd (na refl)
  every_two (suc a) zero c d na nb e z = absurd (nb refl)
  every_two (suc a) (suc b) zero d na nb e z = rw (all_of, e)
  every_two (suc a) (suc b) (suc c) d na nb e z = absurd (omega arith)

  -- the first two parts fail
  pub fails-two : (a b c d : ℕ) → (a ≡ 0 → ⊥) → (b ≡ 0 → ⊥) → h (one a) ≡ true → (c ≡ 0 → ⊥) → h (two a b) ≡ false → false ≡ every_beginning a b c d
  unfolding all_of proper_beginnings front
  fails-two zero b c d na nb e nc f = absurd (na refl)
  fails-two (suc a) zero c d na nb e nc f = absurd (nb refl)
  fails-two (suc a) (suc b) zero d na nb e nc f = absurd (nc refl)
  fails-two (suc a) (suc b) (suc c) d na nb e nc f = rw (all_of, e, all_of, f)

  -- three parts, and the first two stand
  pub every-three : (a b c d : ℕ) → (a ≡ 0 → ⊥) → (b ≡ 0 → ⊥) → h (one a) ≡ true → (c ≡ 0 → ⊥) → h (two a b) ≡ true → d ≡ 0 → true ≡ every_beginning a b c d
  unfolding all_of proper_beginnings front
  every-three zero b c d na nb e nc f z = absurd (na refl)
  every-three (suc a) zero c d na nb e nc f z = absurd (nb refl)
  every-three (suc a) (suc b) zero d na nb e nc f z = absurd (nc refl)
  every-three (suc a) (suc b) (suc c) zero na nb e nc f z = rw (all_of, e, all_of, f)
  every-three (suc a) (suc b) (suc c) (suc d) na nb e nc f z = absurd (omega arith)

  -- four parts: as the first three
  pub every-four : (a b c d : ℕ) → (a ≡ 0 → ⊥) → (b ≡ 0 → ⊥) → h (one a) ≡ true → (c ≡ 0 → ⊥) → h (two a b) ≡ true → (d ≡ 0 → ⊥)
      → {r : Bool} → r ≡ h (three a b c) → r ≡ every_beginning a b c d
  unfolding all_of proper_beginnings front
  every-four zero b c d na nb e nc f nd k = absurd (na refl)
  every-four (suc a) zero c d na nb e nc f nd k = absurd (nb refl)
  every-four (suc a) (suc b) zero d na nb e nc f nd k = absurd (nc refl)
  every-four (suc a) (suc b) (suc c) zero na nb e nc f nd k = absurd (nd refl)
  every-four (suc a) (suc b) (suc c) (suc d) na nb e nc f nd k = rw (all_of, e, all_of, f, all_of) (k ∙ sym (last (h (a ∷ b ∷ c ∷ []))))
    where
      last : (t : Bool) → ◌≡◌ {A = Bool} (elim t [ true ↦ true | false ↦ false ]) t
      last true = refl
      last false = refl
