-- What holds of each case holds of the choice between them, and of a sequence of steps. Assumes nothing.
use mathlib.Core.Bool.{Bool, true, false, ◌&&◌, and-eq-true_iff}
use mathlib.Core.List.{List, [], ◌∷◌}
use mathlib.Core.Logic.{◌⊎◌, inl, inr}
use mathlib.Core.Option.{Option, none, some, bind, none-ne-some, some-injective}
use mathlib.Core.Path.{◌≡◌, refl, subst}
use Prim.Native.Nat.{ℕ}
use borrow.Author.Tests.{eqb-true, eqb-false}
use lib.Dec.{eqb}
use Rattle.tables.specs.Records.{Element, State}
use Rattle.tables.proofs.Laws.Cases.{bool-split}
use Rattle.deck.specs.Load.{Res, ok, refused as not_ok, ◌>>=◌ as bind_res, need, given}
use Rattle.merge_rules.specs.Range.{Range, places, no_row, conflicting}
use Rattle.merge_rules.specs.Refusals.{Refusal, Outcome, done, conflict, refused, ◌>>=◌}

-- ---- tests

-- a number is another or is not
pub same-or-other : (a b : ℕ) → (a ≡ b) ⊎ (a ≡ b → ⊥)
same-or-other a b = bool-split (eqb a b) (λ h. inl (eqb-true a b h)) (λ h. inr (eqb-false a b h))

-- three tests that all pass
pub and-three : (a b c : Bool) → (a && b && c) ≡ true → (a ≡ true) × (b ≡ true) × (c ≡ true)
and-three a b c h =
    let (ab, k) = (and-eq-true_iff (a && b) c).0 h in
    let (i, j) = (and-eq-true_iff a b).0 ab in
    (i, j, k)

-- ---- choices

module _ {ℓ κ} {A : Type ℓ} (P : A → Type κ) where
  -- a choice by whether there is a value
  pub option-case : {B : Type 0} (o : Option B) {u : A} {v : B → A} → (o ≡ none → P u) → ((b : B) → o ≡ some b → P (v b))
      → P (elim o [ none ↦ u | some b ↦ v b ])
  option-case none h k = h refl
  option-case (some b) h k = k b refl

  -- a choice by whether a list is empty
  pub list-case : {B : Type 0} (l : List B) {u : A} {v : B → List B → A} → P u → ((b : B) (r : List B) → P (v b r))
      → P (elim l [ [] ↦ u | b ∷ r ↦ v b r ])
  list-case [] h k = h
  list-case (b ∷ r) h k = k b r

  -- a choice by what a range is
  pub range-case : (r : Range) {u : ℕ → ℕ → A} {v w : A} → ((i j : ℕ) → P (u i j)) → P v → P w
      → P (elim r [ places i j ↦ u i j | no_row ↦ v | conflicting ↦ w ])
  range-case (places i j) h k l = h i j
  range-case no_row h k l = k
  range-case conflicting h k l = l

-- ---- values that there may be

-- D holds of the value, where there is one
pub data IfSome {A : Type 0} (D : A → Type 0) : Option A → Type 0 where
  is_some : {a : A} → D a → IfSome D (some a)
  is_none : IfSome D none

-- what the value fits by being it
pub some_of : {A : Type 0} {D : A → Type 0} (o : Option A) → ((a : A) → o ≡ some a → D a) → IfSome D o
some_of none h = is_none
some_of (some a) h = is_some (h a refl)

-- what follows of the value
pub some-map : {A : Type 0} {D D' : A → Type 0} {o : Option A} → ((a : A) → D a → D' a) → IfSome D o → IfSome D' o
some-map f (is_some {a} h) = is_some (f a h)
some-map f is_none = is_none

-- a step more, from the value
pub some-bind : {A B : Type 0} {D : A → Type 0} {D' : B → Type 0} {o : Option A} {f : A → Option B} → IfSome D o
    → ((a : A) → D a → IfSome D' (f a)) → IfSome D' (bind o f)
unfolding bind
some-bind (is_some {a} h) k = k a h
some-bind is_none k = is_none

-- a step more, from any value
pub any-bind : {A B : Type 0} {D : B → Type 0} (o : Option A) {f : A → Option B} → ((a : A) → IfSome D (f a)) → IfSome D (bind o f)
unfolding bind
any-bind none k = is_none
any-bind (some a) k = k a

-- what holds of the value that there is
pub some-value : {A : Type 0} {D : A → Type 0} {o : Option A} {v : A} → IfSome D o → o ≡ some v → D v
some-value {D = D} {v = v} (is_some {a} h) e = subst D (some-injective a v e) h
some-value {v = v} is_none e = absurd (none-ne-some v e)

-- ---- steps of a load

-- D holds of the value, where it is not refused
pub data IfOk {A : Type 0} (D : A → Type 0) : Res A → Type 0 where
  is_ok : {a : A} → D a → IfOk D (ok a)
  is_not_ok : {n : ℕ} → IfOk D (not_ok n)

-- behind a value, what holds of it
pub given-ok : {A : Type 0} {D : A → Type 0} (n : ℕ) {o : Option A} → IfSome D o → IfOk D (given n o)
unfolding given
given-ok n (is_some h) = is_ok h
given-ok n is_none = is_not_ok

-- a step more, behind a test
pub need-bind : {B : Type 0} {D : B → Type 0} (n : ℕ) (b : Bool) {f : Bool → Res B} → ((t : Bool) → b ≡ true → IfOk D (f t))
    → IfOk D (bind_res (need n b) f)
unfolding need bind_res
need-bind n true k = k true refl
need-bind n false k = is_not_ok

-- a step more, from a value
pub given-bind : {A B : Type 0} {D : B → Type 0} (n : ℕ) (o : Option A) {f : A → Res B} → ((a : A) → o ≡ some a → IfOk D (f a))
    → IfOk D (bind_res (given n o) f)
unfolding given bind_res
given-bind n none k = is_not_ok
given-bind n (some a) k = k a refl

module _ {A B : Type 0} {D : A → Type 0} where
  -- a step more, from the value
  pub ok-bind : {D' : B → Type 0} {r : Res A} {f : A → Res B} → IfOk D r → ((a : A) → D a → IfOk D' (f a)) → IfOk D' (bind_res r f)
  unfolding bind_res
  ok-bind (is_ok {a} h) k = k a h
  ok-bind is_not_ok k = is_not_ok

  -- a choice by whether the value is refused
  pub ok-case : (P : B → Type 0) {r : Res A} {u : A → B} {v : ℕ → B} → IfOk D r → ((a : A) → D a → P (u a)) → ((n : ℕ) → P (v n))
      → P (elim r [ ok a ↦ u a | not_ok n ↦ v n ])
  ok-case P (is_ok {a} h) k l = k a h
  ok-case P (is_not_ok {n}) k l = l n

-- two facts of the value
pub ok-both : {A : Type 0} {D D' D'' : A → Type 0} {r : Res A} → IfOk D r → IfOk D' r → ((a : A) → D a → D' a → D'' a) → IfOk D'' r
ok-both (is_ok {a} h) (is_ok k) f = is_ok (f a h k)
ok-both is_not_ok k f = is_not_ok

-- ---- steps of a merge

-- D holds of the state where the outcome is done, C where it is a conflict
pub data IfDone (D C : State → Type 0) : Outcome → Type 0 where
  is_done : {t : State} → D t → IfDone D C (done t)
  is_conflict : {e : Element} {t : State} → C t → IfDone D C (conflict e t)
  is_refused : {r : Refusal} → IfDone D C (refused r)

module _ {D D' C : State → Type 0} where
  -- what follows of the state
  pub done-map : {o : Outcome} → ((t : State) → D t → D' t) → IfDone D C o → IfDone D' C o
  done-map f (is_done {t} h) = is_done (f t h)
  done-map f (is_conflict h) = is_conflict h
  done-map f is_refused = is_refused

  -- a step more, from the state
  pub done-bind : {o : Outcome} {f : State → Outcome} → IfDone D C o → ((t : State) → D t → IfDone D' C (f t)) → IfDone D' C (o >>= f)
  unfolding ◌>>=◌
  done-bind (is_done {t} h) k = k t h
  done-bind (is_conflict h) k = is_conflict h
  done-bind is_refused k = is_refused
