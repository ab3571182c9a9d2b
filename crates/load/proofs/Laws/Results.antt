-- The first refusal that applies: a test passed or failed, an answer found or missing. Assumes nothing.
use mathlib.Core.Bool.{Bool, true, false}
use mathlib.Core.Option.{Option, none, some}
use mathlib.Core.Path.{◌≡◌, ap, ◌∙◌}
use Prim.Native.Nat.{ℕ}
use Rattle.deck.specs.Load.{Res, refused, need, given, ◌>>=◌}

module _ {B : Type 0} (n : ℕ) where
  pub passes : (f : Bool → Res B) {t : Bool} {o : Res B} → t ≡ true → f true ≡ o → (need n t >>= f) ≡ o
  unfolding need ◌>>=◌
  passes f h e = ap (λ (b : Bool). need n b >>= f) h ∙ e

  pub fails : (f : Bool → Res B) {t : Bool} → t ≡ false → (need n t >>= f) ≡ refused n
  unfolding need ◌>>=◌
  fails f h = ap (λ (b : Bool). need n b >>= f) h

  pub finds : {A : Type 0} (f : A → Res B) {a : Option A} {o : Res B} {x : A} → a ≡ some x → f x ≡ o → (given n a >>= f) ≡ o
  unfolding given ◌>>=◌
  finds {A} f h e = ap (λ (b : Option A). given n b >>= f) h ∙ e

  pub misses : {A : Type 0} (f : A → Res B) {a : Option A} → a ≡ none → (given n a >>= f) ≡ refused n
  unfolding given ◌>>=◌
  misses {A} f h = ap (λ (b : Option A). given n b >>= f) h
