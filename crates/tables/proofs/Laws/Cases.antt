-- What holds in each case of a test. Assumes nothing.
use mathlib.Core.Bool.{Bool, true, false}
use mathlib.Core.Path.{◌≡◌, refl}

-- a claim by the two values of a test
pub bool-split {ℓ} : {A : Type ℓ} (b : Bool) → (b ≡ true → A) → (b ≡ false → A) → A
bool-split true h k = h refl
bool-split false h k = k refl

-- a choice by a test
pub bool_case {ℓ κ} : {A : Type ℓ} (P : A → Type κ) (b : Bool) {u v : A} → (b ≡ true → P u) → (b ≡ false → P v)
    → P (elim b [ true ↦ u | false ↦ v ])
bool_case P true h k = h refl
bool_case P false h k = k refl
