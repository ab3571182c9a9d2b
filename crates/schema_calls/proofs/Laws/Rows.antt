-- Laws of the test of a type and a path, by them as they are read. Assumes nothing.
use mathlib.Core.Bool.{Bool, true, false, ◌&&◌}
use mathlib.Core.Path.{◌≡◌}
use Prim.Native.Nat.{ℕ}
use lib.Dec.{eqb}
use Rattle.tables.specs.Paths.{same_path}
use Rattle.tables.specs.Records.{SchemaPath}

module _ (type t : ℕ) (path p : SchemaPath) {ty : ℕ} (at : ty ≡ type) where
  pub other-type : eqb ty t ≡ false → false ≡ eqb type t && same_path path p
  other-type h = rw (← at, h)

  pub same-type : eqb ty t ≡ true → {q : SchemaPath} → q ≡ path → {b : Bool} → b ≡ same_path q p → b ≡ eqb type t && same_path path p
  same-type h e k = rw (← at, h, ← e) k
