-- A set's cells: the set back from them, how many, the cells back from the set, and those of no set. Assumes nothing.
use mathlib.Core.Path.{◌≡◌, refl}
use mathlib.Core.List.{List, [], ◌∷◌}
use Prim.Native.Nat.{ℕ}
use native.Mathlib.Omega.{arith}
use lib.ListN.{length, replicate}
use Rattle.tables.specs.FileSets.{no_set}
use Rattle.tables.specs.Records.{FileSet}
use Rattle.tables.specs.SetCells.{set_width, set_cells, cells_set}

pub set_back : (s : FileSet) → cells_set (set_cells s) ≡ s
unfolding set_cells cells_set
set_back s = refl

pub wide-set : (s : FileSet) → length (set_cells s) ≡ set_width
unfolding set_cells
wide-set s = refl

pub set-again : (xs : List ℕ) → length xs ≡ set_width → set_cells (cells_set xs) ≡ xs
unfolding set_cells cells_set
set-again [] e = absurd (omega arith)
set-again (a ∷ []) e = refl
set-again (a ∷ b ∷ xs) e = absurd (omega arith)

-- no set is zeros
pub no-set-cells : set_cells no_set ≡ replicate set_width 0
unfolding set_cells
no-set-cells = refl
