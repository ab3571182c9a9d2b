use mathlib.Core.Path.{sym, ap, ◌∙◌}
use Prim.Native.Nat.{ℕ}
use native.Mathlib.Nat.{add-zero}
use native.Mathlib.Omega.{arith}
use lib.ListN.{get_or, drop}
use lib.Seq.{get_or-take, get_or-drop}
use Rattle.tables.specs.SetCells.{set_is, set_width, cells_set}
use Rattle.tables.proofs.file_set.read_set.Goals as goal

pub returns : goal.returns
unfolding set_is cells_set
returns c =
    let a = c.args.at in
    let xs = c.args.cells.now in
    sym (get_or-take set_width (drop a xs) 0 0 (omega arith) ∙ get_or-drop a xs 0 0 ∙ ap (λ (i : ℕ). get_or xs i 0) (add-zero a))
