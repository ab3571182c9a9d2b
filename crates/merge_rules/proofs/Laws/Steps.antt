-- Changes that a merge makes, and paths of them. Assumes nothing.
use mathlib.Core.Bool.{true, false}
use mathlib.Core.List.{◌∷◌}
use mathlib.Core.Path.{◌≡◌}
use Prim.Native.Nat.{ℕ, ◌+◌, ◌<◌}
use lib.ListN.{length}
use Rattle.tables.specs.FileSets.{holds, with_file}
use Rattle.tables.specs.Records.{Element, FileNumber, FileSet, child, Model, Entry, import, restriction, extension, State, parent_of, set_of, list_of, put_set}
use Rattle.merge_rules.specs.Import.{adopt}
use Rattle.merge_rules.specs.Log.{is_mark, ends_merge}
use Rattle.merge_rules.specs.Sound.{In}

-- the entry that a change logs, and the model behind it
pub data Change (m : Model) : Entry → Model → Type 0 where
  restricts : (e : Element) (files : FileSet) → Change m (restriction e (set_of m e)) (put_set m e files)
  extends : (e : Element) (f : FileNumber) → holds (set_of m e) f ≡ false → Change m (extension e f) (put_set m e (with_file (set_of m e) f))
  imports : (f : FileNumber) (p e : Element) (at : ℕ) → (In (child e) (list_of m p) → ⊥) → Change m (import e p (parent_of m e) (set_of m e)) (adopt f p e at m)

-- a path of changes from s
pub data Steps (s : State) : State → Type 0 where
  stay : Steps s s
  step : {t : State} {e : Entry} {m : Model} → Steps s t → Change t.model e m → Steps s (record { model = m; log = e ∷ t.log })

-- an accepted merge of n entries: a path of changes whose last entry is the root's extension, with no other mark within
pub record IsMerge (s t : State) (n : ℕ) : Type 0 where
  pub steps : Steps s t
  pub size : length t.log ≡ length s.log + n
  pub last : ends_merge t.log ≡ true
  pub inner : (k : ℕ) → length s.log < k → k < length t.log → is_mark k t.log ≡ false
