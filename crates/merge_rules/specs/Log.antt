-- Document 01, "Log, mark, rollback, `rollback_merge`". Assumes nothing.
use Rattle.std.specs.Prelude.{Bool, true, false, List, [], ◌∷◌, ℕ, zero, suc, ◌-◌, eqb, leb, ltb, length, drop}
use Rattle.std.proofs.Math.Option.{Option, none, some}
use Rattle.tables.specs.FileSets.{holds, with_file, without_file}
use Rattle.tables.specs.Limits.{log_limit}
use Rattle.tables.specs.Records.{Element, FileNumber, FileSet, Item, child, text, Model, Entry, import, restriction, extension, Log, State, root, set_of, list_of, put_parent, put_set, remove_item}
use Rattle.merge_rules.specs.Refusals.{Outcome, done, refused, log_full}

-- ---- entries

-- 9 exactly when a 1,025th log entry is due: the entry, and the model behind it
unfoldable pub change : Entry → Model → State → Outcome
change e m s =
    elim (ltb (length s.log) log_limit) [
      | true ↦ done (record { model = m; log = e ∷ s.log })
      | false ↦ refused log_full
    ]

-- restriction (old set kept;
unfoldable pub restrict : Element → FileSet → State → Outcome
restrict e files s = change (restriction e (set_of s.model e)) (put_set s.model e files) s

-- extension (only if the file was absent)
unfoldable pub extend : Element → FileNumber → State → Outcome
extend e f s =
    elim (holds (set_of s.model e) f) [
      | true ↦ done s
      | false ↦ change (extension e f) (put_set s.model e (with_file (set_of s.model e) f)) s
    ]

-- ---- rollback

-- the element's first place in a list
unfoldable pub first_place_of : Element → List Item → Option ℕ
first_place_of e [] = none
first_place_of e (child c ∷ is) =
    elim (eqb c e) [ true ↦ some 0 | false ↦ elim (first_place_of e is) [ none ↦ none | some i ↦ some (suc i) ] ]
first_place_of e (text t ∷ is) = elim (first_place_of e is) [ none ↦ none | some i ↦ some (suc i) ]

-- the element's first place, if any, leaves the list
unfoldable pub take_out : Element → Element → Model → Model
take_out e p m = elim (first_place_of e (list_of m p)) [ none ↦ m | some i ↦ remove_item m p i ]

unfoldable pub undo : Entry → Model → Model
undo (import e p old_parent old_set) m = put_set (put_parent (take_out e p m) e old_parent) e old_set
undo (restriction e old_set) m = put_set m e old_set
undo (extension e f) m = put_set m e (without_file (set_of m e) f)

-- Rollback undoes the newest first. A mark is the log's length.
unfoldable pub undo_to : ℕ → Log → Model → State
undo_to mark [] m = record { model = m; log = [] }
undo_to mark (e ∷ l) m =
    elim (leb mark (length l)) [ true ↦ undo_to mark l (undo e m) | false ↦ record { model = m; log = e ∷ l } ]

unfoldable pub rollback_merge : ℕ → State → State
rollback_merge mark s = undo_to mark s.log s.model

-- ---- marks that rollback takes

unfoldable pub is_root_extension : Entry → Bool
is_root_extension (import e p old_parent old_set) = false
is_root_extension (restriction e old_set) = false
is_root_extension (extension e f) = eqb e root

-- the newest of these entries is a root extension
unfoldable pub ends_merge : Log → Bool
ends_merge [] = false
ends_merge (e ∷ l) = is_root_extension e

-- not above the length, and 0 or the entry below it a root extension
unfoldable pub is_mark : ℕ → Log → Bool
is_mark zero l = true
is_mark (suc n) l = elim (ltb n (length l)) [ true ↦ ends_merge (drop (length l - suc n) l) | false ↦ false ]
