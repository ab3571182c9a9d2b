-- Document 01, "Import, `import_single_item`". Assumes nothing.
use Rattle.std.specs.Prelude.{true, false, List, [], ◌∷◌, ℕ, suc, ◌+◌, min, max, ltb}
use Rattle.std.proofs.Math.Option.{some}
use Rattle.tables.specs.FileSets.{with_file}
use Rattle.tables.specs.Limits.{item_limit}
use Rattle.tables.specs.Records.{Element, FileNumber, Version, child, Model, import, State, Fixed, name_of, parent_of, set_of, put_parent, put_set, insert_item, content_items}
use Rattle.merge_rules.specs.Log.{change}
use Rattle.merge_rules.specs.Pairing.{NewItem}
use Rattle.merge_rules.specs.Range.{places, no_row, conflicting, calc_element_insert_range}
use Rattle.merge_rules.specs.Refusals.{Outcome, done, conflict, refused, not_in_version, content_full, ◌>>=◌}

-- The element gets the A parent and the new file in its set.
unfoldable pub adopt : FileNumber → Element → Element → ℕ → Model → Model
adopt f p e at m = put_set (put_parent (insert_item m p at (child e)) e (some p)) e (with_file (set_of m e) f)

-- import (old parent and set kept). 9 comes before 10.
unfoldable pub import_at : FileNumber → Element → Element → ℕ → State → Outcome
import_at f p e at s =
    change (import e p (parent_of s.model e) (set_of s.model e)) (adopt f p e at s.model) s
    >>= (λ t. elim (ltb (content_items s.model) item_limit) [ true ↦ done t | false ↦ refused content_full ])

-- Wanted place, then max(first), then min(last).
unfoldable pub clamp : ℕ → ℕ → ℕ → ℕ
clamp wanted first last = min (max wanted first) last

unfoldable pub import_single_item : Fixed → FileNumber → Version → Element → Element → ℕ → State → Outcome
import_single_item x f v p e wanted s =
    elim (calc_element_insert_range x s.model p (name_of x e) v) [
      | places first last ↦ import_at f p e (clamp wanted first last) s
      | no_row ↦ refused (not_in_version p (name_of x e))
      | conflicting ↦ conflict p s
    ]

-- Wanted place = position + index in the B-only list
unfoldable pub import_new_items : Fixed → FileNumber → Version → Element → ℕ → List NewItem → State → Outcome
import_new_items x f v p index [] s = done s
import_new_items x f v p index (i ∷ is) s =
    import_single_item x f v p i.element (i.position + index) s >>= import_new_items x f v p (suc index) is
