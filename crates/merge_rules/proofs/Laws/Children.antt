-- What the row of a child's name fixes. Assumes nothing.
use mathlib.Core.Path.{◌≡◌, sym, ap, ◌∙◌}
use Prim.Native.Nat.{suc}
use Rattle.tables.specs.Records.{Element, Fixed, name_of, type_of, depth_of}
use Rattle.merge_rules.specs.Sound.{ChildValid}

module _ {x : Fixed} {p q e : Element} (types : type_of x p ≡ type_of x q) (h : ChildValid x p e) where
  -- equal names under parents of equal types have equal types
  pub same-type : {c : Element} → ChildValid x q c → name_of x e ≡ name_of x c → type_of x e ≡ type_of x c
  same-type k names = cc

  -- what may be a child of the one parent may be one of the other, at the same depth
  pub child-moved : depth_of x p ≡ depth_of x q → ChildValid x q e
  child-moved depths = record { depth = h.depth ∙ ap suc depths; row = h.row; found = rw (sym types) h.found; type = h.type }
