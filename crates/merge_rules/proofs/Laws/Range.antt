-- A range's places: first ≤ last ≤ content length, always. Assumes nothing.
use mathlib.Core.List.{List, [], ◌∷◌}
use mathlib.Core.Path.{subst}
use Prim.Native.Nat.{ℕ, suc, ◌+◌, ◌≤◌, Ordering}
use native.Mathlib.Nat.{zero-add}
use native.Mathlib.Omega.{arith}
use lib.ListN.{length}
use Rattle.tables.specs.Records.{Element, Name, Version, Mode, sequence, choice, bag, mixed, characters, Mult, at_most_one, one, any, SubElement, Item, child, text, Model, Fixed, name_of, type_of, list_of}
use Rattle.deck.specs.Schema.{find_sub_element, row_of_name, version_mask}
use Rattle.merge_rules.specs.Range.{Range, places, no_row, conflicting, Move, stop, move, clash, equal_path, move_by, move_at, read_content, range_in, calc_element_insert_range}
use Rattle.merge_rules.proofs.Laws.Cases.{option-case}

-- places that are moved at an index stay in order and go no further than behind it
abbrev MoveFits : ℕ → Move → Type 0
MoveFits index stop = Unit {0}
MoveFits index (move first last) = (first ≤ last) × (last ≤ suc index)
MoveFits index clash = Unit {0}

-- first ≤ last ≤ n
abbrev pub RangeFits : ℕ → Range → Type 0
RangeFits n (places first last) = (first ≤ last) × (last ≤ n)
RangeFits n no_row = Unit {0}
RangeFits n conflicting = Unit {0}

equal-fits : (mult : Mult) (first index : ℕ) → first ≤ index → MoveFits index (equal_path mult first index)
unfolding equal_path
equal-fits at_most_one first index h = omega arith
equal-fits one first index h = omega arith
equal-fits any first index h = omega arith

move-fits : (mode : Mode) (order : Ordering) (mult : Mult) (first index : ℕ) → first ≤ index → MoveFits index (move_by mode order mult first index)
unfolding move_by
move-fits sequence Ordering.lt mult first index h = tt
move-fits sequence Ordering.eq mult first index h = equal-fits mult first index h
move-fits sequence Ordering.gt mult first index h = omega arith
move-fits choice Ordering.lt mult first index h = tt
move-fits choice Ordering.eq mult first index h = equal-fits mult first index h
move-fits choice Ordering.gt mult first index h = tt
move-fits bag order mult first index h = omega arith
move-fits mixed order mult first index h = omega arith
move-fits characters order mult first index h = omega arith

item-fits : (x : Fixed) (p : Element) (new : SubElement) (i : Item) (index first last : ℕ) → first ≤ last → last ≤ index
    → MoveFits index (move_at x p new i index first last)
unfolding move_at
item-fits x p new (text t) index first last h k = omega arith
item-fits x p new (child e) index first last h k =
    option-case (MoveFits index) (row_of_name x.schema (type_of x p) (name_of x e)) (λ _. omega arith)
    (λ old _. move-fits _ _ new.mult first index (omega arith))

move-case : (P : Range → Type 0) (index : ℕ) (m : Move) {u w : Range} {v : ℕ → ℕ → Range} → MoveFits index m → P u
    → ((f l : ℕ) → f ≤ l → l ≤ suc index → P (v f l)) → P w → P (elim m [ stop ↦ u | move f l ↦ v f l | clash ↦ w ])
move-case P index stop t h k i = h
move-case P index (move f l) t h k i = k f l t.0 t.1
move-case P index clash t h k i = i

content-fits : (x : Fixed) (p : Element) (new : SubElement) (is : List Item) (index first last : ℕ) → first ≤ last → last ≤ index
    → RangeFits (index + length is) (read_content x p new is index first last)
unfolding read_content
content-fits x p new [] index first last h k = omega arith
content-fits x p new (i ∷ is) index first last h k =
    move-case (RangeFits (index + length (i ∷ is))) index (move_at x p new i index first last) (item-fits x p new i index first last h k)
    (omega arith)
    (λ f l h' k'.
    subst (λ (n : ℕ). RangeFits n (read_content x p new is (suc index) f l)) (omega arith) (content-fits x p new is (suc index) f l h' k'))
    tt

whole-fits : (x : Fixed) (p : Element) (new : SubElement) (is : List Item) → RangeFits (length is) (read_content x p new is 0 0 0)
whole-fits x p new is = rw zero-add at (content-fits x p new is 0 0 0 (omega arith) (omega arith))

mode-fits : (x : Fixed) (m : Model) (p : Element) (new : SubElement) (mode : Mode) → RangeFits (length (list_of m p)) (range_in x m p new mode)
unfolding range_in
mode-fits x m p new sequence = whole-fits x p new (list_of m p)
mode-fits x m p new choice = whole-fits x p new (list_of m p)
mode-fits x m p new bag = omega arith
mode-fits x m p new mixed = omega arith
mode-fits x m p new characters = tt

-- Always first ≤ last ≤ content length.
pub range-fits : (x : Fixed) (m : Model) (p : Element) (n : Name) (v : Version)
    → RangeFits (length (list_of m p)) (calc_element_insert_range x m p n v)
unfolding calc_element_insert_range
range-fits x m p n v =
    option-case (RangeFits (length (list_of m p))) (find_sub_element x.schema (type_of x p) n (version_mask v)) (λ _. tt)
    (λ new _. mode-fits x m p new _)
