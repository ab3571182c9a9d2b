-- The plan of a level with one child on each side, which are paired. Assumes nothing.
use mathlib.Core.List.{List, [], ◌∷◌}
use mathlib.Core.Option.{none}
use mathlib.Core.Path.{◌≡◌, refl, sym, ap, ◌∙◌}
use Prim.Native.Nat.{ℕ, ◌+◌, ◌-◌, ◌<◌, ◌≤◌}
use native.Mathlib.Omega.{arith}
use borrow.Author.Tests.{le-ltb}
use lib.Dec.{eqb}
use lib.ListN.{length, get_or, set, length-set}
use lib.Seq.{drop-cons, get_or-set_same, get_or-set_other}
use Rattle.tables.specs.Limits.{element_limit}
use Rattle.tables.specs.Lists.{first_of}
use Rattle.tables.specs.Records.{Element, Model, Version, Fixed, type_of, list_of}
use Rattle.deck.specs.Schema.{splittable_in}
use Rattle.merge_rules.specs.Pairing.{Action, merge_equal, Pair, NewItem, Plan, planned, pair_first, action_of, uses, first_used_twice}
use Rattle.pairing.specs.declared.plan.Sides.{Sides}
use Rattle.pairing.specs.Plans.{spread, row_element, row_value, plan_in, level_plan, or_used_twice, checked_plan, plan_level, RowsIn}
use Rattle.pairing.specs.Walks.{first_children, second_children, walk_on, WorkRoom, Ranged, Laid, Alone}
use Rattle.pairing.proofs.Laws.Laying.{laid-level}
use Rattle.pairing.proofs.Laws.Rows.{row-pair}
use Rattle.pairing.proofs.Laws.Steps.{child-small, child-ranged}
use Rattle.pairing.proofs.Laws.Uses.{keep-few}
use Rattle.pairing.proofs.Laws.Walks.{walk_none, on-equal}

-- the pair of a and b alone
abbrev pair_alone : Element → Element → Plan
pair_alone a b = record { restrictions = []; imports = []; pairs = record { a = a; b = b } ∷ [] }

module _ (a b : Element) where
  used-few : uses (pair_alone a b) b ≤ 1
  unfolding uses
  used-few =
      omega (arith, keep-few (λ (q : Pair). eqb q.b b) (pair_alone a b).pairs, keep-few (λ (i : NewItem). eqb i.element b) (pair_alone a b).imports)

  none-twice : first_used_twice (pair_alone a b) (b ∷ []) ≡ none
  unfolding first_used_twice first_of
  none-twice = rw (first_of, le-ltb 1 (uses (pair_alone a b) b) used-few)

  used-once : checked_plan (b ∷ []) (planned (pair_alone a b)) ≡ level_plan (pair_alone a b)
  unfolding checked_plan or_used_twice
  used-once = rw none-twice

walk-alone : (act : Element → Element → Action) (end : ℕ) (a b : Element) → act a b ≡ merge_equal
    → checked_plan (b ∷ []) (walk_on act end 0 (a ∷ []) (b ∷ []) []) ≡ level_plan (pair_alone a b)
unfolding pair_first
walk-alone act end a b e =
    ap (checked_plan (b ∷ [])) (on-equal act end 0 a b [] [] [] e ∙ ap (pair_first a b) (walk_none act end 1 (b ∷ []))) ∙ used-once a b

module _ (w : List ℕ) (b : Element) (h : 1 < length w) where
  mate-is : row_value (set w 1 (b + 1)) 0 ≡ b + 1
  mate-is = get_or-set_same w 1 (b + 1) 0 h

  element-is : row_element (set w 1 (b + 1)) 0 ≡ row_element w 0
  element-is = get_or-set_other w 1 0 (b + 1) 0 (λ z. omega arith)

  row-alone : plan_in 1 0 (set w 1 (b + 1)) ≡ pair_alone (get_or w 0 0) b
  unfolding spread
  row-alone = row-pair (set w 1 (b + 1)) 1 0 0 b mate-is ∙ rw element-is

pub alone-ranged : (n : ℕ) (s : Sides) (w : List ℕ) → s.end - s.start ≡ 1 → WorkRoom s w 0 0 0 → Ranged n s w 0 → get_or w s.start 0 < n
alone-ranged n s w one room r =
    let e : s.start + 0 ≡ s.start = omega arith in
    rw e at (child-ranged n s w 0 0 0 0 room r (omega arith))

module _ (x : Fixed) (m : Model) (s : Sides) (w : List ℕ) (t : ℕ) (al : Alone x m t s w) where
  first-is : first_children s w ≡ get_or w 0 0 ∷ []
  unfolding spread
  first-is = rw al.first

  module _ (room : WorkRoom s w 0 0 0) where
    second_is : second_children s w ≡ get_or w s.start 0 ∷ []
    second_is =
        let long : s.start < length w = omega (arith, al.second, room.within) in
        rw (al.second, drop-cons w s.start 0 long)

    pub two_cells : 1 < length w
    two_cells = omega (arith, al.first, al.second, room.within, room.behind)

    pub child-alone : get_or w s.start 0 < element_limit
    child-alone =
        let e : s.start + 0 ≡ s.start = omega arith in
        rw e at (child-small s w 0 0 0 0 room (omega (arith, al.second)))

    pub rows-alone : (n : ℕ) → Ranged n s w 0 → RowsIn n (set w 1 (get_or w s.start 0 + 1)) 1 0
    rows-alone n r =
        let b = get_or w s.start 0 in
        let low : b < n = alone-ranged n s w al.second room r in
        let small : b < element_limit = child-alone in
        let long = length-set w 1 (b + 1) in
        record {
          room = omega (arith, two_cells);
          few = omega arith;
          element = λ i h. let z : i ≡ 0 = omega arith in rw (z, element-is w b two_cells) (r.rows.element 0 (omega (arith, al.first)));
          mate = λ i h. let z : i ≡ 0 = omega arith in rw (z, mate-is w b two_cells) (omega arith);
          place = λ i h. let z : i ≡ 0 = omega arith in rw (z, mate-is w b two_cells) (omega arith);
        }

  pub level-alone : (v : Version) (a b : Element) → Laid m a b s w → t ≡ type_of x a
      → level_plan (plan_in 1 0 (set w 1 (get_or w s.start 0 + 1))) ≡ plan_level x m v a b
  level-alone v a b l e =
      let act = action_of x m t (splittable_in x.schema t v) in
      let end = length (list_of m a) in
      let q = get_or w s.start 0 in
      let p = get_or w 0 0 in
      let rule : checked_plan (second_children s w) (walk_on (act (second_children s w)) end 0 (first_children s w) (second_children s w) []) ≡ level_plan (pair_alone p q) =
      rw (first-is, second_is l.room) (walk-alone (act (q ∷ [])) end p q (sym (al.equal (splittable_in x.schema t v) (q ∷ [])))) in
      ap level_plan (row-alone w q (two_cells l.room)) ∙ sym rule ∙ laid-level x m v a b s w t end (splittable_in x.schema t v) l e refl refl
