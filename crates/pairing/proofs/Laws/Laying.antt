-- The children of both sides copied into the scratch slice, and levels with no child of B. Assumes nothing.
use mathlib.Core.List.{List, [], ◌∷◌, ◌++◌}
use mathlib.Core.Bool.{Bool}
use mathlib.Core.Path.{◌≡◌, refl, sym, ap, ◌∙◌}
use Prim.Native.Nat.{ℕ, zero, suc, ◌+◌, ◌-◌, ◌*◌, ◌≤◌, ◌<◌}
use native.Mathlib.Omega.{arith}
use borrow.Rule.Slice.PartMut.{mid_of, put_mid, same_len_mid, take_put}
use lib.ListN.{length, get_or, take, drop}
use lib.Seq.{length-take-le, take-append-le, drop_at}
use Rattle.tables.specs.Limits.{item_limit}
use Rattle.tables.specs.Lists.{first_of}
use Rattle.tables.specs.ModelTable.{count_of, model_of, ItemBelow, GoodModel}
use Rattle.tables.specs.Records.{Element, Item, child, text, Model, Version, Fixed, type_of, list_of}
use Rattle.tables.proofs.Laws.ModelTable.{start-room, item-below}
use Rattle.deck.specs.Schema.{splittable_in}
use Rattle.merge_rules.specs.Pairing.{children, children_of, action_of, planned, restrict_first, left_over_a, walk, walk_level, first_used_twice}
use Rattle.pairing.specs.declared.plan.Sides.{Sides}
use Rattle.pairing.specs.Actions.{Listed}
use Rattle.pairing.specs.Plans.{spread, row_element, row_value, restriction_in, pair_in, plan_in, level_plan, or_used_twice, checked_plan, plan_level, CopiedRows}
use Rattle.pairing.specs.Walks.{first_children, second_children, walk_on, Laid}
use Rattle.pairing.proofs.Laws.Children.{Copied}
use Rattle.pairing.proofs.Laws.Rows.{restricted, not-mated, elements_same, get_d-first, front_at}
use Rattle.pairing.proofs.Laws.Spreads.{spread_none, spread_same, length-singles}
use Rattle.pairing.proofs.Laws.Walks.{no_plan, no_second}

-- ---- children of a good table

length-children : (l : List Item) → length (children l) ≤ length l
unfolding children
length-children [] = omega arith
length-children (child e ∷ l) = omega (arith, length-children l)
length-children (text t ∷ l) = omega (arith, length-children l)

children-listed : (n : ℕ) (l : List Item) → ((i : ℕ) → i < length l → ItemBelow n (get_or l i (child 0))) → Listed n (children l)
unfolding children
children-listed n [] h i k = absurd (omega arith)
children-listed n (child e ∷ l) h zero k = h 0 (omega arith)
children-listed n (child e ∷ l) h (suc i) k = children-listed n l (λ m q. h (suc m) (omega arith)) i (omega arith)
children-listed n (text t ∷ l) h i k = children-listed n l (λ m q. h (suc m) (omega arith)) i k

module _ (xs : List ℕ) (good : GoodModel xs) (e : Element) where
  pub length-children_of : length (children_of (model_of xs) e) ≤ length (list_of (model_of xs) e)
  unfolding children_of
  length-children_of = length-children (list_of (model_of xs) e)

  pub children_of-listed : Listed (count_of (model_of xs)) (children_of (model_of xs) e)
  unfolding children_of
  children_of-listed = children-listed (count_of (model_of xs)) (list_of (model_of xs) e) (item-below xs good e)

  pub list-few : e < count_of (model_of xs) → length (list_of (model_of xs) e) ≤ item_limit
  list-few h = omega (arith, start-room xs good e h, good.sized.total)

  pub rows_few_lem : (w : List ℕ) (r : ℕ) → CopiedRows 2 w r (children_of (model_of xs) e) → r ≤ length (list_of (model_of xs) e)
  rows_few_lem w r c = omega (arith, length-singles (row_element w) 0 r, ap length c.is, length-children_of)

-- ---- both lists copied

module _ (w part : List ℕ) (start : ℕ) (fits : start ≤ length w) where
  abbrev both : List ℕ
  both = put_mid start (length w - start) w part

  front_same : (c : ℕ) → c < start → get_or both c 0 ≡ get_or w c 0
  front_same = front_at start w both (take_put start (length w - start) w part fits)

  back-same : (n : ℕ) → n ≤ length part → take n (drop start both) ≡ take n part
  back-same n h =
      ap (take n) (drop_at (take start w) (part ++ _) start (length-take-le start w fits)) ∙ take-append-le n part _ h

module _ (xs : List ℕ) (good : GoodModel xs) (a b : Element) (ha : a < count_of (model_of xs)) (hb : b < count_of (model_of xs)) where
  pub laid : (w part : List ℕ) (rows lb n : ℕ) → CopiedRows 2 w rows (children_of (model_of xs) a) → lb ≡ length (list_of (model_of xs) b)
      → Copied part n (children_of (model_of xs) b) → length part ≡ length (mid_of (2 * (rows + lb)) (length w - 2 * (rows + lb)) w)
      → 2 * length (list_of (model_of xs) a) + 5 * length (list_of (model_of xs) b) ≤ length w
      → Laid (model_of xs) a b (record { rows = rows; start = 2 * (rows + lb); end = 2 * (rows + lb) + n })
      (put_mid (2 * (rows + lb)) (length w - 2 * (rows + lb)) w part)
  laid w part rows lb n first same second size big =
      let m = model_of xs in
      let start = 2 * (rows + lb) in
      let s : Sides = record { rows = rows; start = start; end = start + n } in
      let na : rows ≡ length (children_of m a) = sym (length-singles (row_element w) 0 rows) ∙ ap length first.is in
      let nb : n ≡ length (children_of m b) = sym (length-take-le n part second.within) ∙ ap length second.is in
      let la = length-children_of xs good a in
      let lc = length-children_of xs good b in
      let fits : start ≤ length w = omega arith in
      let w' = both w part start fits in
      let long : length w' ≡ length w = same_len_mid start (length w - start) w part size in
      let front = front_same w part start fits in
      let e : start + n - start ≡ n = omega arith in
      let f : first_children s w' ≡ children_of m a = elements_same w w' rows (λ i h. front (2 * i) (omega arith)) ∙ first.is in
      let t : second_children s w' ≡ children_of m b = rw e (back-same w part start fits n second.within ∙ second.is) in
      let zero : (i : ℕ) → i < rows → row_value w' i ≡ 0 = λ i h. front (2 * i + 1) (omega arith) ∙ first.empty i 1 h (omega arith) (omega arith) in
      record {
        first = f;
        second = t;
        room =
            record {
              first = omega arith;
              second = omega arith;
              new = omega arith;
              behind = omega arith;
              within = omega arith;
              few_first = omega (arith, list-few xs good a ha);
              few_second = omega (arith, list-few xs good b hb);
              small = λ i h. rw t (omega (arith, children_of-listed xs good b i (rw (← t) h), good.sized.count));
              unpaired = λ i h k. zero i k;
            };
        ranged =
            record {
              rows =
                  record {
                    room = omega arith;
                    few = omega (arith, list-few xs good a ha);
                    element = λ i h.
                        rw (← get_d-first s w' i (omega arith), f) (children_of-listed xs good a i (omega arith));
                    mate = λ i h. omega (arith, zero i h);
                    place = λ i h. omega (arith, zero i (omega arith));
                  };
              second = rw t (children_of-listed xs good b);
            };
      }

-- ---- no child of B

left_over : (as' : List Element) → left_over_a as' ≡ planned (record { restrictions = as'; imports = []; pairs = [] })
unfolding left_over_a restrict_first
left_over [] = refl
left_over (a ∷ as') = rw (left_over as')

module _ (x : Fixed) (m : Model) (v : Version) (a b : Element) where
  pub level-first : children_of m b ≡ [] → plan_level x m v a b ≡ level_plan (record { restrictions = children_of m a; imports = []; pairs = [] })
  unfolding plan_level walk_level checked_plan or_used_twice first_used_twice first_of
  level-first e =
      rw (e, no_second (action_of x m (type_of x a) (splittable_in x.schema (type_of x a) v) []) (length (list_of m a)) (length (children_of m a) + 0) 0 (children_of m a) [], left_over (children_of m a))

  -- two empty content lists
  pub level-none : list_of m a ≡ [] → list_of m b ≡ [] → plan_level x m v a b ≡ level_plan no_plan
  unfolding children_of children
  level-none ea eb = level-first (rw eb) ∙ rw ea

  pub walk-level-none : list_of m a ≡ [] → list_of m b ≡ [] → walk_level x m v a b ≡ planned no_plan
  unfolding walk_level children_of children walk left_over_a
  walk-level-none ea eb = rw (walk_level, ea, eb)

  -- the plan of rows with no mate
  pub laid-first : (s : Sides) (w : List ℕ) → Laid m a b s w → s.end ≡ s.start → level_plan (plan_in s.rows 0 w) ≡ plan_level x m v a b
  unfolding spread
  laid-first s w l e =
      let none : s.end - s.start ≡ 0 = omega arith in
      let bs : children_of m b ≡ [] = sym l.second ∙ rw none in
      let r : spread (restriction_in w) 0 s.rows ≡ children_of m a =
      spread_same (restriction_in w) (λ (i : ℕ). row_element w i ∷ []) 0 s.rows
      (λ i h k. restricted (row_element w i) (row_value w i) (l.room.unpaired i (omega arith) (omega arith)))
      ∙ l.first in
      let q : spread (pair_in w) 0 s.rows ≡ [] =
      spread_none (pair_in w) 0 s.rows
      (λ i h k. not-mated (row_element w i) (row_value w i) (l.room.unpaired i (omega arith) (omega arith))) in
      rw (r, q) (sym (level-first bs))

  -- the walk is that of the level
  pub laid-level : (s : Sides) (w : List ℕ) (t end : ℕ) (splittable : Bool) → Laid m a b s w → t ≡ type_of x a → splittable ≡ splittable_in x.schema t v → end ≡ length (list_of m a)
      → checked_plan (second_children s w) (walk_on (action_of x m t splittable (second_children s w)) end 0 (first_children s w) (second_children s w) []) ≡ plan_level x m v a b
  unfolding plan_level walk_level
  laid-level s w t end splittable l p q r = rw (q, r, p, l.first, l.second)
