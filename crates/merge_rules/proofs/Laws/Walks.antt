-- What the plan of a level holds. Assumes nothing.
use mathlib.Core.Bool.{Bool, ◌&&◌, and-eq-true_iff}
use mathlib.Core.List.{List, [], ◌∷◌, ◌++◌, map}
use mathlib.Core.Option.{Option, none, some}
use mathlib.Core.Path.{◌≡◌, sym}
use Prim.Native.Nat.{ℕ, zero, suc, Ordering}
use native.Mathlib.Omega.{arith}
use borrow.Author.Tests.{eqb-true, ltb-false}
use lib.Dec.{eqb, ltb}
use Rattle.tables.specs.Lists.{any_of}
use Rattle.tables.specs.Paths.{path_order}
use Rattle.tables.specs.Records.{Element, TypeNumber, Version, Model, Fixed, name_of, type_of}
use Rattle.tables.proofs.Laws.Cases.{bool_case}
use Rattle.deck.specs.Schema.{splittable_in}
use Rattle.merge_rules.specs.Pairing.{children_of, element_text, identifiable, item_name, definition, same_key, same_texts, Action, merge_equal, merge_unequal, a_only, b_only, unmergeable_parent, sibling, calc_identifiables_merge, calc_element_merge, path_of, action_by_path, action_of, Pair, NewItem, Plan, Walked, planned, unmergeable_in, restrict_first, import_first, pair_first, import_unpaired, left_over_a, left_over_b, walk, walk_level, uses, first_used_twice}
use Rattle.merge_rules.specs.Sound.{In, Once, once-nil, once-cons}
use Rattle.merge_rules.proofs.Laws.Cases.{option-case}
use Rattle.merge_rules.proofs.Laws.Lists.{each_nil, each-cons, Within, within-cons, within_more, within_both, within-head, within-tail, within-append, first_of-some, first_of-none, once-head, once-tail, once-of, occurrences-append, occurrences-map}

-- the elements that a list imports, and those that pairs name
abbrev pub imported : List NewItem → List Element
imported l = map (λ (i : NewItem). i.element) l

abbrev pub paired_a : List Pair → List Element
paired_a l = map (λ (q : Pair). q.a) l

abbrev pub paired_b : List Pair → List Element
paired_b l = map (λ (q : Pair). q.b) l

-- a plan over these children of A and B
pub record PlanFits (x : Fixed) (as' bs : List Element) (p : Plan) : Type 0 where
  pub restrictions : Within p.restrictions as'
  pub imports : Within (imported p.imports) bs
  pub pairs_a : Within (paired_a p.pairs) as'
  pub pairs_b : Within (paired_b p.pairs) bs
  pub once_a : Once as' → Once (paired_a p.pairs)
  pub names : (q : Pair) → In q p.pairs → name_of x q.a ≡ name_of x q.b

-- a walk plans over these children, or finds no plan
pub data WalkFits (x : Fixed) (as' bs : List Element) : Walked → Type 0 where
  is_planned : {p : Plan} → PlanFits x as' bs p → WalkFits x as' bs (planned p)
  is_unmergeable : WalkFits x as' bs unmergeable_in

-- a choice by whether there is a plan
pub walked-case : {A : Type 0} (P : A → Type 0) {x : Fixed} {as' bs : List Element} {w : Walked} {u : Plan → A} {v : A} → WalkFits x as' bs w
    → ((p : Plan) → PlanFits x as' bs p → P (u p)) → P v → P (elim w [ planned p ↦ u p | unmergeable_in ↦ v ])
walked-case P (is_planned {p} f) h k = h p f
walked-case P is_unmergeable h k = k

-- ---- one step

-- what an action may name, with these cursor children and the children of B
data ActionFits (x : Fixed) (bs : List Element) (a b : Element) : Action → Type 0 where
  equal : name_of x a ≡ name_of x b → ActionFits x bs a b merge_equal
  unequal : {c : Element} → In c bs → name_of x a ≡ name_of x c → ActionFits x bs a b (merge_unequal c)
  only_a : ActionFits x bs a b a_only
  only_b : ActionFits x bs a b b_only
  neither : ActionFits x bs a b unmergeable_parent

sibling-fits : (x : Fixed) (key : Element → Option (List ℕ)) (bs : List Element) (a : Element) {c : Element}
    → sibling x key bs a ≡ some c → In c bs × (name_of x a ≡ name_of x c)
unfolding sibling
sibling-fits x key bs a {c} h =
    let (k, i) = first_of-some (λ (b : Element). eqb (name_of x b) (name_of x a) && same_key (key b) (key a)) bs h in
    (i, sym (eqb-true _ _ ((and-eq-true_iff (eqb (name_of x c) (name_of x a)) _).0 k).0))

module _ (x : Fixed) (m : Model) (bs : List Element) (a b : Element) where
  identifiables-fit : (splittable : Bool) → name_of x a ≡ name_of x b → ActionFits x bs a b (calc_identifiables_merge x m splittable bs a b)
  unfolding calc_identifiables_merge
  identifiables-fit splittable h =
      bool_case (ActionFits x bs a b) (same_key (item_name x m a) (item_name x m b)) (λ _. equal h)
      (λ _.
      option-case (ActionFits x bs a b) (sibling x (item_name x m) bs a)
      (λ _. bool_case (ActionFits x bs a b) splittable (λ _. only_a) (λ _. neither))
      (λ c k. let (i, n) = sibling-fits x (item_name x m) bs a k in unequal i n))

  elements-fit : name_of x a ≡ name_of x b → ActionFits x bs a b (calc_element_merge x m bs a b)
  unfolding calc_element_merge
  elements-fit h =
      bool_case (ActionFits x bs a b) (same_key (definition x m a) (definition x m b))
      (λ _. bool_case (ActionFits x bs a b) (same_texts x (element_text x m a) (element_text x m b)) (λ _. equal h) (λ _. only_a))
      (λ _.
      option-case (ActionFits x bs a b) (sibling x (definition x m) bs a) (λ _. only_a)
      (λ c k. let (i, n) = sibling-fits x (definition x m) bs a k in unequal i n))

  path-fits : (t : TypeNumber) → ActionFits x bs a b (action_by_path x t a b)
  unfolding action_by_path
  path-fits t = go (path_order (path_of x t (name_of x a)) (path_of x t (name_of x b)))
    where
      go : (o : Ordering) → ActionFits x bs a b (elim o [ Ordering.lt ↦ a_only | Ordering.eq ↦ b_only | Ordering.gt ↦ b_only ])
      go Ordering.lt = only_a
      go Ordering.eq = only_b
      go Ordering.gt = only_b

  action-fits : (t : TypeNumber) (splittable : Bool) → ActionFits x bs a b (action_of x m t splittable bs a b)
  unfolding action_of
  action-fits t splittable =
      bool_case (ActionFits x bs a b) (eqb (name_of x a) (name_of x b))
      (λ h.
      bool_case (ActionFits x bs a b) (identifiable x m a) (λ _. identifiables-fit splittable (eqb-true _ _ h))
      (λ _. elements-fit (eqb-true _ _ h)))
      (λ _. path-fits t)

-- ---- the walk

module _ (x : Fixed) (all : List Element) where
  restrict-fits : {a : Element} {as' : List Element} {w : Walked} → WalkFits x as' all w → WalkFits x (a ∷ as') all (restrict_first a w)
  unfolding restrict_first
  restrict-fits (is_planned h) =
      is_planned
      (record {
        restrictions = within_both h.restrictions;
        imports = h.imports;
        pairs_a = within_more h.pairs_a;
        pairs_b = h.pairs_b;
        once_a = λ once. h.once_a (once-tail once);
        names = h.names;
      })
  restrict-fits is_unmergeable = is_unmergeable

  import-fits : {b : Element} (at : ℕ) {as' : List Element} {w : Walked} → In b all → WalkFits x as' all w → WalkFits x as' all (import_first b at w)
  unfolding import_first
  import-fits at within (is_planned h) =
      is_planned
      (record {
        restrictions = h.restrictions;
        imports = within-cons within h.imports;
        pairs_a = h.pairs_a;
        pairs_b = h.pairs_b;
        once_a = h.once_a;
        names = h.names;
      })
  import-fits at within is_unmergeable = is_unmergeable

  pair_fits : {a b : Element} {as' : List Element} {w : Walked} → In b all → name_of x a ≡ name_of x b → WalkFits x as' all w
      → WalkFits x (a ∷ as') all (pair_first a b w)
  unfolding pair_first
  pair_fits {a} {b} within same (is_planned h) =
      is_planned
      (record {
        restrictions = within_more h.restrictions;
        imports = h.imports;
        pairs_a = within_both h.pairs_a;
        pairs_b = within-cons within h.pairs_b;
        once_a = λ once. once-cons (λ i. once-head once (h.pairs_a a i)) (h.once_a (once-tail once));
        names = each-cons (λ (q : Pair). name_of x q.a ≡ name_of x q.b) same h.names;
      })
  pair_fits within same is_unmergeable = is_unmergeable

  unpaired-fits : (paired : List Element) {b : Element} (at : ℕ) {as' : List Element} {w : Walked} → In b all → WalkFits x as' all w
      → WalkFits x as' all (import_unpaired paired b at w)
  unfolding import_unpaired
  unpaired-fits paired {b} at {as'} within h =
      bool_case (WalkFits x as' all) (any_of (eqb b) paired) (λ _. h) (λ _. import-fits at within h)

  empty-fits : (as' : List Element) → WalkFits x as' all (planned (record { restrictions = []; imports = []; pairs = [] }))
  empty-fits as' =
      is_planned
      (record {
        restrictions = each_nil _;
        imports = each_nil _;
        pairs_a = each_nil _;
        pairs_b = each_nil _;
        once_a = λ _. once-nil;
        names = each_nil _;
      })

  left_over_a-fits : (as' : List Element) → WalkFits x as' all (left_over_a as')
  unfolding left_over_a
  left_over_a-fits [] = empty-fits []
  left_over_a-fits (a ∷ as') = restrict-fits (left_over_a-fits as')

  left_over_b-fits : (end : ℕ) (paired as' bs : List Element) → Within bs all → WalkFits x as' all (left_over_b end paired bs)
  unfolding left_over_b
  left_over_b-fits end paired as' [] within = empty-fits as'
  left_over_b-fits end paired as' (b ∷ bs) within =
      unpaired-fits paired end (within-head within) (left_over_b-fits end paired as' bs (within-tail within))

  action-case : (P : Walked → Type 0) {a b : Element} {o : Action} {u v w z : Walked} {k : Element → Walked} → ActionFits x all a b o
      → (name_of x a ≡ name_of x b → P u) → ((c : Element) → In c all → name_of x a ≡ name_of x c → P (k c)) → P v → P w → P z
      → P (elim o [ merge_equal ↦ u | merge_unequal c ↦ k c | a_only ↦ v | b_only ↦ w | unmergeable_parent ↦ z ])
  action-case P (equal h) e f g i j = e h
  action-case P (unequal h k) e f g i j = f _ h k
  action-case P only_a e f g i j = g
  action-case P only_b e f g i j = i
  action-case P neither e f g i j = j

  walk-fits : (act : Element → Element → Action) → ((a b : Element) → ActionFits x all a b (act a b)) → (end n index : ℕ) (as' bs paired : List Element)
      → Within bs all → WalkFits x as' all (walk act end n index as' bs paired)
  unfolding walk
  walk-fits act fits end zero index as' bs paired within = left_over_a-fits as'
  walk-fits act fits end (suc n) index [] bs paired within = left_over_b-fits end paired [] bs within
  walk-fits act fits end (suc n) index (a ∷ as') [] paired within = left_over_a-fits (a ∷ as')
  walk-fits act fits end (suc n) index (a ∷ as') (b ∷ bs) paired within =
      action-case (WalkFits x (a ∷ as') all) (fits a b)
      (λ h.
      pair_fits (within-head within) h (walk-fits act fits end n (suc index) as' bs (b ∷ paired) (within-tail within)))
      (λ c i h. pair_fits i h (walk-fits act fits end n (suc index) as' (b ∷ bs) (c ∷ paired) within))
      (restrict-fits (walk-fits act fits end n (suc index) as' (b ∷ bs) paired within))
      (unpaired-fits paired index (within-head within) (walk-fits act fits end n index (a ∷ as') bs paired (within-tail within)))
      is_unmergeable

-- a level's walk plans over its children
pub level-fits : (x : Fixed) (m : Model) (v : Version) (pa pb : Element)
    → WalkFits x (children_of m pa) (children_of m pb) (walk_level x m v pa pb)
unfolding walk_level
level-fits x m v pa pb =
    walk-fits x (children_of m pb) _ (λ a b. action-fits x m (children_of m pb) a b (type_of x pa) (splittable_in x.schema (type_of x pa) v)) _ _ 0
    (children_of m pa) (children_of m pb) [] (λ e i. i)

-- ---- no B child used twice

-- where no child of B is used twice, none is
pub used-once : {x : Fixed} {as' bs : List Element} {p : Plan} → PlanFits x as' bs p → first_used_twice p bs ≡ none
    → Once (imported p.imports ++ paired_b p.pairs)
unfolding first_used_twice uses
used-once {bs} {p} h none-twice =
    once-of (imported p.imports ++ paired_b p.pairs)
    (λ e i.
    let among : In e bs = within-append h.imports h.pairs_b e i in
    omega (
      arith,
      ltb-false 1 (uses p e) (first_of-none (λ (b : Element). ltb 1 (uses p b)) bs none-twice e among),
      occurrences-append e (imported p.imports) (paired_b p.pairs),
      occurrences-map (λ (q : Pair). q.b) e p.pairs,
      occurrences-map (λ (i : NewItem). i.element) e p.imports,
    ))
