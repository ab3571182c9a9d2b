-- Document 01, "Pairing, `calc_identifiables_merge`, `calc_element_merge`". Assumes nothing.
use Rattle.std.specs.Prelude.{Bool, true, false, ◌&&◌, List, [], ◌∷◌, ℕ, zero, suc, ◌+◌, eqb, ltb, length}
use Rattle.std.proofs.Math.Option.{Option, none, some}
use Prim.Native.Nat.{Ordering}
use Rattle.tables.specs.Lists.{any_of, first_of, keep, same_list}
use Rattle.tables.specs.Paths.{path_order}
use Rattle.tables.specs.Records.{Element, Name, TypeNumber, Version, SchemaPath, Text, enum_number, string, whole_number, float, Item, child, text, Model, Fixed, type_row, name_of, type_of, text_of, list_of}
use Rattle.tables.specs.Texts.{bytes_at, same_text}
use Rattle.deck.specs.Schema.{row_of_name, splittable_in, short_name, definition_ref}

-- ---- what is compared

-- Children are the elements of a content list, texts skipped.
unfoldable pub children : List Item → List Element
children [] = []
children (child e ∷ is) = e ∷ children is
children (text t ∷ is) = children is

unfoldable pub children_of : Model → Element → List Element
children_of m e = children (list_of m e)

unfoldable pub string_of : Fixed → Text → Option (List ℕ)
string_of x (enum_number n) = none
string_of x (string p) = some (bytes_at x.deck p)
string_of x (whole_number n) = none
string_of x (float b) = none

-- Its text is its only content item, if that is a text.
unfoldable pub sole_text : Fixed → List Item → Option Text
sole_text x [] = none
sole_text x (child e ∷ is) = none
sole_text x (text t ∷ []) = some (text_of x t)
sole_text x (text t ∷ i ∷ is) = none

unfoldable pub element_text : Fixed → Model → Element → Option Text
element_text x m e = sole_text x (list_of m e)

-- the element's sole string, or missing
unfoldable pub sole_string : Fixed → Model → Element → Option (List ℕ)
sole_string x m e = elim (element_text x m e) [ none ↦ none | some t ↦ string_of x t ]

-- the SHORT-NAME that is its first content
unfoldable pub leading_short_name : Fixed → List Item → Option Element
leading_short_name x [] = none
leading_short_name x (child e ∷ is) = elim (eqb (name_of x e) short_name) [ true ↦ some e | false ↦ none ]
leading_short_name x (text t ∷ is) = none

-- An element is identifiable if its type is named and its first content is a SHORT-NAME;
unfoldable pub identifier : Fixed → Model → Element → Option Element
identifier x m e =
    elim (type_row x.schema (type_of x e)).named [ true ↦ leading_short_name x (list_of m e) | false ↦ none ]

unfoldable pub identifiable : Fixed → Model → Element → Bool
identifiable x m e = elim (identifier x m e) [ none ↦ false | some n ↦ true ]

-- its item name is that element's sole string, or missing.
unfoldable pub item_name : Fixed → Model → Element → Option (List ℕ)
item_name x m e = elim (identifier x m e) [ none ↦ none | some n ↦ sole_string x m n ]

-- its first DEFINITION-REF child
unfoldable pub definition_child : Fixed → Model → Element → Option Element
definition_child x m e = first_of (λ (c : Element). eqb (name_of x c) definition_ref) (children_of m e)

-- Its definition is the string of its first DEFINITION-REF child, or missing.
unfoldable pub definition : Fixed → Model → Element → Option (List ℕ)
definition x m e = elim (definition_child x m e) [ none ↦ none | some d ↦ sole_string x m d ]

-- Two missing ones are equal.
unfoldable pub same_key : Option (List ℕ) → Option (List ℕ) → Bool
same_key none none = true
same_key none (some b) = false
same_key (some a) none = false
same_key (some a) (some b) = same_list a b

unfoldable pub same_texts : Fixed → Option Text → Option Text → Bool
same_texts x none none = true
same_texts x none (some b) = false
same_texts x (some a) none = false
same_texts x (some a) (some b) = same_text x.deck a b

-- ---- one step of the cursors

-- both cursors; A with a B sibling; A only; B only; refusal 6 with the A parent
pub data Action : Type 0 where
  merge_equal : Action
  merge_unequal : Element → Action
  a_only : Action
  b_only : Action
  unmergeable_parent : Action

-- the first B sibling of A's name and key
unfoldable pub sibling : Fixed → (Element → Option (List ℕ)) → List Element → Element → Option Element
sibling x key bs a = first_of (λ (b : Element). eqb (name_of x b) (name_of x a) && same_key (key b) (key a)) bs

-- equal item names pair; else the first B sibling of A's name and item name is paired and only A advances;
-- if none, A-only where the parent is splittable in the version, else refusal 6 with the A parent.
unfoldable pub calc_identifiables_merge : Fixed → Model → Bool → List Element → Element → Element → Action
calc_identifiables_merge x m splittable bs a b =
    elim (same_key (item_name x m a) (item_name x m b)) [
      | true ↦ merge_equal
      | false ↦
          elim (sibling x (item_name x m) bs a) [
            | none ↦ elim splittable [ true ↦ a_only | false ↦ unmergeable_parent ]
            | some c ↦ merge_unequal c
          ]
    ]

-- equal definitions pair if the texts are equal, else A-only;
-- different definitions pair A with the first B sibling of A's name and definition, else A-only.
unfoldable pub calc_element_merge : Fixed → Model → List Element → Element → Element → Action
calc_element_merge x m bs a b =
    elim (same_key (definition x m a) (definition x m b)) [
      | true ↦ elim (same_texts x (element_text x m a) (element_text x m b)) [ true ↦ merge_equal | false ↦ a_only ]
      | false ↦ elim (sibling x (definition x m) bs a) [ none ↦ a_only | some c ↦ merge_unequal c ]
    ]

-- the path of a name, whatever its mask
unfoldable pub path_of : Fixed → TypeNumber → Name → SchemaPath
path_of x t n = elim (row_of_name x.schema t n) [ none ↦ [] | some r ↦ r.path ]

-- names differ: smaller A path means A-only, else B-only
unfoldable pub action_by_path : Fixed → TypeNumber → Element → Element → Action
action_by_path x t a b =
    elim (path_order (path_of x t (name_of x a)) (path_of x t (name_of x b))) [
      | Ordering.lt ↦ a_only
      | Ordering.eq ↦ b_only
      | Ordering.gt ↦ b_only
    ]

unfoldable pub action_of : Fixed → Model → TypeNumber → Bool → List Element → Element → Element → Action
action_of x m t splittable bs a b =
    elim (eqb (name_of x a) (name_of x b)) [
      | true ↦
          elim (identifiable x m a) [
            | true ↦ calc_identifiables_merge x m splittable bs a b
            | false ↦ calc_element_merge x m bs a b
          ]
      | false ↦ action_by_path x t a b
    ]

-- ---- the walk

pub record Pair : Type 0 where
  pub a : Element
  pub b : Element

pub record NewItem : Type 0 where
  pub element : Element
  pub position : ℕ

-- A-only elements, the B-only list, and the pairs, each in the order made
pub record Plan : Type 0 where
  pub restrictions : List Element
  pub imports : List NewItem
  pub pairs : List Pair

pub data Walked : Type 0 where
  planned : Plan → Walked
  unmergeable_in : Walked

unfoldable pub restrict_first : Element → Walked → Walked
restrict_first a (planned p) = planned (record { restrictions = a ∷ p.restrictions; imports = p.imports; pairs = p.pairs })
restrict_first a unmergeable_in = unmergeable_in

unfoldable pub import_first : Element → ℕ → Walked → Walked
import_first b at (planned p) =
    planned (record { restrictions = p.restrictions; imports = record { element = b; position = at } ∷ p.imports; pairs = p.pairs })
import_first b at unmergeable_in = unmergeable_in

unfoldable pub pair_first : Element → Element → Walked → Walked
pair_first a b (planned p) =
    planned (record { restrictions = p.restrictions; imports = p.imports; pairs = record { a = a; b = b } ∷ p.pairs })
pair_first a b unmergeable_in = unmergeable_in

-- B-only skips a child already paired.
unfoldable pub import_unpaired : List Element → Element → ℕ → Walked → Walked
import_unpaired paired b at w =
    elim (any_of (eqb b) paired) [ true ↦ w | false ↦ import_first b at w ]

-- Left-over A is A-only;
unfoldable pub left_over_a : List Element → Walked
left_over_a [] = planned (record { restrictions = []; imports = []; pairs = [] })
left_over_a (a ∷ as') = restrict_first a (left_over_a as')

-- left-over unpaired B is B-only at A's content length.
unfoldable pub left_over_b : ℕ → List Element → List Element → Walked
left_over_b end paired [] = planned (record { restrictions = []; imports = []; pairs = [] })
left_over_b end paired (b ∷ bs) = import_unpaired paired b end (left_over_b end paired bs)

-- With a cursor child on each side, the A child at this index among children. Each step passes a child: the first number bounds the steps.
unfoldable pub walk : (Element → Element → Action) → ℕ → ℕ → ℕ → List Element → List Element → List Element → Walked
walk act end zero index as' bs paired = left_over_a as'
walk act end (suc n) index [] bs paired = left_over_b end paired bs
walk act end (suc n) index (a ∷ as') [] paired = left_over_a (a ∷ as')
walk act end (suc n) index (a ∷ as') (b ∷ bs) paired =
    elim (act a b) [
      | merge_equal ↦ pair_first a b (walk act end n (suc index) as' bs (b ∷ paired))
      | merge_unequal c ↦ pair_first a c (walk act end n (suc index) as' (b ∷ bs) (c ∷ paired))
      | a_only ↦ restrict_first a (walk act end n (suc index) as' (b ∷ bs) paired)
      | b_only ↦ import_unpaired paired b index (walk act end n index (a ∷ as') bs paired)
      | unmergeable_parent ↦ unmergeable_in
    ]

-- the walk over the children of an A and a B parent
unfoldable pub walk_level : Fixed → Model → Version → Element → Element → Walked
walk_level x m v pa pb =
    let t = type_of x pa in
    let as' = children_of m pa in
    let bs = children_of m pb in
    walk (action_of x m t (splittable_in x.schema t v) bs) (length (list_of m pa)) (length as' + length bs) 0 as' bs []

-- ---- a B child used twice

unfoldable pub uses : Plan → Element → ℕ
uses p b =
    length (keep (λ (q : Pair). eqb q.b b) p.pairs) + length (keep (λ (i : NewItem). eqb i.element b) p.imports)

-- A B child used twice (two pairs, or paired and imported): the first one
unfoldable pub first_used_twice : Plan → List Element → Option Element
first_used_twice p bs = first_of (λ (b : Element). ltb 1 (uses p b)) bs
