-- Laws of the schema rules, test by test. Assumes nothing.
use mathlib.Core.Bool.{Bool, true, false, not, ◌&&◌}
use mathlib.Core.Path.{◌≡◌, refl, sym, ap, ◌∙◌}
use Prim.Native.Nat.{ℕ, ◌≤◌, ◌<◌}
use native.Mathlib.Omega.{arith}
use borrow.Author.Tests.{ltb-true}
use lib.ListN.{length, get_or, take}
use Rattle.tables.specs.Lists.{any_of, all_of}
use Rattle.tables.specs.Records.{SchemaPath, Mode, sequence, choice, bag, mixed, characters, SubElement, Schema, type_row}
use Rattle.tables.specs.SchemaTable.{mode_number, no_sub_element}
use Rattle.deck.specs.Schema.{proper_beginnings, is_characters, declared_type, group_at, has_group, path_valid, sub_element_rule}
use Rattle.schema_calls.specs.Calls.{name_matches, path_matches, groups_above, rows_above, has_equal_row, PathsClosed}
use Rattle.schema_calls.specs.Search.{any_below}
use Rattle.schema_calls.proofs.Laws.Schemas.{groups-all}
use Rattle.schema_calls.proofs.Laws.Closed.{equal-rule, rule-declared}
use Rattle.schema_calls.proofs.Laws.Search.{any-first}

-- ---- mode 4

characters-is : (m : Mode) → mode_number m ≡ 4 → is_characters m ≡ true
unfolding mode_number is_characters
characters-is sequence e = absurd (omega arith)
characters-is choice e = absurd (omega arith)
characters-is bag e = absurd (omega arith)
characters-is mixed e = absurd (omega arith)
characters-is characters e = refl

characters-not : (m : Mode) → (mode_number m ≡ 4 → ⊥) → is_characters m ≡ false
unfolding mode_number is_characters
characters-not sequence n = refl
characters-not choice n = refl
characters-not bag n = refl
characters-not mixed n = refl
characters-not characters n = absurd (n refl)

-- ---- the path of a row

module _ (sc : Schema) (n t : ℕ) (p : SchemaPath) {b : Bool} (e : b ≡ declared_type sc t) where
  pub declared-below : b ≡ true → t < length sc.types
  unfolding declared_type
  declared-below h = ltb-true t (length sc.types) (sym e ∙ h)

  pub path-undeclared : b ≡ false → false ≡ path_valid (groups_above sc n) t p
  unfolding path_valid groups_above declared_type
  path-undeclared h = rw (sym e ∙ h)

  module _ (declared : b ≡ true) {m : ℕ} (k : m ≡ mode_number (type_row sc t).mode) where
    pub path-characters : m ≡ 4 → false ≡ path_valid (groups_above sc n) t p
    unfolding path_valid groups_above declared_type
    path-characters h = rw (sym e ∙ declared, characters-is (type_row sc t).mode (sym k ∙ h))

    pub path-beginnings : (m ≡ 4 → ⊥) → {r : Bool} → r ≡ all_of (has_group (groups_above sc n) t) (proper_beginnings p) → r ≡ path_valid (groups_above sc n) t p
    unfolding path_valid groups_above declared_type
    path-beginnings h w = rw (sym e ∙ declared, characters-not (type_row sc t).mode (λ z. h (k ∙ z))) w

-- ---- S rows

-- a row above with the name, or with the path
module _ (sc : Schema) (r : SubElement) (n : ℕ) (h : n ≤ length sc.sub_elements) {a : Bool}
    (named : a ≡ any_below (λ (i : ℕ). name_matches r.type r.name (get_or sc.sub_elements i no_sub_element)) n) where
  name-above : any_of (name_matches r.type r.name) (take n sc.sub_elements) ≡ a
  name-above = sym (any-first (name_matches r.type r.name) no_sub_element sc.sub_elements n h named)

  pub equal-named : a ≡ true → a ≡ has_equal_row (rows_above sc n) r
  unfolding rows_above
  equal-named e = rw (name-above ∙ e) e

  pub equal-path : a ≡ false → {b : Bool} → b ≡ any_below (λ (i : ℕ). path_matches r.type r.path (get_or sc.sub_elements i no_sub_element)) n
      → b ≡ has_equal_row (rows_above sc n) r
  unfolding rows_above
  equal-path e k = rw (name-above ∙ e) (any-first (path_matches r.type r.path) no_sub_element sc.sub_elements n h k)

-- an S row's path is valid by the groups alone
path-rows : (sc : Schema) (m t : ℕ) (p : SchemaPath) → path_valid sc t p ≡ path_valid (rows_above sc m) t p
unfolding path_valid rows_above declared_type has_group group_at
path-rows sc m t p = refl

-- and all groups are above it
has_all : (sc : Schema) (n m t : ℕ) (p : SchemaPath) → n ≡ length sc.groups → has_group (groups_above sc n) t p ≡ has_group (rows_above sc m) t p
unfolding rows_above has_group group_at
has_all sc n m t p e = ap (λ (s : Schema). has_group s t p) (groups-all sc n e)

path-all : (sc : Schema) (n m t : ℕ) (p : SchemaPath) → n ≡ length sc.groups → path_valid (groups_above sc n) t p ≡ path_valid (rows_above sc m) t p
path-all sc n m t p e = ap (λ (s : Schema). path_valid s t p) (groups-all sc n e) ∙ path-rows sc m t p

module _ (sc : Schema) (m : ℕ) (r : SubElement) (n : ℕ) (all : n ≡ length sc.groups) {s : Bool} (e : s ≡ path_valid (groups_above sc n) r.type r.path) where
  valid : path_valid (rows_above sc m) r.type r.path ≡ s
  valid = sym (e ∙ path-all sc n m r.type r.path all)

  pub sub-path-invalid : s ≡ false → false ≡ sub_element_rule (rows_above sc m) r
  unfolding sub_element_rule
  sub-path-invalid h = rw (valid ∙ h)

  module _ (hs : s ≡ true) {d : Bool} (ed : d ≡ declared_type sc r.child_type) where
    child : declared_type (rows_above sc m) r.child_type ≡ d
    unfolding rows_above declared_type
    child = sym ed

    pub sub-child-not : d ≡ false → false ≡ sub_element_rule (rows_above sc m) r
    unfolding sub_element_rule
    sub-child-not h = rw (valid ∙ hs, child ∙ h)

    module _ (hd : d ≡ true) (closed : PathsClosed (rows_above sc m)) (part : 0 < length r.path) {k : Bool}
        (ek : k ≡ has_equal_row (rows_above sc m) r) where
      equal-above : sub_element_rule (rows_above sc m) r ≡ (not k && not (has_group (rows_above sc m) r.type r.path))
      unfolding sub_element_rule
      equal-above = rw (valid ∙ hs, child ∙ hd, ek) (equal-rule (rows_above sc m) r closed part (valid ∙ hs))

      pub sub-meets : k ≡ true → false ≡ sub_element_rule (rows_above sc m) r
      sub-meets h = sym (equal-above ∙ rw h)

      pub sub-group : k ≡ false → {j : Bool} → j ≡ has_group (groups_above sc n) r.type r.path → not j ≡ sub_element_rule (rows_above sc m) r
      sub-group h ej = sym (equal-above ∙ rw (h, ej, has_all sc n m r.type r.path all))

-- a row that the rule lets through has a declared child type
pub child-declared : (sc : Schema) (r : SubElement) → sub_element_rule sc r ≡ true → r.child_type < length sc.types
unfolding declared_type
child-declared sc r h = ltb-true r.child_type (length sc.types) (rule-declared sc r h).1
