-- Laws of the schema rules row by row: each row meets its rule by the rows above it. Assumes nothing.
use mathlib.Core.Bool.{Bool, true, false, true≢false}
use mathlib.Core.List.{List, [], ◌∷◌, ◌++◌, append_assoc, append-nil}
use mathlib.Core.Path.{◌≡◌, refl, sym, ap, subst, ◌∙◌}
use Prim.Native.Nat.{ℕ, ◌+◌, ◌≤◌, ◌<◌}
use native.Mathlib.Numerals.{add-one}
use lib.ListN.{length, get_or, take, drop}
use lib.Seq.{take-suc}
use Rattle.tables.specs.Records.{SchemaPath, Mult, Group, SubElement, Schema, add_group, add_sub_element}
use Rattle.deck.specs.Schema.{declared_type, group_at, has_group, path_valid, group_rule, sub_element_rule}
use Rattle.schema_calls.specs.Calls.{groups_above, rows_above, PathsClosed}
use Rattle.schema_calls.proofs.Laws.Closed.{closed_none, closed-group}
use Rattle.state_test.specs.StateTest.{groups_valid, rows_valid, types_alone, without_rows, schema_valid}
use Rattle.tables.proofs.Laws.Scans.{drop-next, drop-end}

-- ---- rows of one kind

-- the rule of a row by the schema above it; the schema with one row more, and with these rows alone; the test of all rows
pub record RowRules (A : Type 0) : Type 0 where
  pub rule : Schema → A → Bool
  pub add : Schema → A → Schema
  pub with : Schema → List A → Schema
  pub valid : Schema → List A → Bool
  pub none : (sc : Schema) → valid sc [] ≡ true
  pub more : (sc : Schema) (a : A) (l : List A) → valid sc (a ∷ l) ≡ elim (rule sc a) [ true ↦ valid (add sc a) l | false ↦ false ]
  pub added : (sc : Schema) (l : List A) (a : A) → add (with sc l) a ≡ with sc (l ++ (a ∷ []))

module _ {A : Type 0} (q : RowRules A) where
  fails : (sc : Schema) (a : A) (l : List A) → q.rule sc a ≡ false → q.valid sc (a ∷ l) ≡ false
  fails sc a l e = q.more sc a l ∙ rw e

  meets : (sc : Schema) (a : A) (l : List A) → q.rule sc a ≡ true → q.valid sc (a ∷ l) ≡ q.valid (q.add sc a) l
  meets sc a l e = q.more sc a l ∙ rw e

  valid-first : (sc : Schema) (a : A) (l : List A) → q.valid sc (a ∷ l) ≡ true → (q.rule sc a ≡ true) × (q.valid (q.add sc a) l ≡ true)
  valid-first sc a l h = by (q.rule sc a) refl
    where
      by : (b : Bool) → q.rule sc a ≡ b → (q.rule sc a ≡ true) × (q.valid (q.add sc a) l ≡ true)
      by true e = (e, sym (meets sc a l e) ∙ h)
      by false e = absurd (true≢false (sym h ∙ fails sc a l e))

  -- one row more
  pub valid-snoc : (sc : Schema) (k l : List A) (a : A) → q.valid (q.with sc k) l ≡ true → q.rule (q.with sc (k ++ l)) a ≡ true
      → q.valid (q.with sc k) (l ++ (a ∷ [])) ≡ true
  valid-snoc sc k [] a h r = meets (q.with sc k) a [] (rw append-nil at r) ∙ q.none (q.add (q.with sc k) a)
  valid-snoc sc k (b ∷ l) a h r =
      let (first, rest) = valid-first (q.with sc k) b l h in
      meets (q.with sc k) b (l ++ (a ∷ [])) first
      ∙ rw (q.added sc k b) (valid-snoc sc (k ++ (b ∷ [])) l a (rw (q.added sc k b) at rest) (rw append_assoc r))

  -- what no rule looks at may change
  pub valid-other : (f : Schema → Schema) → ((sc : Schema) (a : A) → q.rule (f sc) a ≡ q.rule sc a)
      → ((sc : Schema) (a : A) → q.add (f sc) a ≡ f (q.add sc a)) → (sc : Schema) (l : List A) → q.valid sc l ≡ true → q.valid (f sc) l ≡ true
  valid-other f same adds sc [] h = q.none (f sc)
  valid-other f same adds sc (a ∷ l) h =
      let (first, rest) = valid-first sc a l h in
      meets (f sc) a l (same sc a ∙ first) ∙ rw (adds sc a) (valid-other f same adds (q.add sc a) l rest)

  -- row i tested, the rows before it passed; r the answer for it
  module _ (sc : Schema) (l : List A) (d : A) (i : ℕ) {v : Bool} (inv : q.valid (q.with sc (take i l)) (drop i l) ≡ v) where
    module _ (h : i < length l) {r : Bool} (is : r ≡ q.rule (q.with sc (take i l)) (get_or l i d)) where
      pub valid-stop : r ≡ false → false ≡ v
      valid-stop n = sym (rw (drop-next l i d h) (fails _ _ _ (sym is ∙ n))) ∙ inv

      pub valid-more : r ≡ true → q.valid (q.with sc (take (i + 1) l)) (drop (i + 1) l) ≡ v
      valid-more n =
          let one : q.add (q.with sc (take i l)) (get_or l i d) ≡ q.with sc (take (i + 1) l) = q.added sc (take i l) _ ∙ ap (q.with sc) (sym (rw (add-one i) (take-suc l i d h))) in
          ap (λ (s : Schema). q.valid s (drop (i + 1) l)) (sym one) ∙ sym (meets _ _ _ (sym is ∙ n)) ∙ rw (← drop-next l i d h) inv

    pub valid-end : length l ≤ i → true ≡ v
    valid-end h = sym (rw (drop-end l i h) (q.none _)) ∙ inv

-- ---- G rows

pub groups-valid-more : (sc : Schema) (g : Group) (l : List Group)
    → groups_valid sc (g ∷ l) ≡ elim (group_rule sc g) [ true ↦ groups_valid (add_group sc g) l | false ↦ false ]
unfolding groups_valid
groups-valid-more sc g l = refl

pub groups-valid-none : (sc : Schema) → groups_valid sc [] ≡ true
unfolding groups_valid
groups-valid-none sc = refl

-- the schema with these groups and no S row
abbrev pub with_groups : Schema → List Group → Schema
with_groups sc gs = record { types = sc.types; groups = gs; sub_elements = []; files = sc.files }

pub with-group : (sc : Schema) (l : List Group) (g : Group) → add_group (with_groups sc l) g ≡ with_groups sc (l ++ (g ∷ []))
unfolding add_group
with-group sc l g = refl

abbrev pub group_rules : RowRules Group
group_rules =
    record { rule = group_rule; add = add_group; with = with_groups; valid = groups_valid; none = groups-valid-none; more = groups-valid-more; added = with-group }

-- the rule of a G row looks at types and groups only
pub group-rule-above : (sc : Schema) (i : ℕ) (g : Group) → group_rule (groups_above sc i) g ≡ group_rule (with_groups sc (take i sc.groups)) g
unfolding group_rule path_valid declared_type has_group group_at groups_above
group-rule-above sc i g = refl

-- a G row by its fields as they are read
pub group-is : (g : Group) {t : ℕ} {p : SchemaPath} → t ≡ g.type → p ≡ g.path → record { type = t; path = p; mode = g.mode } ≡ g
group-is g a b = λ j. record { type = a j; path = b j; mode = g.mode }

-- the paths stay closed with the G rows that meet their rule
groups-closed : (sc : Schema) (k l : List Group) → PathsClosed (with_groups sc k) → groups_valid (with_groups sc k) l ≡ true → PathsClosed (with_groups sc (k ++ l))
groups-closed sc k [] closed h = rw append-nil closed
groups-closed sc k (g ∷ l) closed h =
    let (first, rest) = valid-first group_rules (with_groups sc k) g l h in
    rw (← append_assoc k (g ∷ []) l)
    (groups-closed sc (k ++ (g ∷ [])) l (subst PathsClosed (with-group sc k g) (closed-group (with_groups sc k) closed refl g first)) (rw (with-group sc k g) at rest))

pub closed-groups : (sc : Schema) → groups_valid (types_alone sc) sc.groups ≡ true → PathsClosed (rows_above sc 0)
unfolding rows_above
closed-groups sc h = groups-closed sc [] sc.groups (closed_none (types_alone sc) refl refl) h

-- ---- S rows

pub rows-valid-more : (sc : Schema) (r : SubElement) (l : List SubElement)
    → rows_valid sc (r ∷ l) ≡ elim (sub_element_rule sc r) [ true ↦ rows_valid (add_sub_element sc r) l | false ↦ false ]
unfolding rows_valid
rows-valid-more sc r l = refl

pub rows-valid-none : (sc : Schema) → rows_valid sc [] ≡ true
unfolding rows_valid
rows-valid-none sc = refl

-- the schema with these S rows
abbrev pub with_rows : Schema → List SubElement → Schema
with_rows sc rs = record { types = sc.types; groups = sc.groups; sub_elements = rs; files = sc.files }

pub with_row : (sc : Schema) (l : List SubElement) (r : SubElement) → add_sub_element (with_rows sc l) r ≡ with_rows sc (l ++ (r ∷ []))
unfolding add_sub_element
with_row sc l r = refl

abbrev pub sub_element_rules : RowRules SubElement
sub_element_rules =
    record { rule = sub_element_rule; add = add_sub_element; with = with_rows; valid = rows_valid; none = rows-valid-none; more = rows-valid-more; added = with_row }

pub row-rule-above : (sc : Schema) (i : ℕ) (r : SubElement) → sub_element_rule (rows_above sc i) r ≡ sub_element_rule (with_rows sc (take i sc.sub_elements)) r
unfolding rows_above
row-rule-above sc i r = refl

-- an S row by its fields as they are read
pub row-fields : (r : SubElement) {t n c k : ℕ} {p : SchemaPath} {m : Mult} → t ≡ r.type → p ≡ r.path → n ≡ r.name → c ≡ r.child_type → m ≡ r.mult → k ≡ r.mask
    → record { type = t; path = p; name = n; child_type = c; mult = m; mask = k } ≡ r
row-fields r a b n c m k =
    λ j. record { type = a j; path = b j; name = n j; child_type = c j; mult = m j; mask = k j }

-- ---- both

module _ (sc : Schema) where
  pub schema-stop : groups_valid (types_alone sc) sc.groups ≡ false → false ≡ schema_valid sc
  unfolding schema_valid
  schema-stop e = rw (schema_valid, e)

  pub schema-last : groups_valid (types_alone sc) sc.groups ≡ true → {r : Bool} → r ≡ rows_valid (without_rows sc) sc.sub_elements → r ≡ schema_valid sc
  unfolding schema_valid
  schema-last e g = g ∙ rw (schema_valid, e)
