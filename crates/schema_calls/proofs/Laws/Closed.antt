-- Laws of schemas whose paths are closed: every proper beginning of a path has a group, so no path of an S row begins or is begun by another
-- unless they are equal. Assumes nothing.
use mathlib.Core.Bool.{Bool, true, false, not, ◌&&◌, ◌||◌, and-eq-true_iff, and-false, true≢false}
use mathlib.Core.List.{List, [], ◌∷◌}
use mathlib.Core.Option.{Option, none, some}
use mathlib.Core.Path.{◌≡◌, refl, sym, ap, subst, ◌∙◌}
use Prim.Native.Nat.{ℕ, ◌+◌, ◌<◌, compare, Ordering}
use native.Mathlib.Numerals.{add-one}
use native.Mathlib.Omega.{arith}
use borrow.Author.Tests.{eqb-true, eq-eqb, not-true}
use lib.Dec.{eqb}
use lib.ListN.{length, get_or}
use lib.Seq.{take-suc}
use Rattle.tables.specs.Cells.{Each}
use Rattle.tables.specs.Lists.{any_of, all_of, first_of}
use Rattle.tables.specs.Paths.{begins, path_order, same_path}
use Rattle.tables.specs.Records.{SchemaPath, TypeRow, Group, SubElement, File, Schema, type_row, add_type, add_group, add_sub_element, add_file}
use Rattle.tables.specs.SchemaTable.{no_sub_element}
use Rattle.tables.proofs.Laws.Cases.{bool-split}
use Rattle.tables.proofs.Laws.Cells.{each-imp, each_append}
use Rattle.tables.proofs.Laws.Scans.{all_head, all_tail, all_map, each-passes, passes-each, any_some, any_none, any-snoc-false, any-snoc-true}
use Rattle.deck.specs.Schema.{proper_beginnings, is_characters, declared_type, group_at, has_group, path_valid, group_rule, rows_meet, begins_group, sub_element_rule}
use Rattle.schema_calls.specs.Calls.{name_matches, path_matches, group_matches, rows_above, has_equal_row, GroupClosed, RowClosed, PathsClosed}

-- ---- equal paths

same_next : (a b : ℕ) (p q : SchemaPath) → same_path (a ∷ p) (b ∷ q) ≡ elim (eqb a b) [ true ↦ same_path p q | false ↦ false ]
unfolding same_path path_order
same_next a b p q = go (compare a b) refl
  where
    go : (o : Ordering) → compare a b ≡ o → same_path (a ∷ p) (b ∷ q) ≡ elim (eqb a b) [ true ↦ same_path p q | false ↦ false ]
    go Ordering.lt e = rw (e, same_path, path_order)
    go Ordering.eq e = rw (e, same_path, path_order)
    go Ordering.gt e = rw (e, same_path, path_order)

same_self : (p : SchemaPath) → same_path p p ≡ true
unfolding same_path path_order
same_self [] = refl
same_self (a ∷ p) = same_next a a p p ∙ rw (eq-eqb a a refl) (same_self p)

pub same-equal : (p q : SchemaPath) → same_path p q ≡ true → p ≡ q
unfolding same_path path_order
same-equal [] [] h = refl
same-equal [] (b ∷ q) h = absurd (true≢false (sym h))
same-equal (a ∷ p) [] h = absurd (true≢false (sym h))
same-equal (a ∷ p) (b ∷ q) h =
    bool-split (eqb a b) (λ e. rw (eqb-true a b e, same-equal p q (sym (same_next a b p q ∙ rw e) ∙ h))) (λ e. absurd (true≢false (sym h ∙ same_next a b p q ∙ rw e)))

begins-self : (p : SchemaPath) → begins p p ≡ true
unfolding begins
begins-self [] = refl
begins-self (a ∷ p) = rw (eq-eqb a a refl, begins) (begins-self p)

begins-first : (a b : ℕ) (p q : SchemaPath) → begins (a ∷ p) (b ∷ q) ≡ true → (a ≡ b) × (begins p q ≡ true)
unfolding begins
begins-first a b p q h =
    bool-split (eqb a b) (λ e. (eqb-true a b e, rw (e, begins) at h)) (λ e. absurd (true≢false (sym (rw (e, begins) at h))))

-- a path that begins one of which every proper beginning passes, and that does not pass itself, is that one
begins-only : (f : SchemaPath → Bool) (p q : SchemaPath) → 0 < length p → all_of f (proper_beginnings q) ≡ true → f p ≡ false → begins p q ≡ true → p ≡ q
unfolding begins proper_beginnings
begins-only f [] q part all fails h = absurd (omega arith)
begins-only f (a ∷ p) [] part all fails h = absurd (true≢false (sym h))
begins-only f (a ∷ []) (b ∷ []) part all fails h = let (e, _) = begins-first a b [] [] h in rw e
begins-only f (a ∷ []) (b ∷ (d ∷ q)) part all fails h =
    let (e, _) = begins-first a b [] (d ∷ q) h in
    absurd (true≢false (sym (all_head f (b ∷ []) _ all) ∙ rw e at fails))
begins-only f (a ∷ (c ∷ p)) (b ∷ []) part all fails h =
    let (_, rest) = begins-first a b (c ∷ p) [] h in
    absurd (true≢false (sym rest))
begins-only f (a ∷ (c ∷ p)) (b ∷ (d ∷ q)) part all fails h =
    let (e, rest) = begins-first a b (c ∷ p) (d ∷ q) h in
    let behind : SchemaPath → Bool = λ s. f (b ∷ s) in
    let pass : all_of behind (proper_beginnings (d ∷ q)) ≡ true = sym (all_map f (λ (s : SchemaPath). b ∷ s) (proper_beginnings (d ∷ q))) ∙ all_tail f (b ∷ []) _ all in
    λ i. e i ∷ begins-only behind (c ∷ p) (d ∷ q) (omega arith) pass (rw e at fails) rest i

same_not : (p q : SchemaPath) → same_path p q ≡ false → p ≡ q → ⊥
same_not p q h e = true≢false (sym (same_self p) ∙ ap (same_path p) e ∙ h)

begins-not : (f : SchemaPath → Bool) (p q : SchemaPath) → 0 < length p → all_of f (proper_beginnings q) ≡ true → f p ≡ false → (p ≡ q → ⊥) → begins p q ≡ false
begins-not f p q part all fails other = bool-split (begins p q) (λ h. absurd (other (begins-only f p q part all fails h))) (λ h. h)

-- ---- tests of a list

module _ {A : Type 0} (f g : A → Bool) where
  any-imp : ((a : A) → f a ≡ true → g a ≡ true) → (l : List A) → any_of f l ≡ true → any_of g l ≡ true
  unfolding any_of
  any-imp h [] k = k
  any-imp h (a ∷ l) k =
      bool-split (f a) (λ e. rw (h a e, any_of)) (λ e. bool-split (g a) (λ d. rw (d, any_of)) (λ d. rw (d, any_of) (any-imp h l (rw (e, any_of) at k))))

  all-imp : ((a : A) → f a ≡ true → g a ≡ true) → (l : List A) → all_of f l ≡ true → all_of g l ≡ true
  all-imp h l k = each-passes g l (each-imp (λ (a : A). f a ≡ true) (λ (a : A). g a ≡ true) l h (passes-each f l k))

  any_same : (l : List A) → Each (λ (a : A). f a ≡ g a) l → any_of f l ≡ any_of g l
  unfolding any_of
  any_same [] h = refl
  any_same (a ∷ l) h = λ i. elim (h.0 i) [ true ↦ true | false ↦ any_same l h.1 i ]

any-either : {A : Type 0} (f g : A → Bool) (l : List A) → any_of (λ (a : A). f a || g a) l ≡ (any_of f l || any_of g l)
unfolding any_of
any-either f g [] = refl
any-either f g (a ∷ l) = go (f a) (g a) (any_of f l) (any_of g l) (any-either f g l)
  where
    go : (b c k l : Bool) {m : Bool} → m ≡ (k || l)
        → ◌≡◌ {A = Bool} (elim (b || c) [ true ↦ true | false ↦ m ]) (elim b [ true ↦ true | false ↦ k ] || elim c [ true ↦ true | false ↦ l ])
    go true c k l e = refl
    go false true true l e = refl
    go false true false l e = refl
    go false false k l e = e

-- ---- groups

pub has-any : (sc : Schema) (t : ℕ) (p : SchemaPath) → has_group sc t p ≡ any_of (group_matches t p) sc.groups
unfolding has_group group_at
has-any sc t p = go (first_of (group_matches t p) sc.groups) refl
  where
    go : (o : Option Group) → first_of (group_matches t p) sc.groups ≡ o → has_group sc t p ≡ any_of (group_matches t p) sc.groups
    go none e = rw (has_group, group_at, e) (any_none (group_matches t p) sc.groups e)
    go (some g) e = rw (has_group, group_at, e) (any_some (group_matches t p) sc.groups e)

-- a group more takes none away
has_more : (sc : Schema) (g : Group) (t : ℕ) (p : SchemaPath) → has_group sc t p ≡ true → has_group (add_group sc g) t p ≡ true
unfolding add_group
has_more sc g t p h =
    let k : any_of (group_matches t p) sc.groups ≡ true = sym (has-any sc t p) ∙ h in
    has-any (add_group sc g) t p
    ∙ bool-split (group_matches t p g) (λ e. any-snoc-true (group_matches t p) g e sc.groups) (λ e. any-snoc-false (group_matches t p) g e sc.groups ∙ k)

-- a group at the row's path is one that it begins
has-begins : (sc : Schema) (r : SubElement) → has_group sc r.type r.path ≡ true → any_of (begins_group r) sc.groups ≡ true
unfolding begins_group
has-begins sc r h = any-imp (group_matches r.type r.path) (begins_group r) one sc.groups (sym (has-any sc r.type r.path) ∙ h)
  where
    one : (g : Group) → group_matches r.type r.path g ≡ true → begins_group r g ≡ true
    one g k =
        let (e, s) = (and-eq-true_iff (eqb g.type r.type) (same_path g.path r.path)).0 k in
        rw (e, same-equal g.path r.path s) (begins-self r.path)

-- ---- a row under closed paths: of paths that begin each other, only equal ones are left

-- every proper beginning of a valid path has a group
valid-beginnings : (sc : Schema) (t : ℕ) (p : SchemaPath) → path_valid sc t p ≡ true → all_of (has_group sc t) (proper_beginnings p) ≡ true
unfolding path_valid
valid-beginnings sc t p h =
    ((and-eq-true_iff (declared_type sc t && not (is_characters (type_row sc t).mode)) (all_of (has_group sc t) (proper_beginnings p))).0 h).1

module _ (sc : Schema) (r : SubElement) (part : 0 < length r.path) (free : has_group sc r.type r.path ≡ false) where
  -- the row's path begins no other one whose proper beginnings have groups
  begins-same : (t : ℕ) (q : SchemaPath) → t ≡ r.type → all_of (has_group sc t) (proper_beginnings q) ≡ true → begins r.path q ≡ same_path q r.path
  begins-same t q e h =
      bool-split (same_path q r.path)
      (λ s. rw (s, same-equal q r.path s) (begins-self r.path))
      (λ s. begins-not (has_group sc t) r.path q part h (rw e free) (λ d. same_not q r.path s (sym d)) ∙ sym s)

  group-begun : (g : Group) → GroupClosed sc g → begins_group r g ≡ group_matches r.type r.path g
  unfolding begins_group
  group-begun g h =
      bool-split (eqb g.type r.type) (λ e. rw e (begins-same g.type g.path (eqb-true g.type r.type e) h)) (λ e. rw e)

  row-met : all_of (has_group sc r.type) (proper_beginnings r.path) ≡ true → (a : SubElement) → RowClosed sc a
      → rows_meet r a ≡ (name_matches r.type r.name a || path_matches r.type r.path a)
  unfolding rows_meet
  row-met own a (parts, above, apart) =
      bool-split (eqb a.type r.type)
      (λ e. bool-split (eqb a.name r.name) (λ n. rw (e, n, rows_meet)) (λ n. rw (e, n, rows_meet) (path (eqb-true a.type r.type e))))
      (λ e. rw (e, rows_meet))
    where
      path : a.type ≡ r.type → elim (begins r.path a.path) [ true ↦ true | false ↦ begins a.path r.path ] ≡ same_path a.path r.path
      path e =
          let k = begins-same a.type a.path e above in
          bool-split (same_path a.path r.path)
          (λ s. rw (k ∙ s, s))
          (λ s. rw (k ∙ s) (begins-not (has_group sc r.type) a.path r.path parts own (rw (← e) apart) (same_not a.path r.path s) ∙ sym s))

module _ (sc : Schema) (r : SubElement) (closed : PathsClosed sc) (part : 0 < length r.path) (valid : path_valid sc r.type r.path ≡ true) where
  abbrev equals : SubElement → Bool
  equals a = name_matches r.type r.name a || path_matches r.type r.path a

  rows-equal : has_group sc r.type r.path ≡ false → any_of (rows_meet r) sc.sub_elements ≡ has_equal_row sc r
  rows-equal free =
      any_same (rows_meet r) equals sc.sub_elements
      (each-imp (RowClosed sc) (λ (a : SubElement). rows_meet r a ≡ equals a) sc.sub_elements
      (row-met sc r part free (valid-beginnings sc r.type r.path valid)) closed.rows_closed)
      ∙ any-either (name_matches r.type r.name) (path_matches r.type r.path) sc.sub_elements

  begins-none : has_group sc r.type r.path ≡ false → any_of (begins_group r) sc.groups ≡ false
  begins-none free =
      any_same (begins_group r) (group_matches r.type r.path) sc.groups
      (each-imp (GroupClosed sc) (λ (g : Group). begins_group r g ≡ group_matches r.type r.path g) sc.groups (group-begun sc r part free)
      closed.groups_closed)
      ∙ sym (has-any sc r.type r.path) ∙ free

  pub equal-rule : (not (any_of (rows_meet r) sc.sub_elements) && not (any_of (begins_group r) sc.groups))
      ≡ (not (has_equal_row sc r) && not (has_group sc r.type r.path))
  equal-rule =
      bool-split (has_group sc r.type r.path)
      (λ held. rw (has-begins sc r held, held) (and-false (not (any_of (rows_meet r) sc.sub_elements)) ∙ sym (and-false (not (has_equal_row sc r)))))
      (λ free. rw (rows-equal free, begins-none free, free))

-- ---- closed paths stay closed

-- no groups and no rows
pub closed_none : (sc : Schema) → sc.groups ≡ [] → sc.sub_elements ≡ [] → PathsClosed sc
closed_none sc e f =
    record { groups_closed = subst (Each (GroupClosed sc)) (sym e) tt; rows_closed = subst (Each (RowClosed sc)) (sym f) tt }

-- a row that its rule lets through
module _ (sc : Schema) (r : SubElement) (h : sub_element_rule sc r ≡ true) where
  pub rule-declared : (path_valid sc r.type r.path ≡ true) × (declared_type sc r.child_type ≡ true)
  unfolding sub_element_rule
  rule-declared =
      let (first, _) = (and-eq-true_iff _ (not (any_of (begins_group r) sc.groups))).0 h in
      let (two, _) = (and-eq-true_iff _ (not (any_of (rows_meet r) sc.sub_elements))).0 first in
      (and-eq-true_iff (path_valid sc r.type r.path) (declared_type sc r.child_type)).0 two

  rule-free : has_group sc r.type r.path ≡ false
  unfolding sub_element_rule
  rule-free =
      let before : Bool = path_valid sc r.type r.path && declared_type sc r.child_type && not (any_of (rows_meet r) sc.sub_elements) in
      let (_, last) = (and-eq-true_iff before (not (any_of (begins_group r) sc.groups))).0 h in
      bool-split (has_group sc r.type r.path)
      (λ e. absurd (true≢false (sym (has-begins sc r e) ∙ not-true (any_of (begins_group r) sc.groups) last)))
      (λ e. e)

module _ (sc : Schema) (closed : PathsClosed sc) where
  pub closed-type : (t : TypeRow) → PathsClosed (add_type sc t)
  unfolding add_type has_group group_at
  closed-type t = record { groups_closed = closed.groups_closed; rows_closed = closed.rows_closed }

  pub closed-file : (f : File) → PathsClosed (add_file sc f)
  unfolding add_file has_group group_at
  closed-file f = record { groups_closed = closed.groups_closed; rows_closed = closed.rows_closed }

  -- a group that its rule lets through, above all S rows
  pub closed-group : sc.sub_elements ≡ [] → (g : Group) → group_rule sc g ≡ true → PathsClosed (add_group sc g)
  unfolding add_group group_rule
  closed-group first g h =
      let (valid, _) = (and-eq-true_iff (path_valid sc g.type g.path) (not (has_group sc g.type g.path))).0 h in
      record {
        groups_closed =
            each_append (GroupClosed (add_group sc g)) sc.groups (g ∷ [])
            (each-imp (GroupClosed sc) (GroupClosed (add_group sc g)) sc.groups more closed.groups_closed)
            (more g (valid-beginnings sc g.type g.path valid), tt);
        rows_closed = subst (Each (RowClosed (add_group sc g))) (sym first) tt;
      }
    where
      more : (x : Group) → GroupClosed sc x → GroupClosed (add_group sc g) x
      more x k = all-imp (has_group sc x.type) (has_group (add_group sc g) x.type) (has_more sc g x.type) (proper_beginnings x.path) k

  pub closed-row : (r : SubElement) → 0 < length r.path → sub_element_rule sc r ≡ true → PathsClosed (add_sub_element sc r)
  unfolding add_sub_element has_group group_at
  closed-row r part h =
      record {
        groups_closed = closed.groups_closed;
        rows_closed =
            each_append (RowClosed sc) sc.sub_elements (r ∷ []) closed.rows_closed
            ((part, valid-beginnings sc r.type r.path (rule-declared sc r h).0, rule-free sc r h), tt);
      }

-- the rows of a table one by one
pub closed-above : (sc : Schema) (i : ℕ) → i < length sc.sub_elements → PathsClosed (rows_above sc i) → 0 < length (get_or sc.sub_elements i no_sub_element).path
    → sub_element_rule (rows_above sc i) (get_or sc.sub_elements i no_sub_element) ≡ true → PathsClosed (rows_above sc (i + 1))
unfolding rows_above add_sub_element
closed-above sc i within closed part h = subst PathsClosed next (closed-row (rows_above sc i) closed (get_or sc.sub_elements i no_sub_element) part h)
  where
    next : add_sub_element (rows_above sc i) (get_or sc.sub_elements i no_sub_element) ≡ rows_above sc (i + 1)
    next =
        ap (λ (rs : List SubElement). record { types = sc.types; groups = sc.groups; sub_elements = rs; files = sc.files })
        (sym (rw (add-one i) (take-suc sc.sub_elements i no_sub_element within)))
