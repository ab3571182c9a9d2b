-- T, G, S and F lines: the tests in their order, and what each line keeps. Assumes nothing.
use mathlib.Core.Bool.{Bool, true, false, false≢true}
use mathlib.Core.List.{List, [], ◌∷◌, ◌++◌}
use Rattle.std.specs.Prelude.{Ok}
use mathlib.Core.Path.{◌≡◌, refl, sym, ap, ◌∙◌}
use Prim.Native.Nat.{ℕ, ◌≤◌, ◌<◌}
use native.Mathlib.Omega.{arith}
use borrow.Author.Tests.{ltb-true, lt-ltb, le-ltb, le-leb, lt-leb, eq-eqb, ne_eqb}
use lib.Dec.{eqb, leb, ltb}
use lib.ListN.{length, length-append}
use Rattle.tables.specs.Limits.{type_limit, group_limit, row_limit, file_limit}
use Rattle.tables.specs.Lists.{any_of, all_of}
use Rattle.tables.specs.Records.{TypeNumber, TypeRow, Group, SubElement, File, Schema, add_type, add_group, add_sub_element, add_file}
use Rattle.tables.specs.SchemaTable.{schema_of, HoldsSchema}
use Rattle.tables.proofs.Laws.Cells.{each_append, each-imp}
use Rattle.deck.specs.Load.{Loading, Res, ok, refused, form, schema_rule, limit, kind_t, kind_g, kind_s, kind_f, need, ◌>>=◌, put_schema, load_t, load_g, load_s, load_f}
use Rattle.deck.specs.Schema.{group_rule, sub_element_rule}
use Rattle.schema_calls.specs.Calls.{groups_above, rows_above}
use Rattle.schema_calls.proofs.Laws.Closed.{closed-type, closed-file, closed-group, closed-row}
use Rattle.schema_calls.proofs.Laws.Rules.{child-declared}
use Rattle.schema_calls.proofs.Laws.Schemas.{groups-all, rows_all}
use Rattle.load.specs.Lines.{kind_number, loading_of, LoadingFits, GoodLoading, StepResult}
use Rattle.load.specs.declared.progress.Progress.{Progress}
use Rattle.load.specs.declared.progress.Kind.{Kind}
use Rattle.load.proofs.Laws.Results.{passes, fails}
use Rattle.load.proofs.Laws.Steps.{line_taken}
use Rattle.load.proofs.Laws.Taken.{taken_more}

-- ---- T

module _ (l : Loading) (t : TypeNumber) (row : TypeRow) where
  pub t-late : kind_t < l.latest → load_t l t row ≡ refused form
  unfolding load_t need ◌>>=◌
  t-late h = rw (lt-leb l.latest kind_t h)

  pub t-order : l.latest ≤ kind_t → (t ≡ length l.schema.types → ⊥) → load_t l t row ≡ refused form
  unfolding load_t need ◌>>=◌
  t-order h n = rw (le-leb l.latest kind_t h, ne_eqb t (length l.schema.types) n)

  pub t-limit : l.latest ≤ kind_t → t ≡ length l.schema.types → type_limit ≤ t → load_t l t row ≡ refused limit
  unfolding load_t need ◌>>=◌
  t-limit h e k = rw (le-leb l.latest kind_t h, eq-eqb t (length l.schema.types) e, le-ltb t type_limit k)

  pub t-taken : l.latest ≤ kind_t → t ≡ length l.schema.types → t < type_limit
      → load_t l t row ≡ ok (put_schema l kind_t (add_type l.schema row))
  unfolding load_t need ◌>>=◌
  t-taken h e k = rw (le-leb l.latest kind_t h, eq-eqb t (length l.schema.types) e, lt-ltb t type_limit k)

-- ---- G and S: a row in the order of the kinds, below its limit, by its rule

module _ (l : Loading) (kind count most : ℕ) (rule : Bool) (sc : Schema) where
  unfoldable pub ruled_row : Res Loading
  ruled_row = do
    _ ← need form (leb l.latest kind)
    _ ← need limit (ltb count most)
    _ ← need schema_rule rule
    ok (put_schema l kind sc)

  pub row-late : kind < l.latest → ruled_row ≡ refused form
  unfolding ruled_row
  row-late h = fails _ _ (lt-leb l.latest kind h)

  module _ (early : l.latest ≤ kind) where
    pub row-limit : most ≤ count → ruled_row ≡ refused limit
    unfolding ruled_row
    row-limit h = passes _ _ (le-leb l.latest kind early) (fails _ _ (le-ltb count most h))

    pub row-broken : count < most → rule ≡ false → ruled_row ≡ refused schema_rule
    unfolding ruled_row
    row-broken h r = passes _ _ (le-leb l.latest kind early) (passes _ _ (lt-ltb count most h) (fails _ _ r))

    pub row-taken : count < most → rule ≡ true → ruled_row ≡ ok (put_schema l kind sc)
    unfolding ruled_row
    row-taken h r = passes _ _ (le-leb l.latest kind early) (passes _ _ (lt-ltb count most h) (passes _ _ r refl))

pub g-row : (l : Loading) (g : Group)
    → load_g l g ≡ ruled_row l kind_g (length l.schema.groups) group_limit (group_rule l.schema g) (add_group l.schema g)
unfolding load_g ruled_row
g-row l g = refl

pub s-row : (l : Loading) (r : SubElement)
    → load_s l r ≡ ruled_row l kind_s (length l.schema.sub_elements) row_limit (sub_element_rule l.schema r) (add_sub_element l.schema r)
unfolding load_s ruled_row
s-row l r = refl

-- a rule over all that is above the end
pub group-rule-is : (sc : Schema) (n : ℕ) (g : Group) (r b : Bool) → n ≡ length sc.groups → r ≡ group_rule (groups_above sc n) g → r ≡ b
    → group_rule sc g ≡ b
group-rule-is sc n g r b e h k = ap (λ (above : Schema). group_rule above g) (sym (groups-all sc n e)) ∙ sym h ∙ k

pub row-rule-is : (sc : Schema) (n : ℕ) (a : SubElement) (r b : Bool) → n ≡ length sc.sub_elements → r ≡ sub_element_rule (rows_above sc n) a → r ≡ b
    → sub_element_rule sc a ≡ b
row-rule-is sc n a r b e h k = ap (λ (above : Schema). sub_element_rule above a) (sym (rows_all sc n e)) ∙ sym h ∙ k

-- ---- F

module _ (l : Loading) (d : File) where
  abbrev below : Bool
  below = all_of (λ (above : File). ltb above.file d.file) l.schema.files

  pub f-late : kind_f < l.latest → load_f l d ≡ refused form
  unfolding load_f need ◌>>=◌
  f-late h = rw (lt-leb l.latest kind_f h)

  pub f-order : l.latest ≤ kind_f → below ≡ false → load_f l d ≡ refused form
  unfolding load_f need ◌>>=◌
  f-order h e = rw (le-leb l.latest kind_f h, e)

  pub f-taken : l.latest ≤ kind_f → below ≡ true → load_f l d ≡ ok (put_schema l kind_f (add_file l.schema d))
  unfolding load_f need ◌>>=◌
  f-taken h e = rw (le-leb l.latest kind_f h, e)

-- a number above all others is new
pub below_new : {A : Type 0} (number : A → ℕ) (n : ℕ) (l : List A) → all_of (λ (a : A). ltb (number a) n) l ≡ true
    → any_of (λ (a : A). eqb (number a) n) l ≡ false
unfolding all_of any_of
below_new number n [] h = refl
below_new {A = A} number n (x ∷ l) h = go (ltb (number x) n) refl h (below_new number n l)
  where
    go : (b : Bool) → ltb (number x) n ≡ b → ◌≡◌ {A = Bool} (elim b [ true ↦ all_of (λ (a : A). ltb (number a) n) l | false ↦ false ]) true
        → (all_of (λ (a : A). ltb (number a) n) l ≡ true → any_of (λ (a : A). eqb (number a) n) l ≡ false)
        → any_of (λ (a : A). eqb (number a) n) (x ∷ l) ≡ false
    go true e k rest = rw (ne_eqb (number x) n (λ z. omega (arith, ltb-true (number x) n e)), any_of) (rest k)
    go false e k rest = absurd (false≢true k)

-- ---- what each line keeps

module _ (l : Loading) (f : LoadingFits l) where
  pub fits-type : (row : TypeRow) → l.latest ≤ kind_t → LoadingFits (put_schema l kind_t (add_type l.schema row))
  unfolding put_schema add_type
  fits-type row h =
      let more : length l.schema.types ≤ length (l.schema.types ++ (row ∷ [])) =
      rw (length-append l.schema.types (row ∷ [])) (omega arith)
      in
      record {
        same = f.same;
        opened = f.opened;
        known =
            each-imp (λ (t : TypeNumber). t < length l.schema.types) (λ (t : TypeNumber). t < length (l.schema.types ++ (row ∷ []))) l.elements.types
            (λ t h. omega arith) f.known;
        children =
            each-imp (λ (r : SubElement). r.child_type < length l.schema.types) (λ (r : SubElement). r.child_type < length (l.schema.types ++ (row ∷ [])))
            l.schema.sub_elements (λ r h. omega arith) f.children;
        texts = f.texts;
        files = f.files;
        one_line = f.one_line;
        one_tree = f.one_tree;
        closed = closed-type l.schema f.closed row;
        early = λ k. f.early (omega arith);
      }

  pub fits-group : (g : Group) → l.latest ≤ kind_g → group_rule l.schema g ≡ true → LoadingFits (put_schema l kind_g (add_group l.schema g))
  unfolding put_schema add_group
  fits-group g h rule =
      record {
        same = f.same;
        opened = f.opened;
        known = f.known;
        children = f.children;
        texts = f.texts;
        files = f.files;
        one_line = f.one_line;
        one_tree = f.one_tree;
        closed = closed-group l.schema f.closed (f.early h) g rule;
        early = λ k. f.early h;
      }

  pub fits-row : (r : SubElement) → 0 < length r.path → sub_element_rule l.schema r ≡ true → LoadingFits (put_schema l kind_s (add_sub_element l.schema r))
  unfolding put_schema add_sub_element
  fits-row r part rule =
      record {
        same = f.same;
        opened = f.opened;
        known = f.known;
        children = each_append (λ (a : SubElement). a.child_type < length l.schema.types) l.schema.sub_elements (r ∷ []) f.children (child-declared l.schema r rule, tt);
        texts = f.texts;
        files = f.files;
        one_line = f.one_line;
        one_tree = f.one_tree;
        closed = closed-row l.schema f.closed r part rule;
        early = λ k. absurd (omega arith);
      }

  pub fits-file : (d : File) → d.file < file_limit → any_of (λ (a : File). eqb a.file d.file) l.schema.files ≡ false
      → LoadingFits (put_schema l kind_f (add_file l.schema d))
  unfolding put_schema add_file
  fits-file d h new =
      record {
        same = f.same;
        opened = f.opened;
        known = f.known;
        children = f.children;
        texts = f.texts;
        files = each_append (λ (a : File). a.file < file_limit) l.schema.files (d ∷ []) f.files (h, tt);
        one_line = taken_more (λ (a : File). a.file) file_limit l.schema.files d h new f.one_line;
        one_tree = f.one_tree;
        closed = closed-file l.schema f.closed d;
        early = λ k. absurd (omega arith);
      }

-- ---- the schema's table holds what the line adds

abbrev after_kind : Progress → Kind → Progress
after_kind p kind = record { latest = kind; seen = p.seen; due = p.due; depth = p.depth; above = p.above }

put-schema : (p : Progress) (kind : Kind) (schema schema' elements model : List ℕ) (sc : Schema) → schema_of schema' ≡ sc
    → loading_of (after_kind p kind) schema' elements model ≡ put_schema (loading_of p schema elements model) (kind_number kind) sc
unfolding put_schema
put-schema p kind schema schema' elements model sc e = rw e

pub step-schema : {p q : Progress} {schema schema' elements model : List ℕ} {o : Res Loading} (kind : Kind) (sc : Schema)
    → q ≡ after_kind p kind → GoodLoading p schema elements model → HoldsSchema schema' sc
    → LoadingFits (put_schema (loading_of p schema elements model) (kind_number kind) sc)
    → o ≡ ok (put_schema (loading_of p schema elements model) (kind_number kind) sc)
    → StepResult p (Ok q) schema' elements model o
step-schema {p} {q} {schema} {schema'} {elements} {model} {o} kind sc told g h fits is =
    line_taken (put_schema (loading_of p schema elements model) (kind_number kind) sc) told
    (put-schema p kind schema schema' elements model sc h.is)
    g.depth g.room h.good g.good_elements g.good_model fits is
