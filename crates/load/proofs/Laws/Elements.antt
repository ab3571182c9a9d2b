-- E lines: what they give, and what stays of the lines so far. Assumes nothing.
use mathlib.Core.Bool.{Bool, true, false, ◌&&◌, ◌||◌}
use mathlib.Core.List.{List, [], ◌∷◌, ◌++◌}
use mathlib.Core.Option.{Option, none, some}
use Rattle.std.specs.Prelude.{Ok}
use mathlib.Core.Path.{◌≡◌, refl, sym, ap, ◌∙◌, subst}
use Prim.Native.Nat.{ℕ, ◌+◌, ◌≤◌, ◌<◌}
use native.Mathlib.Omega.{arith}
use borrow.Author.Tests.{le-leb, lt-leb, lt-ltb, le-ltb, ltb-true, eq-eqb, ne_eqb}
use lib.Dec.{eqb, leb, ltb}
use lib.ListN.{length, get_or, take, set, length-append, length-set}
use lib.Seq.{length-take-le, take-take}
use Rattle.tables.specs.Cells.{Each}
use Rattle.tables.specs.Limits.{element_limit, depth_limit, item_limit}
use Rattle.tables.specs.Records.{Element, Name, TypeNumber, FileSet, SubElement, child, Elements, Model, add_element, add_to_model, content_items}
use Rattle.tables.specs.ElementsTable.{elements_of, SizedElements, HoldsElements}
use Rattle.tables.specs.ModelTable.{count_of, model_of, GoodModel, HoldsModel}
use Rattle.tables.specs.SchemaTable.{schema_of, no_sub_element}
use Rattle.deck.specs.Load.{Loading, Res, ok, refused, schema_rule, tree_rule, limit, put_content, owner, root_set_rule, set_rule, next_element, append, load_root, load_child, load_e}
use Rattle.deck.specs.Schema.{declared_type, row_of_name}
use Rattle.load.specs.Lines.{open_limit, kind_number, loading_of, LoadingFits, GoodLoading, StepResult}
use Rattle.load.specs.declared.progress.Progress.{Progress}
use Rattle.tables.proofs.Laws.Cells.{each_append, each-imp, each-get_d, each_take}
use Rattle.tables.proofs.Laws.Model.{count_add, total-add}
use Rattle.deck.proofs.Laws.Load.{owner-within, append-added, count-append, total-append}
use Rattle.load.proofs.Laws.Above.{opened-at, owner-element}
use Rattle.load.proofs.Laws.Steps.{line_taken}
use Rattle.load.proofs.Laws.Results.{passes, fails, finds, misses}

-- ---- an item at the end of a list

-- the table after an element came takes its item
pub item-requires : (xs ys : List ℕ) (q : Option Element) (s : FileSet) (p e : Element) → HoldsModel ys (add_to_model (model_of xs) q s)
    → p < count_of (model_of xs) → content_items (model_of xs) < item_limit → e ≡ count_of (model_of xs)
    → GoodModel ys × ((p < count_of (model_of ys)) × ((content_items (model_of ys) < item_limit) × (e < count_of (model_of ys))))
item-requires xs ys q s p e held range room last =
    let n : count_of (model_of ys) ≡ count_of (model_of xs) + 1 = ap count_of held.is ∙ count_add (model_of xs) q s in
    let k : content_items (model_of ys) ≡ content_items (model_of xs) = ap content_items held.is ∙ total-add (model_of xs) q s in
    (held.good, (omega arith, (omega arith, omega arith)))

-- the element, and then its item
pub child-held : (xs ys zs : List ℕ) (q : Option Element) (s : FileSet) (p e e' : Element) → GoodModel xs → p < count_of (model_of xs) → e ≡ e'
    → HoldsModel ys (add_to_model (model_of xs) q s) → HoldsModel zs (append (model_of ys) p (child e))
    → HoldsModel zs (add_to_model (append (model_of xs) p (child e')) q s)
child-held xs ys zs q s p e e' g range same held item =
    record {
      good = item.good;
      is =
          item.is
          ∙ ap (λ (m : Model). append m p (child e)) held.is
          ∙ ap (λ (x : Element). append (add_to_model (model_of xs) q s) p (child x)) same
          ∙ append-added (model_of xs) p (child e') q s (omega (arith, g.sized.lists));
    }

-- ---- types of the lines so far

module _ (l : Loading) (f : LoadingFits l) where
  pub child-typed : (i : ℕ) → i < length l.schema.sub_elements → (get_or l.schema.sub_elements i no_sub_element).child_type < length l.schema.types
  child-typed i h =
      each-get_d (λ (r : SubElement). r.child_type < length l.schema.types) l.schema.sub_elements i no_sub_element f.children h

  pub element-typed : SizedElements l.elements → (e : Element) → e < length l.elements.names
      → get_or l.elements.types e 0 < length l.schema.types
  element-typed g e h =
      each-get_d (λ (t : TypeNumber). t < length l.schema.types) l.elements.types e 0 f.known (omega (arith, g.same_types))

-- ---- one more element

module _ (l : Loading) (f : LoadingFits l) where
  wider : (n : Name) (above : List Element) → Each (λ (e : Element). e < length l.elements.names) above
      → Each (λ (e : Element). e < length (l.elements.names ++ (n ∷ []))) above
  wider n above h =
      each-imp (λ (e : Element). e < length l.elements.names) (λ (e : Element). e < length (l.elements.names ++ (n ∷ []))) above
      (λ e k. omega (arith, length-append l.elements.names (n ∷ []))) h

  pub fits-root : (s : FileSet) → declared_type l.schema 0 ≡ true
      → LoadingFits (put_content l (next_element l ∷ []) (add_element l.elements 0 0 0) (add_to_model l.model none s))
  unfolding put_content next_element add_element declared_type
  fits-root s h =
      record {
        same = omega (arith, f.same, count_add l.model none s, length-append l.elements.names (0 ∷ []));
        opened = (omega (arith, length-append l.elements.names (0 ∷ [])), tt);
        known =
            each_append (λ (t : TypeNumber). t < length l.schema.types) l.elements.types (0 ∷ []) f.known
            (ltb-true 0 (length l.schema.types) h, tt);
        children = f.children;
        texts = omega (arith, f.texts, total-add l.model none s);
        files = f.files;
        one_line = f.one_line;
        one_tree = f.one_tree;
        closed = f.closed;
        early = f.early;
      }

  pub fits-child : (d : ℕ) (n : Name) (t : TypeNumber) (s : FileSet) (p : Element) → p < length l.model.lists → t < length l.schema.types
      → LoadingFits
      (put_content l (take d l.above ++ (next_element l ∷ [])) (add_element l.elements n t d)
      (add_to_model (append l.model p (child (next_element l))) (some p) s))
  unfolding put_content next_element add_element
  fits-child d n t s p h k =
      let m = append l.model p (child (length l.elements.names)) in
      record {
        same =
            omega (
              arith,
              f.same,
              count_add m (some p) s,
              count-append l.model p (child (length l.elements.names)),
              length-append l.elements.names (n ∷ []),
            );
        opened =
            each_append (λ (e : Element). e < length (l.elements.names ++ (n ∷ []))) (take d l.above) (length l.elements.names ∷ [])
            (wider n (take d l.above) (each_take (λ (e : Element). e < length l.elements.names) d l.above f.opened))
            (omega (arith, length-append l.elements.names (n ∷ [])), tt);
        known = each_append (λ (u : TypeNumber). u < length l.schema.types) l.elements.types (t ∷ []) f.known (k, tt);
        children = f.children;
        texts = omega (arith, f.texts, total-add m (some p) s, total-append l.model p (child (length l.elements.names)) h);
        files = f.files;
        one_line = f.one_line;
        one_tree = f.one_tree;
        closed = f.closed;
        early = f.early;
      }

-- ---- a root

module _ (l : Loading) (d : ℕ) (n : Name) (s : FileSet) where
  abbrev plain : Bool
  plain = eqb d 0 && eqb n 0

  pub root-deep : (d ≡ 0 → ⊥) → load_root l d n s ≡ refused tree_rule
  unfolding load_root
  root-deep h =
      let g : plain ≡ false = rw (ne_eqb d 0 h) in
      fails _ _ g

  pub root-named : d ≡ 0 → (n ≡ 0 → ⊥) → load_root l d n s ≡ refused tree_rule
  unfolding load_root
  root-named h k =
      let g : plain ≡ false = rw (eq-eqb d 0 h, ne_eqb n 0 k) in
      fails _ _ g

  module _ (top : d ≡ 0) (unnamed : n ≡ 0) where
    is_plain : plain ≡ true
    is_plain = rw (eq-eqb d 0 top, eq-eqb n 0 unnamed)

    pub root-untyped : declared_type l.schema 0 ≡ false → load_root l d n s ≡ refused schema_rule
    unfolding load_root
    root-untyped h = passes _ _ is_plain (fails _ _ h)

    module _ (typed : declared_type l.schema 0 ≡ true) where
      pub root-barred : root_set_rule l s ≡ false → load_root l d n s ≡ refused tree_rule
      unfolding load_root
      root-barred h = passes _ _ is_plain (passes _ _ typed (fails _ _ h))

      pub root-taken : root_set_rule l s ≡ true
          → load_root l d n s ≡ ok (put_content l (next_element l ∷ []) (add_element l.elements 0 0 0) (add_to_model l.model none s))
      unfolding load_root
      root-taken h = passes _ _ is_plain (passes _ _ typed (passes _ _ h refl))

  -- ---- a child

  abbrev found_row : Element → Option SubElement
  found_row p = row_of_name l.schema (get_or l.elements.types p 0) n

  pub child-alone : owner l d ≡ none → load_child l d n s ≡ refused tree_rule
  unfolding load_child
  child-alone h = misses _ _ h

  module _ (p : Element) (o : owner l d ≡ some p) where
    pub child-unknown : found_row p ≡ none → load_child l d n s ≡ refused tree_rule
    unfolding load_child
    child-unknown h = finds _ _ o (misses _ _ h)

    module _ (row : SubElement) (found : found_row p ≡ some row) where
      pub child-barred : set_rule l s ≡ false → load_child l d n s ≡ refused tree_rule
      unfolding load_child
      child-barred h = finds _ _ o (finds _ _ found (fails _ _ h))

      pub child-taken : set_rule l s ≡ true
          → load_child l d n s
          ≡ ok
          (put_content l (take d l.above ++ (next_element l ∷ [])) (add_element l.elements n row.child_type d)
          (add_to_model (append l.model p (child (next_element l))) (some p) s))
      unfolding load_child
      child-taken h = finds _ _ o (finds _ _ found (passes _ _ h refl))

  -- ---- E

  -- room for the line
  abbrev gate : Bool
  gate = leb d depth_limit && ltb (length l.elements.names) element_limit && (eqb d 0 || ltb (content_items l.model) item_limit)

  pub e-deep : depth_limit < d → load_e l d n s ≡ refused limit
  unfolding load_e
  e-deep h =
      let g : gate ≡ false = rw (lt-leb d depth_limit h) in
      fails _ _ g

  module _ (low : d ≤ depth_limit) where
    pub e-many : element_limit ≤ length l.elements.names → load_e l d n s ≡ refused limit
    unfolding load_e
    e-many h =
        let g : gate ≡ false = rw (le-leb d depth_limit low, le-ltb (length l.elements.names) element_limit h) in
        fails _ _ g

    module _ (few : length l.elements.names < element_limit) where
      gate-is : gate ≡ (eqb d 0 || ltb (content_items l.model) item_limit)
      gate-is = rw (le-leb d depth_limit low, lt-ltb (length l.elements.names) element_limit few)

      pub e-full : (d ≡ 0 → ⊥) → item_limit ≤ content_items l.model → load_e l d n s ≡ refused limit
      unfolding load_e
      e-full z h =
          let g : (eqb d 0 || ltb (content_items l.model) item_limit) ≡ false =
          rw (ne_eqb d 0 z, le-ltb (content_items l.model) item_limit h)
          in
          fails _ _ (gate-is ∙ g)

      module _ (room : (eqb d 0 || ltb (content_items l.model) item_limit) ≡ true) where
        pub e-root : l.root_due ≡ true → load_e l d n s ≡ load_root l d n s
        unfolding load_e
        e-root h =
            passes _ _ (gate-is ∙ room) (ap (λ (b : Bool). elim b [ true ↦ load_root l d n s | false ↦ load_child l d n s ]) h)

        pub e-child : l.root_due ≡ false → load_e l d n s ≡ load_child l d n s
        unfolding load_e
        e-child h =
            passes _ _ (gate-is ∙ room) (ap (λ (b : Bool). elim b [ true ↦ load_root l d n s | false ↦ load_child l d n s ]) h)

-- ---- room for an item

pub room-root : (d n : ℕ) → d ≡ 0 → (eqb d 0 || ltb n item_limit) ≡ true
room-root d n h = rw (eq-eqb d 0 h)

pub room-item : (d n : ℕ) → n < item_limit → (eqb d 0 || ltb n item_limit) ≡ true
room-item d n h = by (eqb d 0) (lt-ltb n item_limit h)
  where
    by : (b : Bool) → ltb n item_limit ≡ true → (b || ltb n item_limit) ≡ true
    by true e = refl
    by false e = e

-- ---- the line taken

module _ (p : Progress) (schema elements model : List ℕ) (g : GoodLoading p schema elements model) (q : Progress) (elements' model' : List ℕ) where
  abbrev l : Loading
  l = loading_of p schema elements model

  -- the element open at this depth, and no deeper one
  abbrev after : ℕ → Element → Progress
  after d e = record { latest = p.latest; seen = p.seen; due = false; depth = d + 1; above = set p.above d e }

  element-line : (d : ℕ) (e : Element) (above : List Element) (es : Elements) (m : Model) (o : Res Loading) → q ≡ after d e
      → d < open_limit → take (d + 1) (set p.above d e) ≡ above → HoldsElements elements' es → HoldsModel model' m
      → LoadingFits (put_content l above es m) → o ≡ ok (put_content l above es m) → StepResult p (Ok q) schema elements' model' o
  unfolding put_content
  element-line d e above es m o to low opens he hm fits is =
      let same : loading_of (after d e) schema elements' model' ≡ put_content l above es m =
      λ i.
      record {
        latest = kind_number p.latest;
        model_seen = p.seen;
        root_due = false;
        above = opens i;
        schema = schema_of schema;
        elements = he.is i;
        model = hm.is i;
      }
      in
      line_taken (put_content l above es m) to same (omega arith)
      (length-set p.above d e ∙ g.room) g.good_schema he.good hm.good fits is

  pub root_line : (d : ℕ) (n : Name) (x : FileSet) (e : Element) → q ≡ after 0 e → e ≡ length (elements_of elements).names → d ≡ 0 → n ≡ 0
      → declared_type (schema_of schema) 0 ≡ true → root_set_rule l x ≡ true → HoldsElements elements' (add_element (elements_of elements) 0 0 0)
      → HoldsModel model' (add_to_model (model_of model) none x) → StepResult p (Ok q) schema elements' model' (load_root l d n x)
  unfolding next_element
  root_line d n x e to next top unnamed typed part he hm =
      let opens : take (0 + 1) (set p.above 0 e) ≡ length (elements_of elements).names ∷ [] =
      opened-at p.above 0 e (omega (arith, g.room)) ∙ ap (λ (y : Element). y ∷ []) next
      in
      element-line 0 e (length (elements_of elements).names ∷ []) (add_element (elements_of elements) 0 0 0) (add_to_model (model_of model) none x) (load_root l d n x) to (omega arith)
      opens he hm (fits-root l g.fits x typed) (root-taken l d n x top unnamed typed part)

  pub child-line : (d : ℕ) (n : Name) (x : FileSet) (o : Element) (row : SubElement) (e : Element) (t : TypeNumber) → q ≡ after d e
      → e ≡ length (elements_of elements).names → t ≡ row.child_type → d < open_limit → owner l d ≡ some o → row_of_name (schema_of schema) (get_or (elements_of elements).types o 0) n ≡ some row
      → row.child_type < length (schema_of schema).types → set_rule l x ≡ true
      → HoldsElements elements' (add_element (elements_of elements) n t d)
      → HoldsModel model' (add_to_model (append (model_of model) o (child (length (elements_of elements).names))) (some o) x)
      → StepResult p (Ok q) schema elements' model' (load_child l d n x)
  unfolding next_element
  child-line d n x o row e t to next type low owns found typed part he hm =
      let last = length (elements_of elements).names in
      let k : d ≤ p.depth =
      omega (arith, owner-within l d o owns, length-take-le p.depth p.above (omega (arith, g.depth, g.room)))
      in
      let opens : take (d + 1) (set p.above d e) ≡ take d (take p.depth p.above) ++ (last ∷ []) =
      opened-at p.above d e (omega (arith, g.room))
      ∙ ap (λ (a : List Element). a ++ (e ∷ [])) (sym (take-take d p.depth p.above k))
      ∙ ap (λ (y : Element). take d (take p.depth p.above) ++ (y ∷ [])) next
      in
      let h : o < length (model_of model).lists =
      omega (arith, owner-element l last d o g.fits.opened owns, g.fits.same, g.good_model.sized.lists)
      in
      let he' : HoldsElements elements' (add_element (elements_of elements) n row.child_type d) =
      subst (λ (y : TypeNumber). HoldsElements elements' (add_element (elements_of elements) n y d)) type he
      in
      element-line d e (take d (take p.depth p.above) ++ (last ∷ [])) (add_element (elements_of elements) n row.child_type d)
      (add_to_model (append (model_of model) o (child last)) (some o) x) (load_child l d n x) to low opens he' hm
      (fits-child l g.fits d n row.child_type x o h typed) (child-taken l d n x o owns row found part)
