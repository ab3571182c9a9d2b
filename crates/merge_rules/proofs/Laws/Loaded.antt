-- What a load accepts has the invariant, an empty log, and rows and elements in their ranges. Assumes nothing.
use mathlib.Core.Bool.{Bool, true, false, not, ◌&&◌, ◌||◌, false≢true, true≢false, and-eq-true_iff}
use mathlib.Core.List.{List, [], ◌∷◌, ◌++◌}
use mathlib.Core.Logic.{◌⊎◌, inl, inr, ⊎_elim}
use mathlib.Core.Option.{none, some, none-ne-some}
use mathlib.Core.Path.{◌≡◌, refl, sym, ap, subst, ◌∙◌}
use Prim.Native.Nat.{ℕ, zero, suc, ◌≤◌, ◌<◌, zero-le}
use native.Mathlib.Nat.{le_refl}
use native.Mathlib.Omega.{arith}
use borrow.Author.Tests.{ltb-true, leb-true, eqb-true, eqb-false, not-true}
use lib.Dec.{eqb, leb, ltb, lit<, lit≤}
use lib.ListN.{length, get_or, take, length-append, get_or-append}
use Rattle.tables.specs.Cells.{Each}
use Rattle.tables.specs.FileSets.{part_of, loaded_files, no_set}
use Rattle.tables.specs.Limits.{name_limit, deck_limit, type_limit, group_limit, row_limit, element_limit, depth_limit, item_limit}
use Rattle.tables.specs.Records.{Element, Name, TypeNumber, FileNumber, FileSet, TypeRow, Group, SubElement, File, Schema, Text, Tree, child, text, Fixed, State, root, depth_of, set_of, add_tree, add_element, add_text, add_to_model, insert_item, put_list, content_items, add_type, add_group, add_sub_element, add_file}
use Rattle.tables.proofs.Laws.FileSets.{part_of-trans, part_of-no_set}
use Rattle.tables.proofs.Laws.Model.{total-add}
use Rattle.tables.proofs.Laws.Cases.{bool_case}
use Rattle.table_test.specs.ElementsTest.{TextIn}
use Rattle.deck.specs.Deck.{Part, parts, lines, Line, T, G, S, F, M, B, E, C}
use Rattle.deck.specs.Load.{form, Loading, nothing, kind_t, kind_g, kind_s, kind_f, kind_m, kind_b, put_schema, open_tree, put_content, load_t, load_g, load_s, load_f, load_m, may_wait, load_b, owner, in_model, root_set_rule, set_rule, next_element, append, load_root, load_child, load_e, load_c, load_line, Load, loaded, refused_at, finish, load_lines, load}
use Rattle.deck.specs.Schema.{declared_type, declared_files, declares_file, find_sub_element, row_of_name}
use Rattle.deck.proofs.Laws.Load.{owner-within, wait-new, room-left, total-append}
use Rattle.state_test.specs.StateTest.{schema_valid, waits}
use Rattle.merge_rules.specs.Sound.{count}
use Rattle.merge_rules.proofs.Laws.Cases.{and-three, list-case, IfOk, is_ok, given-ok, need-bind, given-bind, ok-bind, ok-case}
use Rattle.merge_rules.proofs.Laws.Elements.{ElementsInRange, elements-nothing, elements-types, elements-element, elements-text, elements-tree}
use Rattle.merge_rules.proofs.Laws.Invariant.{Inv}
use Rattle.merge_rules.proofs.Laws.Lists.{any_of-false, first_of-some}
use Rattle.merge_rules.proofs.Laws.Loading.{Built, NewElement, NewElementValid, new-depth, new-type, new-parent, root-set, waits-added, trees-added, built-added, trees-more, built-put, built-child, built-inv, built-nothing}
use Rattle.merge_rules.proofs.Laws.Parse.{TypeInRange, GroupInRange, RowInRange, FileInRange, PartIn, parts_in, LineInRange, read_ok, SchemaInRange, type-added, group-added, row-added, file-added, schema-nothing}
use Rattle.merge_rules.proofs.Laws.SchemaRows.{SchemaValidUpTo, valid-nothing, valid-later, valid-type, valid-group, valid-row, valid-file, valid-all}

-- what a load fixes beside the invariant: rows and elements in their ranges, and rows that meet their rules
pub record FixedInRange (deck : List ℕ) (x : Fixed) : Type 0 where
  pub read : x.deck ≡ deck
  pub size : length deck ≤ deck_limit
  pub schema : SchemaInRange x.schema
  pub valid : schema_valid x.schema ≡ true
  pub elements : ElementsInRange (length deck) (length x.schema.types) x.elements
  pub few_texts : length x.elements.texts ≤ item_limit

-- of an accepted load: the invariant, an empty log and what is fixed
pub record Loaded (deck : List ℕ) (x : Fixed) (s : State) : Type 0 where
  pub inv : Inv x s
  pub log : s.log ≡ []
  pub fixed : FixedInRange deck x

-- ---- the loading behind a line

-- a B line
abbrev pub tree_opened : Loading → FileNumber → Loading
tree_opened l f = open_tree l kind_b l.model_seen (add_tree l.elements (record { file = f; root = length l.elements.names }))

-- an E line of a root
abbrev pub root_added : Loading → FileSet → Loading
root_added l s = put_content l (next_element l ∷ []) (add_element l.elements 0 0 0) (add_to_model l.model none s)

-- an E line below p, by its row
abbrev pub child_added : Loading → ℕ → Name → FileSet → Element → SubElement → Loading
child_added l d n s p row =
    put_content l (take d l.above ++ (next_element l ∷ [])) (add_element l.elements n row.child_type d)
    (add_to_model (append l.model p (child (next_element l))) (some p) s)

-- a C line below p
abbrev pub text_added : Loading → Text → Element → Loading
text_added l t p = put_content l l.above (add_text l.elements t) (append l.model p (text (length l.elements.texts)))

-- ---- what holds behind each line

module _ (deck : List ℕ) where
  -- what the lines so far fix
  abbrev pub fixed_of : Loading → Fixed
  fixed_of l = record { deck = deck; schema = l.schema; elements = l.elements }

  -- the model's root is read, and no root is due
  pub record Complete (l : Loading) : Type 0 where
    pub kind : kind_m ≤ l.latest
    pub ready : l.root_due ≡ false
    pub built : Built (fixed_of l) l.model l.above
    pub some : 0 < count (fixed_of l)
    pub root_set : 0 < set_of l.model root
    pub few_texts : length l.elements.texts ≤ content_items l.model

  -- schema lines only; the model's root due; a B line before any M line, which no end accepts; no root due; a tree's root due
  pub data Stage : Loading → Type 0 where
    schema_only : (k : ℕ) (sc : Schema) → k < kind_m → Stage (put_schema nothing k sc)
    model_due : (k : ℕ) (sc : Schema) → Stage (open_tree (put_schema nothing k sc) kind_m true nothing.elements)
    model_missing : {l : Loading} → l.latest ≡ kind_b → l.model_seen ≡ false → Stage l
    complete : {l : Loading} → Complete l → Stage l
    tree_due : (l : Loading) (f : FileNumber) → Complete l → may_wait l f ≡ true → Stage (tree_opened l f)

  -- what holds at each line
  pub record LoadingSound (l : Loading) : Type 0 where
    pub stage : Stage l
    pub schema : SchemaInRange l.schema
    pub valid : SchemaValidUpTo l.latest l.schema
    pub elements : ElementsInRange (length deck) (length l.schema.types) l.elements

  -- ---- T, G, S, F

  -- before the M line there are schema lines only
  pub schema-stage : (P : Loading → Type 0) {l : Loading} → Stage l → l.latest < kind_m → ((k : ℕ) (sc : Schema) → P (put_schema nothing k sc)) → P l
  unfolding open_tree
  schema-stage P (schema_only k sc h) low p = p k sc
  schema-stage P (model_due k sc) low p = absurd (omega arith)
  schema-stage P (model_missing h g) low p = absurd (omega arith)
  schema-stage P (complete s) low p = absurd (omega (arith, s.kind))
  schema-stage P (tree_due l f s w) low p = absurd (omega arith)

  stage-schema : {l : Loading} → Stage l → (k : ℕ) (sc : Schema) → k < kind_m → leb l.latest k ≡ true → Stage (put_schema l k sc)
  unfolding put_schema
  stage-schema {l} g k sc low t =
      schema-stage (λ (r : Loading). Stage (put_schema r k sc)) g (omega (arith, leb-true l.latest k t)) (λ _ _. schema_only k sc low)

  load_t-ok : {l : Loading} → LoadingSound l → (t : TypeNumber) (r : TypeRow) → TypeInRange r → IfOk LoadingSound (load_t l t r)
  unfolding load_t put_schema add_type
  load_t-ok {l} g t r f =
      need-bind _ _ (λ _ h. need-bind _ _ (λ _ k.
      let (first, same) = (and-eq-true_iff (leb l.latest kind_t) _).0 h in
      let n : t ≡ length l.schema.types = eqb-true t _ same in
      is_ok
      (record {
        stage = stage-schema g.stage kind_t _ (lit< tt) first;
        schema = type-added g.schema r f (omega (arith, ltb-true t type_limit k));
        valid = valid-type g.valid r (leb-true _ _ first);
        elements = elements-types g.elements _ (rw length-append (omega arith));
      })))

  load_g-ok : {l : Loading} → LoadingSound l → (r : Group) → GroupInRange r → IfOk LoadingSound (load_g l r)
  unfolding load_g put_schema add_group
  load_g-ok g r f =
      need-bind _ _ (λ _ h. need-bind _ _ (λ _ k. need-bind _ _ (λ _ rule.
      is_ok
      (record {
        stage = stage-schema g.stage kind_g _ (lit< tt) h;
        schema = group-added g.schema r f (ltb-true _ group_limit k) rule;
        valid = valid-group g.valid r (leb-true _ _ h) rule;
        elements = g.elements;
      }))))

  load_s-ok : {l : Loading} → LoadingSound l → (r : SubElement) → RowInRange r → IfOk LoadingSound (load_s l r)
  unfolding load_s put_schema add_sub_element
  load_s-ok g r f =
      need-bind _ _ (λ _ h. need-bind _ _ (λ _ k. need-bind _ _ (λ _ rule.
      is_ok
      (record {
        stage = stage-schema g.stage kind_s _ (lit< tt) h;
        schema = row-added g.schema r f (ltb-true _ row_limit k) rule;
        valid = valid-row g.valid r rule;
        elements = g.elements;
      }))))

  load_f-ok : {l : Loading} → LoadingSound l → (r : File) → FileInRange r → IfOk LoadingSound (load_f l r)
  unfolding load_f put_schema add_file
  load_f-ok {l} g r f =
      need-bind _ _ (λ _ h.
      let (order, rises) = (and-eq-true_iff (leb l.latest kind_f) _).0 h in
      is_ok
      (record {
        stage = stage-schema g.stage kind_f _ (lit< tt) order;
        schema = file-added g.schema r f rises;
        valid = valid-file g.valid r;
        elements = g.elements;
      }))

  -- ---- M, B

  stage-M : {l : Loading} → Stage l → ltb l.latest kind_m ≡ true → Stage (open_tree l kind_m true l.elements)
  unfolding put_schema
  stage-M {l} g t = schema-stage (λ (r : Loading). Stage (open_tree r kind_m true r.elements)) g (ltb-true l.latest kind_m t) model_due

  load_m-ok : {l : Loading} → LoadingSound l → IfOk LoadingSound (load_m l)
  unfolding load_m open_tree
  load_m-ok g =
      need-bind _ _ (λ _ _. need-bind _ _ (λ _ h.
      is_ok
      (record { stage = stage-M g.stage h; schema = g.schema; valid = valid-later g.valid kind_m (lit< tt); elements = g.elements })))

  stage-B : {l : Loading} → Stage l → (f : FileNumber) → not l.root_due ≡ true → may_wait l f ≡ true → Stage (tree_opened l f)
  unfolding put_schema open_tree
  stage-B (schema_only k sc h) f r w = model_missing refl refl
  stage-B (model_due k sc) f r w = absurd (false≢true r)
  stage-B (model_missing h g) f r w = model_missing refl g
  stage-B (complete {l} s) f r w = tree_due l f s w
  stage-B (tree_due l g s v) f r w = absurd (false≢true r)

  load_b-ok : {l : Loading} → LoadingSound l → (f : FileNumber) → IfOk LoadingSound (load_b l f)
  unfolding load_b open_tree may_wait
  load_b-ok {l} g f =
      need-bind _ _ (λ _ h.
      let (ready, may) = (and-eq-true_iff (not l.root_due) (may_wait l f)).0 h in
      is_ok
      (record {
        stage = stage-B g.stage f ready may;
        schema = g.schema;
        valid = valid-later g.valid kind_b (lit< tt);
        elements = elements-tree g.elements _ (wait-new l f may);
      }))

  -- ---- E, C

  -- no element, no owner
  pub no-owner : (l : Loading) → l.above ≡ [] → (d : ℕ) (p : Element) → owner l d ≡ some p → ⊥
  unfolding owner
  no-owner l h zero p o = none-ne-some p o
  no-owner l h (suc d) p o = none-ne-some p (rw h at o)

  -- an owner is one of the open elements
  pub owner-open : (l : Loading) → Complete l → (d : ℕ) (p : Element) → owner l d ≡ some p
      → (p < count (fixed_of l)) × (d ≡ suc (depth_of (fixed_of l) p)) × (d ≤ length l.above)
  unfolding owner
  owner-open l s zero p o = absurd (none-ne-some p o)
  owner-open l s (suc d) p o =
      let k : (p < count (fixed_of l)) × (depth_of (fixed_of l) p ≡ d) = s.built.at_depth d p o in
      (k.0, ap suc (sym k.1), owner-within l (suc d) p o)

  -- where no root is due and an element may own, the model's root is read, or a B line came before any M line
  owned-stage : {l : Loading} → Stage l → l.root_due ≡ false → (d : ℕ) (p : Element) → owner l d ≡ some p
      → Complete l ⊎ ((l.latest ≡ kind_b) × (l.model_seen ≡ false))
  unfolding put_schema open_tree
  owned-stage (schema_only k sc h) r d p o = absurd (no-owner _ refl d p o)
  owned-stage (model_due k sc) r d p o = absurd (true≢false r)
  owned-stage (model_missing h g) r d p o = inr (h, g)
  owned-stage (complete s) r d p o = inl s
  owned-stage (tree_due l f s w) r d p o = absurd (true≢false r)

  text-complete : (l : Loading) → Complete l → (d : ℕ) (t : Text) (p : Element) → content_items l.model < item_limit → owner l d ≡ some p
      → Complete (text_added l t p)
  unfolding put_content add_text append insert_item put_list
  text-complete l s d t p room o =
      record {
        kind = s.kind;
        ready = refl;
        built =
            built-put s.built (l.elements.texts ++ (t ∷ [])) p (text (length l.elements.texts)) tt
            (rw length-append (omega arith)) (rw length-append (omega arith)) (owner-open l s d p o).0 room;
        some = s.some;
        root_set = s.root_set;
        few_texts = rw (length-append, total-append l.model p _ (rw s.built.kept.lists (owner-open l s d p o).0)) (omega (arith, s.few_texts));
      }

  load_c-ok : {l : Loading} → LoadingSound l → (d : ℕ) (t : Text) → TextIn (length deck) t → IfOk LoadingSound (load_c l d t)
  unfolding load_c put_content
  load_c-ok {l} g d t f =
      need-bind _ _ (λ _ h. need-bind _ _ (λ _ r. given-bind _ _ (λ p o. need-bind _ _ (λ _ _.
      let room : content_items l.model < item_limit = ltb-true _ _ ((and-eq-true_iff (leb d depth_limit) _).0 h).1 in
      is_ok
      (record {
        stage = ⊎_elim (λ s. complete (text-complete l s d t p room o)) (λ k. model_missing k.0 k.1) (owned-stage g.stage (not-true _ r) d p o);
        schema = g.schema;
        valid = g.valid;
        elements = elements-text g.elements t f;
      })))))

  -- the tests of the limits at an element
  abbrev pub Room : Loading → ℕ → Type 0
  Room l d = (leb d depth_limit && ltb (length l.elements.names) element_limit && (eqb d 0 || ltb (content_items l.model) item_limit)) ≡ true

  -- what they say
  pub limits : (l : Loading) (d : ℕ) → Room l d
      → (d ≤ depth_limit) × (length l.elements.names < element_limit) × ((d ≡ 0 → ⊥) → content_items l.model < item_limit)
  limits l d h =
      let n : ℕ = length l.elements.names in
      let k : ℕ = content_items l.model in
      let all : (leb d depth_limit ≡ true) × (ltb n element_limit ≡ true) × ((eqb d 0 || ltb k item_limit) ≡ true) = and-three _ _ _ h in
      (leb-true d depth_limit all.0, ltb-true n element_limit all.1, room-left d k all.2)

  set-part : (l : Loading) → Complete l → (s : FileSet) → set_rule l s ≡ true → part_of s (declared_files l.schema) ≡ true
  unfolding set_rule
  set-part l g s =
      bool_case (λ (b : Bool). b ≡ true → part_of s (declared_files l.schema) ≡ true) (in_model l)
      (λ _ h. part_of-trans s (loaded_files l.model) (declared_files l.schema) h (g.built.kept.declared root))
      (λ _ h. rw (eqb-true s no_set h) (part_of-no_set _))

  child-complete : (l : Loading) → Complete l → (d : ℕ) (n : Name) (s : FileSet) → Room l d → (p : Element) → owner l d ≡ some p → (row : SubElement)
      → row_of_name l.schema (get_or l.elements.types p 0) n ≡ some row → set_rule l s ≡ true
      → Complete (child_added l d n s p row)
  unfolding put_content add_element next_element add_to_model append insert_item put_list
  child-complete l g d n s h p o row found rule =
      let at : (p < count (fixed_of l)) × (d ≡ suc (depth_of (fixed_of l) p)) × (d ≤ length l.above) = owner-open l g d p o in
      record {
        kind = g.kind;
        ready = refl;
        built =
            built-child g.built n d s p row (limits l d h).1 (limits l d h).0
            ((limits l d h).2 (λ z. omega arith)) (set-part l g s rule) at.0 at.1 at.2 found;
        some = rw length-append (omega arith);
        root_set = rw (get_or-append l.model.sets (s ∷ []) 0 root (omega (arith, g.some, g.built.kept.sets))) g.root_set;
        few_texts =
            omega (
              arith,
              g.few_texts,
              total-add (append l.model p (child (count (fixed_of l)))) (some p) s,
              total-append l.model p (child (count (fixed_of l))) (rw g.built.kept.lists at.0),
            );
      }

  -- a root: depth 0, name 0, type 0
  abbrev new_root : FileSet → NewElement
  new_root s = record { name = 0; type = 0; depth = 0; parent = none; set = s }

  root-joins : (x : Fixed) (s : FileSet) → NewElementValid x (new_root s)
  root-joins x s = record { below = λ p h. absurd (none-ne-some p h); first = λ h. (refl, refl, refl) }

  -- the model's root
  model-complete : (k : ℕ) (sc : Schema) (s : FileSet) → (not (eqb s no_set) && part_of s (declared_files sc)) ≡ true
      → Complete (root_added (open_tree (put_schema nothing k sc) kind_m true nothing.elements) s)
  unfolding put_schema open_tree put_content next_element add_element add_to_model
  model-complete k sc s h =
      let (nonzero, part) = (and-eq-true_iff (not (eqb s no_set)) _).0 h in
      let b = built-nothing deck sc in
      record {
        kind = le_refl kind_m;
        ready = refl;
        built = built-added b (new_root s) [] (root-joins _ s) (lit< tt) zero-le part zero-le (trees-added b (new_root s) []);
        some = lit< tt;
        root_set = omega (arith, eqb-false s 0 (not-true (eqb s no_set) nonzero));
        few_texts = zero-le;
      }

  -- a waiting tree's root
  tree-complete : (l : Loading) → Complete l → (f : FileNumber) → may_wait l f ≡ true → (s : FileSet) → eqb s no_set ≡ true
      → length l.elements.names < element_limit → Complete (root_added (tree_opened l f) s)
  unfolding open_tree put_content next_element add_element add_tree may_wait waits
  tree-complete l g f may s empty few =
      let x : Fixed = fixed_of l in
      let t : Tree = record { file = f; root = count x } in
      let trees : List Tree = l.elements.trees ++ (t ∷ []) in
      let b = g.built in
      let (known, outside, _) = and-three (declares_file l.schema f) _ _ may in
      record {
        kind = lit≤ tt;
        ready = refl;
        built =
            built-added b (new_root s) trees (root-joins x s) few zero-le (rw (eqb-true s no_set empty) (part_of-no_set _)) zero-le
            (trees-more (trees-added b (new_root s) trees) t
            (record {
              in_range = rw length-append (omega arith);
              not_root = λ h. omega (arith, g.some);
              depth = new-depth b (new_root s) trees;
              type = new-type b (new_root s) trees;
              declared = known;
            })
            (new-parent b (new_root s) trees) (waits-added b (new_root s) trees t g.some outside)
            (λ u h. eqb-false u.file f (any_of-false (λ (v : Tree). eqb v.file f) l.elements.trees (wait-new l f may) u h))
            (λ u h e. omega (arith, (b.trees.all.valid u h).in_range)));
        some = rw length-append (omega arith);
        root_set = rw (root-set b (new_root s) trees g.some) g.root_set;
        few_texts = rw (total-add l.model none s) g.few_texts;
      }

  stage-root : {l : Loading} → Stage l → l.root_due ≡ true → (s : FileSet) → length l.elements.names < element_limit → root_set_rule l s ≡ true
      → Stage (root_added l s)
  unfolding put_schema open_tree put_content add_tree root_set_rule in_model
  stage-root (schema_only k sc h) r s few rule = absurd (false≢true r)
  stage-root (model_due k sc) r s few rule = complete (model-complete k sc s rule)
  stage-root (model_missing h g) r s few rule = model_missing h g
  stage-root (complete g) r s few rule = absurd (false≢true (sym g.ready ∙ r))
  stage-root (tree_due l f g w) r s few rule = complete (tree-complete l g f w s rule few)

  -- the child type of a row that is found
  row_type : {l : Loading} → LoadingSound l → (t : TypeNumber) (n : Name) (row : SubElement) → row_of_name l.schema t n ≡ some row
      → row.child_type < length l.schema.types
  unfolding row_of_name find_sub_element
  row_type {l} g t n row h = (g.schema.rows.fit row (first_of-some _ l.schema.sub_elements h).1).2

  load_e-ok : {l : Loading} → LoadingSound l → (d : ℕ) (n : Name) (s : FileSet) → n ≤ name_limit → IfOk LoadingSound (load_e l d n s)
  unfolding load_e load_root load_child put_content declared_type
  load_e-ok {l} g d n s f =
      need-bind _ _ (λ _ h.
      bool_case (IfOk LoadingSound) l.root_due
      (λ r.
      need-bind _ _ (λ _ _. need-bind _ _ (λ _ zero. need-bind _ _ (λ _ rule.
      is_ok
      (record {
        stage = stage-root g.stage r s (limits l d h).1 rule;
        schema = g.schema;
        valid = g.valid;
        elements = elements-element g.elements 0 0 0 zero-le (ltb-true 0 _ zero);
      })))))
      (λ r.
      given-bind _ _ (λ p o. given-bind _ _ (λ row found. need-bind _ _ (λ _ rule.
      is_ok
      (record {
        stage =
            ⊎_elim (λ c. complete (child-complete l c d n s h p o row found rule)) (λ k. model_missing k.0 k.1) (owned-stage g.stage r d p o);
        schema = g.schema;
        valid = g.valid;
        elements = elements-element g.elements n row.child_type d f (row_type g _ n row found);
      }))))))

  -- each line keeps it
  pub load_line-ok : {l : Loading} → LoadingSound l → (line : Line) → LineInRange (length deck) line → IfOk LoadingSound (load_line l line)
  unfolding load_line
  load_line-ok g (T t r) f = load_t-ok g t r f
  load_line-ok g (G r) f = load_g-ok g r f
  load_line-ok g (S r) f = load_s-ok g r f
  load_line-ok g (F r) f = load_f-ok g r f
  load_line-ok g M f = load_m-ok g
  load_line-ok g (B b) f = load_b-ok g b
  load_line-ok g (E d n s) f = load_e-ok g d n s f
  load_line-ok g (C d t) f = load_c-ok g d t f

  -- ---- the whole deck

  finished : {l : Loading} → Stage l → l.model_seen ≡ true → not l.root_due ≡ true
      → Inv (fixed_of l) (record { model = l.model; log = [] }) × (length l.elements.texts ≤ item_limit)
  unfolding put_schema open_tree
  finished (schema_only k sc h) seen r = absurd (false≢true seen)
  finished (model_due k sc) seen r = absurd (false≢true r)
  finished (model_missing h g) seen r = absurd (false≢true (sym g ∙ seen))
  finished (complete g) seen r = (built-inv g.built g.some g.root_set, omega (arith, g.few_texts, g.built.kept.few_items))
  finished (tree_due l f g w) seen r = absurd (false≢true r)

  data IfLoaded : Load → Type 0 where
    is_loaded : {x : Fixed} {s : State} → Loaded deck x s → IfLoaded (loaded x s)
    is_refused_at : {r n : ℕ} → IfLoaded (refused_at r n)

  module _ (size : length deck ≤ deck_limit) where
    finish-ok : (n : ℕ) {l : Loading} → LoadingSound l → IfLoaded (finish deck n l)
    unfolding finish
    finish-ok n {l} g =
        bool_case IfLoaded (l.model_seen && not l.root_due)
        (λ h.
        let (seen, ready) = (and-eq-true_iff l.model_seen _).0 h in
        let (inv, few) = finished g.stage seen ready in
        is_loaded
        (record {
          inv = inv;
          log = refl;
          fixed =
              record {
                read = refl;
                size = size;
                schema = g.schema;
                valid = valid-all g.valid;
                elements = g.elements;
                few_texts = few;
              };
        }))
        (λ _. is_refused_at)

    load_lines-ok : (n : ℕ) (ps : List Part) {l : Loading} → Each (PartIn (length deck)) ps → LoadingSound l → IfLoaded (load_lines deck n ps l)
    unfolding load_lines
    load_lines-ok n [] i g = finish-ok n g
    load_lines-ok n (p ∷ []) i g = list-case IfLoaded p.bytes (finish-ok n g) (λ b bs. is_refused_at)
    load_lines-ok n (p ∷ q ∷ ps) i g =
        ok-case IfLoaded (ok-bind (given-ok form (read_ok (length deck) p i.0)) (load_line-ok g)) (λ l g'. load_lines-ok (suc n) (q ∷ ps) i.1 g') (λ r. is_refused_at)

  -- it holds before the first line
  pub sound-nothing : LoadingSound nothing
  unfolding put_schema
  sound-nothing =
      record {
        stage = schema_only kind_t _ (lit< tt);
        schema = schema-nothing;
        valid = valid-nothing;
        elements = elements-nothing _ _;
      }

  load_ok : IfLoaded (load deck)
  unfolding load lines
  load_ok =
      bool_case IfLoaded (leb (length deck) deck_limit)
      (λ h.
      load_lines-ok (leb-true _ _ h) 0 (parts 10 0 deck) (parts_in (length deck) 10 0 deck (omega arith)) sound-nothing)
      (λ _. is_refused_at)

  loaded-ok : {x : Fixed} {s : State} → IfLoaded (loaded x s) → Loaded deck x s
  loaded-ok (is_loaded h) = h

-- what a load accepts
pub load-sound : (deck : List ℕ) (x : Fixed) (s : State) → load deck ≡ loaded x s → Loaded deck x s
load-sound deck x s h = loaded-ok deck (subst (IfLoaded deck) h (load_ok deck))

-- what a load accepts has the invariant, and its log is empty
pub load-inv : (deck : List ℕ) (x : Fixed) (s : State) → load deck ≡ loaded x s → (Inv x s) × (s.log ≡ [])
load-inv deck x s h = ((load-sound deck x s h).inv, (load-sound deck x s h).log)
