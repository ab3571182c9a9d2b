-- What holds of the elements and the model of the lines so far, and stays with one more element or content item. Assumes nothing.
use mathlib.Core.Bool.{true}
use mathlib.Core.List.Memᴰ
use mathlib.Core.List.{List, [], ◌∷◌, ◌++◌}
use mathlib.Core.Logic.{◌⊎◌, inl, inr, ⊎_elim}
use mathlib.Core.Option.{Option, none, some, none-ne-some, some-injective}
use mathlib.Core.Path.{◌≡◌, refl, sym, ap, ◌∙◌}
use Prim.Native.Nat.{ℕ, suc, ◌≤◌, ◌<◌, zero-le}
use native.Mathlib.Nat.{le_refl}
use native.Mathlib.Omega.{arith}
use lib.ListN.{length, get_elem?, take, set, length-append, length-set, get_or-append}
use lib.Seq.{get_or_at}
use Rattle.tables.specs.FileSets.{part_of}
use Rattle.tables.specs.Limits.{element_limit, depth_limit, item_limit}
use Rattle.tables.specs.Lists.{insert_at, sum}
use Rattle.tables.specs.Records.{Element, Name, TypeNumber, FileSet, SubElement, Schema, Tree, Text, Item, child, text, Model, Fixed, root, name_of, type_of, depth_of, parent_of, set_of, list_of, add_to_model, insert_item, put_list, content_items}
use Rattle.tables.proofs.Laws.Model.{parent-add, parent-add-new, set-add, total-add}
use Rattle.deck.specs.Load.{append, nothing}
use Rattle.deck.specs.Schema.{declared_files, row_of_name}
use Rattle.deck.proofs.Laws.Load.{append-added}
use Rattle.state_test.specs.StateTest.{waits}
use Rattle.merge_rules.specs.Pairing.{children}
use Rattle.merge_rules.specs.Sound.{In, count, Once, once-nil, ChildValid, ElementsValid, TreeValid, TreesValid, ItemInRange, Kept}
use Rattle.merge_rules.proofs.Laws.Invariant.{Owns, Inv}
use Rattle.merge_rules.proofs.Laws.Lists.{in-snoc, each_nil, each_snoc, get_d-snoc, get_d-snoc-default, get_elem?-front, once-insert, children-insert-text}
use Rattle.merge_rules.proofs.Laws.Models.{insert-list, insert-in, insert-items}

-- trees that wait, their roots without parents
pub record TreesBuilt (x : Fixed) (m : Model) (trees : List Tree) : Type 0 where
  pub all : TreesValid x trees
  pub top : (t : Tree) → In t trees → parent_of m t.root ≡ none
  pub waiting : (t : Tree) → In t trees → waits m t ≡ true

-- the elements and the model so far; above: the open elements, by depth
pub record Built (x : Fixed) (m : Model) (above : List Element) : Type 0 where
  pub kept : Kept x (record { model = m; log = [] })
  pub owns : (p : Element) → Owns m p
  pub elements : ElementsValid x.elements.names x.elements.types x.elements.depths
  pub root_top : parent_of m root ≡ none
  pub at_depth : (d : ℕ) (p : Element) → get_elem? above d ≡ some p → (p < count x) × (depth_of x p ≡ d)
  pub trees : TreesBuilt x m x.elements.trees

-- ---- one more element

-- a new element
pub record NewElement : Type 0 where
  pub name : Name
  pub type : TypeNumber
  pub depth : ℕ
  pub parent : Option Element
  pub set : FileSet

-- one element more, with these trees
abbrev pub with_element : Fixed → NewElement → List Tree → Fixed
with_element x new trees =
    record {
      deck = x.deck;
      schema = x.schema;
      elements =
          record {
            names = x.elements.names ++ (new.name ∷ []);
            types = x.elements.types ++ (new.type ∷ []);
            depths = x.elements.depths ++ (new.depth ∷ []);
            texts = x.elements.texts;
            trees = trees;
          };
    }

-- the first element is a root; every other one is one deeper than its parent
pub record NewElementValid (x : Fixed) (new : NewElement) : Type 0 where
  pub below : (p : Element) → new.parent ≡ some p → (p < count x) × (new.depth ≡ suc (depth_of x p))
  pub first : count x ≡ 0 → (new.parent ≡ none) × (new.depth ≡ 0) × (new.type ≡ 0)

-- the depths of the elements so far
pub depth-added : (x : Fixed) (new : NewElement) (trees : List Tree) → length x.elements.depths ≡ count x → (e : Element) → e < count x
    → depth_of (with_element x new trees) e ≡ depth_of x e
depth-added x new trees same e h = get_or-append x.elements.depths (new.depth ∷ []) 0 e (omega arith)

module _ {x : Fixed} {m : Model} {above : List Element} (b : Built x m above) (new : NewElement) (trees : List Tree) where
  abbrev x' : Fixed
  x' = with_element x new trees

  abbrev m' : Model
  m' = add_to_model m new.parent new.set

  kept-name : (e : Element) → e < count x → name_of x' e ≡ name_of x e
  kept-name e h = get_or-append x.elements.names (new.name ∷ []) 0 e h

  kept-type : (e : Element) → e < count x → type_of x' e ≡ type_of x e
  kept-type e h = get_or-append x.elements.types (new.type ∷ []) 0 e (omega (arith, b.elements.types))

  kept-depth : (e : Element) → e < count x → depth_of x' e ≡ depth_of x e
  kept-depth = depth-added x new trees b.elements.depths

  kept-parent : (e : Element) → e < count x → parent_of m' e ≡ parent_of m e
  kept-parent e h = parent-add m new.parent new.set e (omega (arith, b.kept.parents))

  -- the new element's type
  pub new-type : type_of x' (count x) ≡ new.type
  new-type = get_or_at x.elements.types new.type [] 0 (count x) b.elements.types

  -- its depth
  pub new-depth : depth_of x' (count x) ≡ new.depth
  new-depth = get_or_at x.elements.depths new.depth [] 0 (count x) b.elements.depths

  new-fits : (p : Element) → p < count x → new.depth ≡ suc (depth_of x p) → (row : SubElement)
      → row_of_name x.schema (type_of x p) new.name ≡ some row → row.child_type ≡ new.type → ChildValid x' p (count x)
  new-fits p h deep row found type =
      record {
        depth = rw (new-depth, kept-depth p h) deep;
        row = row;
        found = rw (kept-type p h, get_or_at x.elements.names new.name [] 0 (count x) refl) found;
        type = type ∙ sym new-type;
      }

  item-added : (i : Item) → ItemInRange x i → ItemInRange x' i
  item-added (child e) h = rw length-append (omega arith)
  item-added (text k) h = h

  fits-added : (p e : Element) → p < count x → e < count x → ChildValid x p e → ChildValid x' p e
  fits-added p e hp he f =
      record {
        depth = rw (kept-depth e he, kept-depth p hp) f.depth;
        row = f.row;
        found = rw (kept-type p hp, kept-name e he) f.found;
        type = rw (kept-type e he) f.type;
      }

  tree-added : (u : Tree) → TreeValid x u → TreeValid x' u
  tree-added u f =
      record {
        in_range = rw length-append (omega (arith, f.in_range));
        not_root = f.not_root;
        depth = rw (kept-depth u.root f.in_range) f.depth;
        type = rw (kept-type u.root f.in_range) f.type;
        declared = f.declared;
      }

  list-added : (p : Element) → list_of m' p ≡ list_of m p
  unfolding add_to_model
  list-added p = get_d-snoc-default m.lists [] p

  -- its parent
  pub new-parent : parent_of m' (count x) ≡ new.parent
  new-parent = ap (parent_of m') (sym b.kept.parents) ∙ parent-add-new m new.parent new.set

  -- the model's root keeps its set
  pub root-set : 0 < count x → set_of m' root ≡ set_of m root
  root-set h = set-add m new.parent new.set root (omega (arith, b.kept.sets))

  -- what waits still does
  pub waits-added : (u : Tree) → 0 < count x → waits m u ≡ true → waits m' u ≡ true
  unfolding waits
  waits-added u h w = rw (root-set h) w

  -- the trees so far fit with it
  pub trees-added : TreesBuilt x' m' x.elements.trees
  trees-added =
      let old = b.trees.all in
      record {
        all = record { valid = λ u h. tree-added u (old.valid u h); one_file = old.one_file; one_root = old.one_root };
        top = λ u h. kept-parent u.root (old.valid u h).in_range ∙ b.trees.top u h;
        waiting = λ u h. waits-added u (omega (arith, (old.valid u h).in_range)) (b.trees.waiting u h);
      }

  module _ (j : NewElementValid x new) (few : count x < element_limit) (low : new.depth ≤ depth_limit)
      (part : part_of new.set (declared_files x.schema) ≡ true) where
    owns-added : (p : Element) → Owns m' p
    owns-added p e h =
        let k : In (child e) (list_of m p) = rw (list-added p) at h in
        kept-parent e (b.kept.items p (child e) k) ∙ b.owns p e k

    -- an element's parent is the one it had, or the new element's
    parent-added : (e p : Element) → parent_of m' e ≡ some p
        → ((e < count x) × (parent_of m e ≡ some p)) ⊎ ((e ≡ count x) × (p < count x) × (new.depth ≡ suc (depth_of x p)))
    unfolding add_to_model
    parent-added e p =
        get_d-snoc
        (λ (o : Option Element).
        o ≡ some p → ((e < count x) × (parent_of m e ≡ some p)) ⊎ ((e ≡ count x) × (p < count x) × (new.depth ≡ suc (depth_of x p))))
        m.parents new.parent none e (λ h k. inl (rw b.kept.parents at h, k))
        (λ h k. let g : (p < count x) × (new.depth ≡ suc (depth_of x p)) = j.below p k in inr (h ∙ b.kept.parents, g.0, g.1))
        (λ h k. absurd (none-ne-some p k))

    kept-added : Kept x' (record { model = m'; log = [] })
    unfolding add_to_model content_items part_of
    kept-added =
        record {
          parents = simp length-append (omega (arith, b.kept.parents));
          sets = simp length-append (omega (arith, b.kept.sets));
          lists = simp length-append (omega (arith, b.kept.lists));
          items = λ p i h. item-added i (b.kept.items p i (rw (list-added p) at h));
          fits = λ p e h.
              let k : In (child e) (list_of m p) = rw (list-added p) at h in
              fits-added p e (b.kept.parent_range e p (b.owns p e k)) (b.kept.items p (child e) k) (b.kept.fits p e k);
          once = λ p. rw (list-added p) (b.kept.once p);
          deep = λ e p h.
              ⊎_elim
              (λ k. rw (kept-depth e k.0, kept-depth p (b.kept.parent_range e p k.1)) (b.kept.deep e p k.1))
              (λ k. rw (k.0, new-depth, kept-depth p k.1) k.2) (parent-added e p h);
          parent_range =
              λ e p h.
              rw length-append (⊎_elim (λ k. omega (arith, b.kept.parent_range e p k.1)) (λ k. omega (arith, k.1)) (parent-added e p h));
          declared =
              λ e.
              get_d-snoc (λ (f : FileSet). part_of f (declared_files x.schema) ≡ true) m.sets new.set 0 e (λ h. b.kept.declared e) (λ h. part)
              (λ h. refl);
          few_items = rw (total-add m new.parent new.set) b.kept.few_items;
          few_entries = zero-le;
          entries = each_nil _;
        }

    at_depth-added : new.depth ≤ length above → (k : ℕ) (p : Element) → get_elem? (take new.depth above ++ (count x ∷ [])) k ≡ some p
        → (p < count x') × (depth_of x' p ≡ k)
    at_depth-added deep k p h =
        ⊎_elim
        (λ g. let o : (p < count x) × (depth_of x p ≡ k) = b.at_depth k p g in (rw length-append (omega arith), kept-depth p o.0 ∙ o.1))
        (λ g. (rw length-append (omega (arith, g.1)), rw (g.1, g.0) new-depth)) (get_elem?-front above new.depth k p (count x) deep h)

    elements-added : ElementsValid x'.elements.names x'.elements.types x'.elements.depths
    elements-added =
        let old = b.elements in
        record {
          few = rw length-append (omega arith);
          types = simp length-append (omega (arith, old.types));
          depths = simp length-append (omega (arith, old.depths));
          shallow = λ e. get_d-snoc (λ (k : ℕ). k ≤ depth_limit) x.elements.depths new.depth 0 e (λ h. old.shallow e) (λ h. low) (λ h. zero-le);
          root_depth =
              get_d-snoc (λ (k : ℕ). k ≡ 0) x.elements.depths new.depth 0 root (λ h. old.root_depth) (λ h. (j.first (sym (h ∙ old.depths))).1) (λ h. refl);
          root_type =
              get_d-snoc (λ (k : ℕ). k ≡ 0) x.elements.types new.type 0 root (λ h. old.root_type) (λ h. (j.first (sym (h ∙ old.types))).2) (λ h. refl);
        }

    -- all holds with it
    pub built-added : new.depth ≤ length above → TreesBuilt x' m' trees
        → Built x' m' (take new.depth above ++ (count x ∷ []))
    unfolding add_to_model
    built-added deep whole =
        record {
          kept = kept-added;
          owns = owns-added;
          elements = elements-added;
          root_top =
              get_d-snoc (λ (o : Option Element). o ≡ none) m.parents new.parent none root (λ h. b.root_top) (λ h. (j.first (sym (h ∙ b.kept.parents))).0) (λ h. refl);
          at_depth = at_depth-added deep;
          trees = whole;
        }

-- ---- one more tree, its root the newest element

-- the trees fit with one more, of its own file and root
pub trees-more : {x : Fixed} {m : Model} {trees : List Tree} → TreesBuilt x m trees → (t : Tree) → TreeValid x t → parent_of m t.root ≡ none → waits m t ≡ true
    → ((u : Tree) → In u trees → u.file ≡ t.file → ⊥) → ((u : Tree) → In u trees → u.root ≡ t.root → ⊥) → TreesBuilt x m (trees ++ (t ∷ []))
trees-more {x} {m} {trees} b t f top wait file own =
    record {
      all =
          record {
            valid = each_snoc (TreeValid x) trees f b.all.valid;
            one_file = one Tree.file b.all.one_file file;
            one_root = one Tree.root b.all.one_root own;
          };
      top = each_snoc (λ (u : Tree). parent_of m u.root ≡ none) trees top b.top;
      waiting = each_snoc (λ (u : Tree). waits m u ≡ true) trees wait b.waiting;
    }
  where
    one : (k : Tree → ℕ) → ((u v : Tree) → In u trees → In v trees → k u ≡ k v → u ≡ v) → ((u : Tree) → In u trees → k u ≡ k t → ⊥)
        → (u v : Tree) → In u (trees ++ (t ∷ [])) → In v (trees ++ (t ∷ [])) → k u ≡ k v → u ≡ v
    one k old new u v h g e =
        ⊎_elim (λ i. ⊎_elim (λ j. old u v i j e) (λ (j : v ≡ t). absurd (new u i (e ∙ ap k j))) (in-snoc trees g))
        (λ (i : u ≡ t). ⊎_elim (λ j. absurd (new v j (sym e ∙ ap k i))) (λ j. i ∙ sym j) (in-snoc trees g)) (in-snoc trees h)

-- ---- one more content item, at the end of an element's list

-- other texts and trees
abbrev pub with_texts_and_trees : Fixed → List Text → List Tree → Fixed
with_texts_and_trees x texts trees =
    record {
      deck = x.deck;
      schema = x.schema;
      elements =
          record {
            names = x.elements.names;
            types = x.elements.types;
            depths = x.elements.depths;
            texts = texts;
            trees = trees;
          };
    }

abbrev pub with_texts : Fixed → List Text → Fixed
with_texts x texts = with_texts_and_trees x texts x.elements.trees

-- a child is new to the list, fits there and has the owner for its parent
abbrev pub ItemAllowed : Fixed → Model → Element → Item → Type 0
ItemAllowed x m p (child e) = ChildValid x p e × (parent_of m e ≡ some p) × (In (child e) (list_of m p) → ⊥)
ItemAllowed x m p (text t) = Unit {0}

module _ {x : Fixed} {m : Model} {above : List Element} (b : Built x m above) (texts : List Text) (p : Element) (i : Item) where
  fits_more : (q e : Element) → ChildValid x q e → ChildValid (with_texts x texts) q e
  fits_more q e f = record { depth = f.depth; row = f.row; found = f.found; type = f.type }

  tree-more : (t : Tree) → TreeValid x t → TreeValid (with_texts x texts) t
  tree-more t f = record { in_range = f.in_range; not_root = f.not_root; depth = f.depth; type = f.type; declared = f.declared }

  item-more : length x.elements.texts ≤ length texts → (a : Item) → ItemInRange x a → ItemInRange (with_texts x texts) a
  item-more more (child e) h = h
  item-more more (text t) h = omega arith

  once-put : (n : ℕ) (a : Item) → ItemAllowed x m p a → Once (children (insert_at (list_of m p) n a))
  once-put n (child e) h = once-insert e (list_of m p) n h.2 (b.kept.once p)
  once-put n (text t) h = rw children-insert-text (b.kept.once p)

  module _ (allowed : ItemAllowed x m p i) (item : ItemInRange (with_texts x texts) i) (more : length x.elements.texts ≤ length texts)
      (range : p < count x) (room : content_items m < item_limit) where
    in-put : (q : Element) (a : Item) → In a (list_of (append m p i) q) → ((q ≡ p) × (a ≡ i)) ⊎ In a (list_of m q)
    unfolding append
    in-put q a h = insert-in m p (length (list_of m p)) i q a h

    allowed_at : (q : Element) (a : Item) → (q ≡ p) × (a ≡ i) → ItemAllowed x m q a
    allowed_at q a h = rw (h.0, h.1) allowed

    kept_put : Kept (with_texts x texts) (record { model = append m p i; log = [] })
    unfolding append insert_item put_list content_items
    kept_put =
        record {
          parents = b.kept.parents;
          sets = b.kept.sets;
          lists = simp length-set b.kept.lists;
          items = λ q a h. ⊎_elim (λ k. rw k.1 item) (λ k. item-more more a (b.kept.items q a k)) (in-put q a h);
          fits = λ q e h. fits_more q e (⊎_elim (λ k. (allowed_at q (child e) k).0) (b.kept.fits q e) (in-put q (child e) h));
          once =
              λ q.
              insert-list m p (length (list_of m p)) i (λ (l : List Item). Once (children l)) q (λ e. rw e (once-put (length (list_of m p)) i allowed))
              (b.kept.once q);
          deep = b.kept.deep;
          parent_range = b.kept.parent_range;
          declared = b.kept.declared;
          few_items = rw (insert-items m p (length (list_of m p)) i (omega (arith, b.kept.lists))) room;
          few_entries = zero-le;
          entries = each_nil _;
        }

    -- all holds with the item
    pub built-put : Built (with_texts x texts) (append m p i) above
    unfolding append insert_item put_list waits
    built-put =
        record {
          kept = kept_put;
          owns = λ q e h. ⊎_elim (λ k. (allowed_at q (child e) k).1) (b.owns q e) (in-put q (child e) h);
          elements = b.elements;
          root_top = b.root_top;
          at_depth = b.at_depth;
          trees =
              let old = b.trees.all in
              record {
                all = record { valid = λ t h. tree-more t (old.valid t h); one_file = old.one_file; one_root = old.one_root };
                top = b.trees.top;
                waiting = b.trees.waiting;
              };
        }

-- ---- one more child

module _ {x : Fixed} {m : Model} {above : List Element} (b : Built x m above) where
  -- all holds with a new element and its item in the list of its parent
  pub built-child : (n : Name) (d : ℕ) (s : FileSet) (p : Element) (row : SubElement) → count x < element_limit → d ≤ depth_limit
      → content_items m < item_limit → part_of s (declared_files x.schema) ≡ true → p < count x → d ≡ suc (depth_of x p) → d ≤ length above
      → row_of_name x.schema (type_of x p) n ≡ some row
      → Built (with_element x (record { name = n; type = row.child_type; depth = d; parent = some p; set = s }) x.elements.trees)
      (add_to_model (append m p (child (count x))) (some p) s) (take d above ++ (count x ∷ []))
  unfolding add_to_model content_items
  built-child n d s p row few low room part range deep front found =
      let new : NewElement = record { name = n; type = row.child_type; depth = d; parent = some p; set = s } in
      let trees = x.elements.trees in
      let item = child (count x) in
      let joins : NewElementValid x new = record { below = λ q h. rw (sym (some-injective p q h)) (range, deep); first = λ h. absurd (omega arith) } in
      let added = built-added b new trees joins few low part front (trees-added b new trees) in
      let allowed : ItemAllowed (with_element x new trees) (add_to_model m (some p) s) p item = (
        new-fits b new trees p range deep row found refl,
        new-parent b new trees,
        λ h. omega (arith, b.kept.items p item (rw (get_d-snoc-default m.lists [] p) at h)),
      ) in
      rw (← append-added m p item (some p) s (rw b.kept.lists range))
      (built-put added x.elements.texts p item allowed (rw length-append (omega arith)) (le_refl _) (rw length-append (omega arith))
      (rw (total-add m (some p) s) room))

-- ---- what the finished load has

-- the invariant holds
pub built-inv : {x : Fixed} {m : Model} {above : List Element} → Built x m above → 0 < count x → 0 < set_of m root → Inv x (record { model = m; log = [] })
built-inv b h k =
    record {
      sound = record { static = record { some = h; elements = b.elements; trees = b.trees.all }; kept = b.kept; root_set = k };
      root_top = b.root_top;
      tree_top = b.trees.top;
      model = λ p _. b.owns p;
      waiting = λ t _ _ p _. b.owns p;
    }

-- ---- what no element yet has

-- all holds of no element
pub built-nothing : (deck : List ℕ) (sc : Schema) → Built (record { deck = deck; schema = sc; elements = nothing.elements }) nothing.model []
unfolding children content_items sum part_of
built-nothing deck sc =
    record {
      kept =
          record {
            parents = refl;
            sets = refl;
            lists = refl;
            items = λ p i h. absurd (Memᴰ.not-nil h);
            fits = λ p e h. absurd (Memᴰ.not-nil h);
            once = λ p. once-nil;
            deep = λ e p h. absurd (none-ne-some p h);
            parent_range = λ e p h. absurd (none-ne-some p h);
            declared = λ e. refl;
            few_items = zero-le;
            few_entries = zero-le;
            entries = each_nil _;
          };
      owns = λ p e h. absurd (Memᴰ.not-nil h);
      elements = record { few = zero-le; types = refl; depths = refl; shallow = λ e. zero-le; root_depth = refl; root_type = refl };
      root_top = refl;
      at_depth = λ d p h. absurd (none-ne-some p h);
      trees =
          record {
            all =
                record {
                  valid = each_nil _;
                  one_file = λ t u h. absurd (Memᴰ.not-nil h);
                  one_root = λ t u h. absurd (Memᴰ.not-nil h);
                };
            top = each_nil _;
            waiting = each_nil _;
          };
    }
