-- What a level of a merge does to the model. Assumes nothing.
use mathlib.Core.Bool.{true, false}
use mathlib.Core.List.Memᴰ
use mathlib.Core.List.{List, [], ◌∷◌, ◌++◌}
use mathlib.Core.Logic.{◌⊎◌, inl, inr, ⊎_elim}
use mathlib.Core.Option.{some, mem_unique, none-ne-some}
use mathlib.Core.Path.{◌≡◌, refl, sym, ap, subst, ◌∙◌}
use Prim.Native.Nat.{ℕ, zero, suc, ◌+◌, ◌<◌}
use native.Mathlib.Omega.{arith}
use borrow.Author.Tests.{ne_eqb}
use lib.Dec.{eqb}
use lib.ListN.{length}
use Rattle.tables.specs.FileSets.{no_set, holds, part_of, loaded_files}
use Rattle.tables.specs.Limits.{item_limit, log_limit}
use Rattle.tables.specs.Records.{Element, FileNumber, FileSet, Version, Tree, child, Model, import, State, Fixed, root, name_of, type_of, depth_of, parent_of, set_of, list_of, content_items}
use Rattle.tables.proofs.Laws.Cases.{bool_case}
use Rattle.deck.specs.Schema.{declared_files, declares_file, splittable_in}
use Rattle.merge_rules.specs.Import.{adopt, clamp, import_single_item, import_new_items}
use Rattle.merge_rules.specs.Level.{restrict_elements, files_of_pair, extend_pair, keyed, import_instead, fall_back, settle_conflict, settle, merge_sub_elements, merge_plan, level_version, merge_element}
use Rattle.merge_rules.specs.Log.{restrict, is_root_extension}
use Rattle.merge_rules.specs.Pairing.{children, children_of, Pair, NewItem, Plan, walk_level, first_used_twice}
use Rattle.merge_rules.specs.Range.{calc_element_insert_range}
use Rattle.merge_rules.specs.Refusals.{Outcome}
use Rattle.merge_rules.specs.Sound.{In, count, Once, ChildValid, Kept}
use Rattle.merge_rules.proofs.Laws.Cases.{same-or-other, option-case, range-case, IfDone, is_done, is_conflict, is_refused, done-map, done-bind}
use Rattle.merge_rules.proofs.Laws.Chains.{Deep, under-cast, under-trans, not-above, siblings, tree-disjoint, Common, at, up, common-left, common-trans}
use Rattle.merge_rules.proofs.Laws.Changes.{restrict-ok, extend-ok, import-ok, kept-restrict, kept-extend, kept-import}
use Rattle.merge_rules.proofs.Laws.Invariant.{Under, here, below, Inv}
use Rattle.merge_rules.proofs.Laws.Children.{same-type, child-moved}
use Rattle.merge_rules.proofs.Laws.Lists.{Within, within-head, within-tail, within-append, once-head, once-tail, once-right, child-same, children-in}
use Rattle.merge_rules.proofs.Laws.Models.{adopt-list-other, adopt-parent, adopt-parent-other, adopt-set-other, adopt-in}
use Rattle.merge_rules.proofs.Laws.Moves.{still, more, unmarked-steps, Moves, MergeSteps, Closed, merge-steps-widen, merge-steps-map, merge-steps-trans, merge-steps-still, merge-steps-put}
use Rattle.merge_rules.proofs.Laws.Steps.{restricts, extends, imports, Steps}
use Rattle.merge_rules.proofs.Laws.Undo.{steps-append, rollback-steps}
use Rattle.merge_rules.proofs.Laws.Walks.{imported, paired_a, paired_b, PlanFits, WalkFits, walked-case, level-fits, used-once}

-- ---- what is left to a level

-- under p, and under none of these children of p
pub record UnderExcept (start : Model) (p : Element) (cs : List Element) (e : Element) : Type 0 where
  pub under : Under start p e
  pub outside : (c : Element) → In c cs → Under start c e → ⊥

-- and not p itself
pub record StrictlyUnderExcept (start : Model) (p : Element) (cs : List Element) (e : Element) : Type 0 where
  pub within : UnderExcept start p cs e
  pub strict : e ≡ p → ⊥

-- what holds before the level of a and b
pub record Ready (x : Fixed) (start : Model) (r : Element) (files : FileSet) (a b : Element) (t : State) : Type 0 where
  pub in_model : Under start root a
  pub in_tree : Under start r b
  pub range : a < count x
  pub depth : depth_of x a ≡ depth_of x b
  pub type : type_of x a ≡ type_of x b
  pub declared : part_of files (declared_files x.schema) ≡ true
  pub kept : Kept x t
  pub lists_a : (p : Element) → Under start a p → list_of t.model p ≡ list_of start p
  pub lists_b : (p : Element) → Under start r p → list_of t.model p ≡ list_of start p
  pub parents : (e : Element) → Under start b e → parent_of t.model e ≡ parent_of start e

-- a level of a and b is done
abbrev pub Level : Fixed → Model → Element → Element → State → State → Type 0
Level x start a b t u = MergeSteps x start (Under start a) (Under start b) b t u

closed-strict : {start : Model} {b : Element} (cs : List Element) → Closed start (StrictlyUnderExcept start b cs) b
closed-strict {start} {b} cs e q f h = go f.within.under
  where
    go : Under start b e → (q ≡ b) ⊎ StrictlyUnderExcept start b cs q
    go (here z) = absurd (f.strict z)
    go (below k u) =
        ⊎_elim inl
        (λ n.
        inr (record { within = record { under = under-cast (mem_unique k h) u; outside = λ c i v. f.within.outside c i (below h v) }; strict = n }))
        (same-or-other q b)

-- a child's item is in its parent's list
pub in_list : (m : Model) (p : Element) {e : Element} → In e (children_of m p) → In (child e) (list_of m p)
unfolding children_of
in_list m p i = children-in (list_of m p) i

except-tail : {start : Model} {p c : Element} {cs : List Element} (e : Element) → UnderExcept start p (c ∷ cs) e → UnderExcept start p cs e
except-tail e h = record { under = h.under; outside = λ c i. h.outside c (Memᴰ.tail i) }

strict-tail : {start : Model} {p c : Element} {cs : List Element} (e : Element) → StrictlyUnderExcept start p (c ∷ cs) e → StrictlyUnderExcept start p cs e
strict-tail e h = record { within = except-tail e h.within; strict = h.strict }

-- the element imported is the one moved, and the list that it goes to the one changed
import-moves : {start : Model} {a b c : Element} (f : FileNumber) (place : ℕ) (m : Model) → c < length m.parents
    → parent_of start c ≡ some b → Moves start (λ (p : Element). p ≡ a) (λ (e : Element). e ≡ c) b m (adopt f a c place m)
import-moves {start} {a} {b} {c} f place m range owned =
    let given : parent_of (adopt f a c place m) c ≡ some a = adopt-parent f a c place m range in
    record {
      lists = adopt-list-other f a c place m;
      new =
          λ p e i.
          ⊎_elim
          (λ h. inr (ap (parent_of (adopt f a c place m)) (child-same h.1) ∙ given ∙ ap some (sym h.0), child-same h.1))
          inl (adopt-in f a c place m p (child e) i);
      parents =
          λ e.
          ⊎_elim
          (λ z.
          inr
          (record {
            within = z;
            owner = b;
            owned = ap (parent_of start) z ∙ owned;
            chain = at refl;
            parent = a;
            given = ap (parent_of (adopt f a c place m)) z ∙ given;
            taken = refl;
          }))
          (λ n. inl (adopt-parent-other f a c place m e n)) (same-or-other e c);
    }

-- ---- within one merge

module _ (x : Fixed) (s : State) (inv : Inv x s) (tr : Tree) (among : In tr x.elements.trees)
    (waits : holds (loaded_files s.model) tr.file ≡ false) where
  abbrev start : Model
  start = s.model

  deep : Deep x start
  deep = inv.sound.kept.deep

  known : declares_file x.schema tr.file ≡ true
  known = (inv.sound.static.trees.valid tr among).declared

  not_root_lem : {e p : Element} → parent_of start e ≡ some p → e ≡ root → ⊥
  not_root_lem h z = none-ne-some _ (sym (ap (parent_of start) z ∙ inv.root_top) ∙ h)

  child-range : (p : Element) {e : Element} → In e (children_of start p) → e < count x
  child-range p {e} i = inv.sound.kept.items p (child e) (in_list start p i)

  child_fits : (p : Element) {e : Element} → In e (children_of start p) → ChildValid x p e
  child_fits p {e} i = inv.sound.kept.fits p e (in_list start p i)

  -- what lies under one child of an element lies under no other
  except-child : {p c : Element} {cs : List Element} → ((e : Element) → In e (c ∷ cs) → parent_of start e ≡ some p) → Once (c ∷ cs)
      → (e : Element) → Under start c e → UnderExcept start p cs e
  except-child {c = c} own once e v =
      let first = own c (Memᴰ.head refl) in
      record {
        under = under-trans (below first (here refl)) v;
        outside = λ d i w. once-head once (Memᴰ.cast (siblings x deep first (own d (Memᴰ.tail i)) v w) i);
      }

  -- ---- one level

  module _ (files : FileSet) (a b : Element) (t : State) (ready : Ready x start tr.root files a b t) where
    -- these children of a and b are still to come
    abbrev pub Pending : List Element → List Element → State → Type 0
    Pending as' cs u = MergeSteps x start (UnderExcept start a as') (StrictlyUnderExcept start b cs) b t u

    -- behind a step of the level these are still to come, or a path of changes ends in a conflict
    abbrev LevelStep : List Element → List Element → Outcome → Type 0
    LevelStep as' cs o = IfDone (Pending as' cs) (Steps t) o

    parent_a : {e : Element} → In e (children_of start a) → parent_of start e ≡ some a
    parent_a {e} i = inv.model a ready.in_model e (in_list start a i)

    parent_b : {e : Element} → In e (children_of start b) → parent_of start e ≡ some b
    parent_b {e} i = inv.waiting tr among waits b ready.in_tree e (in_list start b i)

    children_a : children_of t.model a ≡ children_of start a
    unfolding children_of
    children_a = ap children (ready.lists_a a (here refl))

    pub children_b : children_of t.model b ≡ children_of start b
    unfolding children_of
    children_b = ap children (ready.lists_b b ready.in_tree)

    pub once_a : Once (children_of start a)
    unfolding children_of
    once_a = subst Once children_a (ready.kept.once a)

    pub walk-fits : (v : Version) → WalkFits x (children_of start a) (children_of start b) (walk_level x t.model v a b)
    unfolding children_of
    walk-fits v = rw (children_a, children_b) at (level-fits x t.model v a b)

    -- ---- restrictions

    restrict-pending : {as' cs : List Element} {u : State} (e : Element) (v : FileSet) → In e (children_of start a)
        → part_of v (declared_files x.schema) ≡ true → Pending as' cs u
        → LevelStep as' cs (restrict e v u)
    unfolding is_root_extension
    restrict-pending {u} e v i part pending =
        restrict-ok u e v
        (λ few.
        merge-steps-put pending e v (not_root_lem (parent_a i)) (restricts e v) refl (kept-restrict pending.kept e v (child-range a i) part few))

    pub restrictions-pending : {as' cs : List Element} (l : List Element) → Within l (children_of start a)
        → (u : State) → Pending as' cs u → LevelStep as' cs (restrict_elements files l u)
    unfolding restrict_elements
    restrictions-pending [] within u pending = is_done pending
    restrictions-pending {as'} {cs} (e ∷ l) within u pending =
        bool_case (LevelStep as' cs) (eqb (set_of u.model e) no_set)
        (λ _.
        done-bind (restrict-pending e files (within-head within) ready.declared pending)
        (restrictions-pending l (within-tail within)))
        (λ _. restrictions-pending l (within-tail within) u pending)

    -- ---- imports

    import-fits : {c : Element} → In c (children_of start b) → ChildValid x a c
    import-fits i = child-moved (sym ready.type) (child_fits b i) (sym ready.depth)

    fresh : {as' cs : List Element} {u : State} {c : Element} → In c (children_of start b) → Pending as' (c ∷ cs) u
        → In (child c) (list_of u.model a) → ⊥
    fresh {c = c} i pending h =
        ⊎_elim
        (λ k.
        let p : parent_of start c ≡ some a = inv.model a ready.in_model c (rw (ready.lists_a a (here refl)) at k) in
        tree-disjoint inv tr among ready.in_model (under-cast (mem_unique (parent_b i) p) ready.in_tree))
        (λ k. k.1.within.outside c (Memᴰ.head refl) (here refl)) (pending.moves.new a c h)

    -- the list of a lies under none of its children
    except-self : {as' : List Element} → Within as' (children_of start a) → (p : Element) → p ≡ a → UnderExcept start a as' p
    except-self within p z = record { under = here z; outside = λ c i v. not-above x deep (parent_a (within c i)) (under-cast z v) }

    strict_child : {c : Element} {cs : List Element} → Within (c ∷ cs) (children_of start b) → Once (c ∷ cs)
        → (e : Element) → Under start c e → StrictlyUnderExcept start b cs e
    strict_child {c} within once e v =
        record {
          within = except-child (λ d i. parent_b (within d i)) once e v;
          strict = λ z. not-above x deep (parent_b (within-head within)) (under-cast z v);
        }

    -- a stretch that moves nothing but what lies under the next child of b
    pending-more : {as' cs : List Element} {u w : State} (c : Element) → Within (c ∷ cs) (children_of start b) → Once (c ∷ cs)
        → Pending as' (c ∷ cs) u → MergeSteps x start (UnderExcept start a as') (Under start c) b u w
        → Pending as' cs w
    pending-more {cs = cs} c within once pending h =
        merge-steps-widen (λ p k. k) (λ e. ⊎_elim (strict-tail e) (strict_child within once e))
        (merge-steps-trans (closed-strict (c ∷ cs)) (λ e k v. k.within.outside c (Memᴰ.head refl) v) pending h)

    import-pending : {as' cs : List Element} {u : State} (c : Element) (place : ℕ) → Within as' (children_of start a)
        → Within (c ∷ cs) (children_of start b) → Once (c ∷ cs) → Pending as' (c ∷ cs) u
        → length u.log < log_limit → content_items u.model < item_limit
        → Pending as' cs
        (record { model = adopt tr.file a c place u.model; log = import c a (parent_of u.model c) (set_of u.model c) ∷ u.log })
    unfolding is_root_extension
    import-pending {u = u} c place within_a within_b once pending few room =
        let i : In c (children_of start b) = within-head within_b in
        pending-more c within_b once pending
        (merge-steps-widen (except-self within_a) (λ e z. here z)
        (record {
          unmarked = more still (imports tr.file a c place (fresh i pending)) refl;
          kept = kept-import pending.kept tr.file a c place ready.range (child-range b i) (import-fits i) (fresh i pending) known few room;
          root_set = adopt-set-other tr.file a c place u.model root (λ z. not_root_lem (parent_b i) (sym z));
          moves =
              import-moves tr.file place u.model (omega (arith, child-range b i, pending.kept.parents)) (parent_b i);
        }))

    new-item : {as' cs : List Element} (v : Version) (c : Element) (wanted : ℕ) (u : State)
        → Within as' (children_of start a) → Within (c ∷ cs) (children_of start b)
        → Once (c ∷ cs) → Pending as' (c ∷ cs) u
        → LevelStep as' cs (import_single_item x tr.file v a c wanted u)
    unfolding import_single_item
    new-item {as'} {cs} v c wanted u within_a within_b once pending =
        range-case (LevelStep as' cs) (calc_element_insert_range x u.model a (name_of x c) v)
        (λ i j. import-ok u tr.file a c (clamp wanted i j) (λ few room. import-pending c (clamp wanted i j) within_a within_b once pending few room))
        is_refused (is_conflict (unmarked-steps pending.unmarked))

    pub new_items : {as' : List Element} (cs : List Element) (v : Version) (index : ℕ) (l : List NewItem)
        → Within as' (children_of start a)
        → Within (imported l ++ cs) (children_of start b) → Once (imported l ++ cs)
        → (u : State) → Pending as' (imported l ++ cs) u
        → LevelStep as' cs (import_new_items x tr.file v a index l u)
    unfolding import_new_items
    new_items cs v index [] within_a within_b once u pending = is_done pending
    new_items cs v index (i ∷ l) within_a within_b once u pending =
        done-bind (new-item v i.element (i.position + index) u within_a within_b once pending)
        (new_items cs v (suc index) l within_a (within-tail within_b) (once-tail once))

    -- ---- pairs

    own-files : (m : Model) (e : Element) → part_of (set_of m e) (declared_files x.schema) ≡ true
        → part_of (files_of_pair files m e) (declared_files x.schema) ≡ true
    unfolding files_of_pair
    own-files m e h =
        bool_case (λ (v : FileSet). part_of v (declared_files x.schema) ≡ true) (eqb (set_of m e) no_set) (λ _. ready.declared) (λ _. h)

    module _ (q : Pair) (in_a : In q.a (children_of start a)) (in_b : In q.b (children_of start b))
        (names : name_of x q.a ≡ name_of x q.b) where
      pair-type : type_of x q.a ≡ type_of x q.b
      pair-type = same-type ready.type (child_fits a in_a) (child_fits b in_b) names

      pub ready-pair : {as' cs : List Element} {u : State} → Pending (q.a ∷ as') (q.b ∷ cs) u
          → Ready x start tr.root (files_of_pair files u.model q.a) q.a q.b u
      ready-pair {u = u} pending =
          record {
            in_model = below (parent_a in_a) ready.in_model;
            in_tree = below (parent_b in_b) ready.in_tree;
            range = child-range a in_a;
            depth = (child_fits a in_a).depth ∙ sym (import-fits in_b).depth;
            type = pair-type;
            declared = own-files u.model q.a (pending.kept.declared q.a);
            kept = pending.kept;
            lists_a =
                λ p h.
                pending.moves.lists p (λ k. k.outside q.a (Memᴰ.head refl) h) ∙ ready.lists_a p (under-trans (below (parent_a in_a) (here refl)) h);
            lists_b = λ p h. pending.moves.lists p (λ k. tree-disjoint inv tr among (under-trans ready.in_model k.under) h) ∙ ready.lists_b p h;
            parents =
                λ e h.
                ⊎_elim (λ k. k ∙ ready.parents e (under-trans (below (parent_b in_b) (here refl)) h))
                (λ k. absurd (k.within.within.outside q.b (Memᴰ.head refl) h)) (pending.moves.parents e);
          }

      pair-above : {as' cs : List Element} {u w : State} → Pending (q.a ∷ as') (q.b ∷ cs) u → Level x start q.a q.b u w
          → Common start w.model b q.b
      pair-above pending h =
          ⊎_elim (λ k. up (parent_b in_b) (k ∙ (ready-pair pending).parents q.b (here refl) ∙ parent_b in_b) (at refl))
          (λ k. absurd (not-above x deep k.owned (common-left k.chain))) (h.moves.parents q.b)

    module _ (v : Version) (q : Pair) (as' cs : List Element) (within_a : Within (q.a ∷ as') (children_of start a))
        (within_b : Within (q.b ∷ cs) (children_of start b)) (once_a : Once (q.a ∷ as')) (once_b : Once (q.b ∷ cs))
        (names : name_of x q.a ≡ name_of x q.b) (u : State) (pending : Pending (q.a ∷ as') (q.b ∷ cs) u) where
      -- A's own set, else the level's
      abbrev own : FileSet
      own = files_of_pair files u.model q.a

      is_a : In q.a (children_of start a)
      is_a = within-head within_a

      is_b : In q.b (children_of start b)
      is_b = within-head within_b

      level-pending : {w : State} → Level x start q.a q.b u w → Pending as' cs w
      level-pending h =
          pending-more q.b within_b once_b (merge-steps-widen except-tail (λ e k. k) pending)
          (merge-steps-map (except-child (λ e i. parent_a (within_a e i)) once_a) (λ e k. k) (λ e c. common-trans (pair-above q is_a is_b names pending h) c) h)

      extend-pending : (w : State) → Pending as' cs w → LevelStep as' cs (extend_pair tr.file q.a w)
      unfolding extend_pair is_root_extension
      extend-pending w h =
          bool_case (LevelStep as' cs) (eqb (set_of w.model q.a) no_set) (λ _. is_done h)
          (λ _.
          extend-ok w q.a tr.file (λ _. h)
          (λ absent few.
          merge-steps-put h q.a _ (not_root_lem (parent_a is_a)) (extends q.a tr.file absent) (ne_eqb q.a root (not_root_lem (parent_a is_a)))
          (kept-extend h.kept q.a tr.file (child-range a is_a) known few)))

      instead-pending : (e : Element) (w : State) → Pending (q.a ∷ as') (q.b ∷ cs) w
          → LevelStep as' cs (import_instead x tr.file v a q e w)
      unfolding import_instead
      instead-pending e w h =
          range-case (LevelStep as' cs) (calc_element_insert_range x w.model a (name_of x q.b) v)
          (λ i j.
          import-ok w tr.file a q.b _
          (λ few room. merge-steps-widen except-tail (λ c k. k) (import-pending q.b _ within_a within_b once_b h few room)))
          (is_conflict (unmarked-steps h.unmarked)) (is_conflict (unmarked-steps h.unmarked))

      fall_back-pending : (e : Element) (w : State) → Steps u w
          → LevelStep as' cs (fall_back x tr.file v a q own (length u.log) e w)
      unfolding fall_back
      fall_back-pending e w path =
          rw (rollback-steps path)
          (done-bind (restrict-pending q.a _ is_a (own-files u.model q.a (pending.kept.declared q.a)) pending) (instead-pending e))

      conflict-pending : (e : Element) (w : State) → Steps u w
          → LevelStep as' cs (settle_conflict x tr.file v a q own (length u.log) e w)
      unfolding settle_conflict
      conflict-pending e w path =
          bool_case (LevelStep as' cs) (keyed x w.model q.a) (λ _. is_refused)
          (λ _.
          bool_case (LevelStep as' cs) (splittable_in x.schema (type_of x a) v) (λ _. fall_back-pending e w path)
          (λ _. is_conflict (steps-append (unmarked-steps pending.unmarked) path)))

      pub settle-pending : {o : Outcome} → IfDone (Level x start q.a q.b u) (Steps u) o
          → LevelStep as' cs (settle x tr.file v a q own (length u.log) o)
      unfolding settle
      settle-pending (is_done {t = w} h) = extend-pending w (level-pending h)
      settle-pending (is_conflict {e} {t = w} path) = conflict-pending e w path
      settle-pending is_refused = is_refused

    module _ (lower : FileSet → Element → Element → State → Outcome)
        (lower_ok : (own : FileSet) (c d : Element) (u : State) → Ready x start tr.root own c d u
        → IfDone (Level x start c d u) (Steps u) (lower own c d u)) (v : Version) where
      pairs-pending : (qs : List Pair) → Within (paired_a qs) (children_of start a)
          → Within (paired_b qs) (children_of start b) → Once (paired_a qs) → Once (paired_b qs)
          → ((q : Pair) → In q qs → name_of x q.a ≡ name_of x q.b) → (u : State) → Pending (paired_a qs) (paired_b qs) u
          → LevelStep [] [] (merge_sub_elements lower x tr.file v a files qs u)
      unfolding merge_sub_elements
      pairs-pending [] within_a within_b once_a once_b names u pending = is_done pending
      pairs-pending (q ∷ qs) within_a within_b once_a once_b names u pending =
          let same : name_of x q.a ≡ name_of x q.b = names q (Memᴰ.head refl) in
          done-bind
          (settle-pending v q (paired_a qs) (paired_b qs) within_a within_b once_a once_b same u pending
          (lower_ok (files_of_pair files u.model q.a) q.a q.b u
          (ready-pair q (within-head within_a) (within-head within_b) same pending)))
          (pairs-pending qs (within-tail within_a) (within-tail within_b) (once-tail once_a) (once-tail once_b)
          (λ p i. names p (Memᴰ.tail i)))

      -- ---- the level

      plan-ok : (p : Plan) → PlanFits x (children_of start a) (children_of start b) p
          → IfDone (Level x start a b t) (Steps t) (merge_plan lower x tr.file v files a b p t)
      unfolding merge_plan
      plan-ok p fits =
          option-case (IfDone (Level x start a b t) (Steps t)) (first_used_twice p (children_of t.model b))
          (λ h.
          let once : Once (imported p.imports ++ paired_b p.pairs) =
          used-once fits (ap (first_used_twice p) (sym children_b) ∙ h) in
          done-map (λ u. merge-steps-widen (λ q k. k.under) (λ e k. k.within.under))
          (done-bind
          (done-bind (restrictions-pending p.restrictions fits.restrictions t (merge-steps-still ready.kept))
          (new_items (paired_b p.pairs) _ 0 p.imports fits.pairs_a
          (within-append fits.imports fits.pairs_b) once))
          (pairs-pending p.pairs fits.pairs_a fits.pairs_b (fits.once_a once_a) (once-right (imported p.imports) once) fits.names)))
          (λ c _. is_refused)

  -- a level that is done is one of a and b; one that ends in a conflict is a path of changes
  pub level-ok : (d : ℕ) (files : FileSet) (a b : Element) (t : State) → Ready x s.model tr.root files a b t
      → IfDone (Level x s.model a b t) (Steps t) (merge_element d x tr.file files a b t)
  unfolding merge_element
  level-ok zero files a b t ready = is_refused
  level-ok (suc d) files a b t ready =
      walked-case (IfDone (Level x s.model a b t) (Steps t)) (walk-fits files a b t ready (level_version x tr.file files))
      (λ p fits. plan-ok files a b t ready (merge_element d x tr.file) (level-ok d) (level_version x tr.file files) p fits)
      is_refused
