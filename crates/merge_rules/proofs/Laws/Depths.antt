-- Depths: each listed element is one deeper than its list's owner, in every state that a merge reaches, so that 32 levels never run out.
-- Assumes nothing.
use mathlib.Core.Bool.{Bool, true, false, ◌&&◌, and-eq-true_iff}
use mathlib.Core.List.Memᴰ
use mathlib.Core.List.{List, [], ◌∷◌, map}
use mathlib.Core.Logic.{◌⊎◌, inl, inr, ⊎_elim}
use mathlib.Core.Option.{Option, none, some}
use mathlib.Core.Path.{◌≡◌, refl, sym, ap, subst, ◌∙◌}
use Prim.Native.Nat.{ℕ, zero, suc, ◌+◌, ◌≤◌, ◌<◌}
use native.Mathlib.Omega.{arith}
use lib.Dec.{eqb, leb, ltb}
use lib.ListN.{length, get_or}
use Rattle.tables.specs.FileSets.{no_set}
use Rattle.tables.specs.Limits.{depth_limit}
use Rattle.tables.specs.Lists.{remove_at}
use Rattle.tables.specs.Records.{Element, FileNumber, FileSet, Version, Item, child, text, Model, Entry, import, restriction, extension, Log, State, Fixed, name_of, type_of, depth_of, set_of, list_of, put_parent, put_set, put_list, remove_item}
use Rattle.deck.specs.Schema.{version_of, splittable_in}
use Rattle.merge_rules.specs.Import.{import_at, clamp, import_single_item, import_new_items}
use Rattle.merge_rules.specs.Level.{restrict_elements, files_of_pair, extend_pair, keyed, place_behind, import_instead, fall_back, settle_conflict, settle, merge_sub_elements, merge_plan, level_version, merge_element}
use Rattle.merge_rules.specs.Log.{first_place_of, take_out, undo, undo_to, rollback_merge, restrict}
use Rattle.merge_rules.specs.Pairing.{children_of, Pair, NewItem, Plan, Walked, planned, unmergeable_in, walk_level, first_used_twice}
use Rattle.merge_rules.specs.Range.{calc_element_insert_range}
use Rattle.merge_rules.specs.Refusals.{Outcome, done, conflict, refused, unmergeable, used_twice, ◌>>=◌}
use Rattle.merge_rules.specs.Sound.{In}
use Rattle.merge_rules.proofs.Laws.Cases.{option-case, range-case, IfDone, is_done, is_conflict, is_refused, done-bind}
use Rattle.merge_rules.proofs.Laws.Changes.{restrict-ok, extend-ok, import-ok}
use Rattle.merge_rules.proofs.Laws.Lists.{get_d_set, child-same, children-in, within-head, within-tail, Within}
use Rattle.merge_rules.proofs.Laws.Models.{adopt-in}
use Rattle.merge_rules.proofs.Laws.Walks.{imported, paired_a, paired_b, PlanFits, WalkFits, is_planned, is_unmergeable, walked-case, level-fits}
use Rattle.tables.proofs.Laws.Cases.{bool_case}

in_remove : {A : Type 0} (l : List A) (n : ℕ) {a : A} → In a (remove_at l n) → In a l
unfolding remove_at
in_remove [] n h = h
in_remove (x ∷ l) zero h = Memᴰ.tail h
in_remove (x ∷ l) (suc n) h = ⊎_elim (λ e. Memᴰ.head e) (λ k. Memᴰ.tail (in_remove l n k)) (Memᴰ.cases_cons h)

-- a choice by whether there is a plan, the same for each plan
plan-case : {x : Fixed} {as' bs : List Element} {w : Walked} {u v : Plan → Outcome} (z : Outcome) → WalkFits x as' bs w
    → ((p : Plan) → PlanFits x as' bs p → u p ≡ v p) → ◌≡◌ {A = Outcome} (elim w [ planned p ↦ u p | unmergeable_in ↦ z ]) (elim w [ planned p ↦ v p | unmergeable_in ↦ z ])
plan-case z (is_planned {p} h) same = same p h
plan-case z is_unmergeable same = refl

-- a choice by whether a child is used twice, the same where none is
twice-case : (z : Element → Outcome) (o : Option Element) {u v : Outcome} → u ≡ v
    → ◌≡◌ {A = Outcome} (elim o [ some c ↦ z c | none ↦ u ]) (elim o [ some c ↦ z c | none ↦ v ])
twice-case z none same = same
twice-case z (some c) same = refl

-- a step more, the same for each state that it may begin in
bind-same : {D C : State → Type 0} {o : Outcome} {f g : State → Outcome} → IfDone D C o → ((t : State) → D t → f t ≡ g t) → (o >>= f) ≡ (o >>= g)
unfolding ◌>>=◌
bind-same (is_done {t} h) k = k t h
bind-same (is_conflict h) k = refl
bind-same is_refused k = refl

module _ (x : Fixed) where
  -- each listed element is one deeper than its list's owner
  abbrev pub OneDeeper : State → Type 0
  OneDeeper s = (p e : Element) → In (child e) (list_of s.model p) → depth_of x e ≡ suc (depth_of x p)

  abbrev Keeps : Outcome → Type 0
  Keeps o = IfDone OneDeeper OneDeeper o

  -- ---- undoing

  take_out_lem : (e p : Element) (m : Model) (l : Log) → OneDeeper (record { model = m; log = l }) → OneDeeper (record { model = take_out e p m; log = l })
  unfolding take_out remove_item put_list
  take_out_lem e p m l h =
      option-case (λ (k : Model). (q c : Element) → In (child c) (list_of k q) → depth_of x c ≡ suc (depth_of x q)) (first_place_of e (list_of m p)) (λ _. h)
      (λ i _ q c.
      get_d_set (λ (k : List Item). In (child c) k → depth_of x c ≡ suc (depth_of x q)) m.lists p (remove_at (list_of m p) i) [] q
      (λ same k. rw same (h p c (in_remove (list_of m p) i k))) (h q c))

  undo-keeps : (a : Entry) (m : Model) (l : Log) → OneDeeper (record { model = m; log = l }) → OneDeeper (record { model = undo a m; log = l })
  unfolding undo put_parent put_set
  undo-keeps (import e p old_parent old_set) m l h = take_out_lem e p m l h
  undo-keeps (restriction e old_set) m l h = h
  undo-keeps (extension e f) m l h = h

  undo-all : (mark : ℕ) (l : Log) (m : Model) → OneDeeper (record { model = m; log = l }) → OneDeeper (undo_to mark l m)
  unfolding undo_to
  undo-all mark [] m h = h
  undo-all mark (a ∷ l) m h =
      bool_case OneDeeper (leb mark (length l)) (λ _. undo-all mark l (undo a m) (undo-keeps a m l h)) (λ _. h)

  rollback-keeps : (mark : ℕ) (s : State) → OneDeeper s → OneDeeper (rollback_merge mark s)
  unfolding rollback_merge
  rollback-keeps mark s h = undo-all mark s.log s.model h

  -- ---- changes

  restrict-keeps : (e : Element) (files : FileSet) (s : State) → OneDeeper s → Keeps (restrict e files s)
  unfolding put_set
  restrict-keeps e files s h = restrict-ok s e files (λ _. h)

  import-keeps : (f : FileNumber) (p e : Element) (at : ℕ) (s : State) → depth_of x e ≡ suc (depth_of x p) → OneDeeper s → Keeps (import_at f p e at s)
  import-keeps f p e at s deeper h =
      import-ok s f p e at
      (λ _ _ q c k. ⊎_elim (λ n. rw (n.0, child-same n.1) deeper) (h q c) (adopt-in f p e at s.model q (child c) k))

  elements-keep : (files : FileSet) (as' : List Element) (s : State) → OneDeeper s → Keeps (restrict_elements files as' s)
  unfolding restrict_elements
  elements-keep files [] s h = is_done h
  elements-keep files (a ∷ as') s h =
      bool_case Keeps (eqb (set_of s.model a) no_set) (λ _. done-bind (restrict-keeps a files s h) (elements-keep files as'))
      (λ _. elements-keep files as' s h)

  single-keeps : (f : FileNumber) (v : Version) (p e : Element) (wanted : ℕ) (s : State) → depth_of x e ≡ suc (depth_of x p) → OneDeeper s
      → Keeps (import_single_item x f v p e wanted s)
  unfolding import_single_item
  single-keeps f v p e wanted s deeper h =
      range-case Keeps (calc_element_insert_range x s.model p (name_of x e) v) (λ i j. import-keeps f p e (clamp wanted i j) s deeper h) is_refused
      (is_conflict h)

  items_keep : (f : FileNumber) (v : Version) (p : Element) (index : ℕ) (is : List NewItem)
      → ((e : Element) → In e (imported is) → depth_of x e ≡ suc (depth_of x p)) → (s : State) → OneDeeper s → Keeps (import_new_items x f v p index is s)
  unfolding import_new_items
  items_keep f v p index [] deeper s h = is_done h
  items_keep f v p index (i ∷ is) deeper s h =
      done-bind (single-keeps f v p i.element (i.position + index) s (deeper i.element (Memᴰ.head refl)) h)
      (items_keep f v p (suc index) is (λ e k. deeper e (Memᴰ.tail k)))

  -- ---- a pair

  module _ (f : FileNumber) (v : Version) (p : Element) (q : Pair) (deeper : depth_of x q.b ≡ suc (depth_of x p)) where
    instead-keeps : (e : Element) (s : State) → OneDeeper s → Keeps (import_instead x f v p q e s)
    unfolding import_instead
    instead-keeps e s h =
        range-case Keeps (calc_element_insert_range x s.model p (name_of x q.b) v)
        (λ i j. import-keeps f p q.b (clamp (place_behind s.model p q.a) i j) s deeper h) (is_conflict h) (is_conflict h)

    conflict-keeps : (files : FileSet) (mark : ℕ) (e : Element) (s : State) → OneDeeper s → Keeps (settle_conflict x f v p q files mark e s)
    unfolding settle_conflict fall_back
    conflict-keeps files mark e s h =
        bool_case Keeps (keyed x s.model q.a) (λ _. is_refused)
        (λ _.
        bool_case Keeps (splittable_in x.schema (type_of x p) v)
        (λ _. done-bind (restrict-keeps q.a files (rollback_merge mark s) (rollback-keeps mark s h)) (instead-keeps e)) (λ _. is_conflict h))

    extend-keeps : (s : State) → OneDeeper s → Keeps (extend_pair f q.a s)
    unfolding extend_pair put_set
    extend-keeps s h =
        bool_case Keeps (eqb (set_of s.model q.a) no_set) (λ _. is_done h) (λ _. extend-ok s q.a f (λ _. h) (λ _ _. h))

    settle-keeps : (files : FileSet) (mark : ℕ) {o : Outcome} → Keeps o → Keeps (settle x f v p q files mark o)
    unfolding settle
    settle-keeps files mark (is_done {t} h) = extend-keeps t h
    settle-keeps files mark (is_conflict {e} {t} h) = conflict-keeps files mark e t h
    settle-keeps files mark is_refused = is_refused

  -- ---- levels

  abbrev Lower : Type 0
  Lower = FileSet → Element → Element → State → Outcome

  -- two lower levels agree on children of a and b
  pub record Agree (lower more : Lower) (a b : Element) : Type 0 where
    pub same : (files : FileSet) (s : State) → OneDeeper s → lower files a b s ≡ more files a b s
    pub keeps : (files : FileSet) (s : State) → OneDeeper s → Keeps (lower files a b s)

  module _ (f : FileNumber) (v : Version) (p : Element) (files : FileSet) (lower more : Lower) where
    pairs-keep : (qs : List Pair) → ((q : Pair) → In q qs → Agree lower more q.a q.b × (depth_of x q.b ≡ suc (depth_of x p)))
        → (s : State) → OneDeeper s → Keeps (merge_sub_elements lower x f v p files qs s)
    unfolding merge_sub_elements
    pairs-keep [] agree s h = is_done h
    pairs-keep (q ∷ qs) agree s h =
        let g = agree q (Memᴰ.head refl) in
        let own = files_of_pair files s.model q.a in
        done-bind (settle-keeps f v p q g.1 own (length s.log) (g.0.keeps own s h)) (pairs-keep qs (λ r i. agree r (Memᴰ.tail i)))

    pairs-same : (qs : List Pair) → ((q : Pair) → In q qs → Agree lower more q.a q.b × (depth_of x q.b ≡ suc (depth_of x p)))
        → (s : State) → OneDeeper s → merge_sub_elements lower x f v p files qs s ≡ merge_sub_elements more x f v p files qs s
    unfolding merge_sub_elements
    pairs-same [] agree s h = refl
    pairs-same (q ∷ qs) agree s h =
        let g = agree q (Memᴰ.head refl) in
        let own = files_of_pair files s.model q.a in
        let mark = length s.log in
        bind-same (settle-keeps f v p q g.1 own mark (g.0.keeps own s h)) (pairs-same qs (λ r i. agree r (Memᴰ.tail i)))
        ∙ ap (λ (o : Outcome). settle x f v p q own mark o >>= merge_sub_elements more x f v p files qs) (g.0.same own s h)

  -- children of a and b, which are of one depth
  child-deeper : (s : State) → OneDeeper s → (p e : Element) → In e (children_of s.model p) → depth_of x e ≡ suc (depth_of x p)
  unfolding children_of
  child-deeper s h p e i = h p e (children-in (list_of s.model p) i)

  module _ (f : FileNumber) (files : FileSet) (a b : Element) (v : Version) (lower more : Lower) (level : depth_of x a ≡ depth_of x b)
      (agree : (c d : Element) → depth_of x c ≡ suc (depth_of x a) → depth_of x d ≡ suc (depth_of x a) → Agree lower more c d) (s : State) (h : OneDeeper s)
      (plan : Plan) (fits : PlanFits x (children_of s.model a) (children_of s.model b) plan) where
    deeper-b : (e : Element) → In e (children_of s.model b) → depth_of x e ≡ suc (depth_of x a)
    deeper-b e i = child-deeper s h b e i ∙ ap suc (sym level)

    pairs-agree : (q : Pair) → In q plan.pairs → Agree lower more q.a q.b × (depth_of x q.b ≡ suc (depth_of x a))
    pairs-agree q i =
        let is_a = child-deeper s h a q.a (fits.pairs_a q.a (Memᴰ.map (λ (r : Pair). r.a) i)) in
        let is_b = deeper-b q.b (fits.pairs_b q.b (Memᴰ.map (λ (r : Pair). r.b) i)) in
        (agree q.a q.b is_a is_b, is_b)

    before-pairs : Keeps (restrict_elements files plan.restrictions s >>= import_new_items x f (version_of x.schema f) a 0 plan.imports)
    before-pairs =
        done-bind (elements-keep files plan.restrictions s h)
        (items_keep f (version_of x.schema f) a 0 plan.imports (λ e i. deeper-b e (fits.imports e i)))

    plan-same : merge_plan lower x f v files a b plan s ≡ merge_plan more x f v files a b plan s
    unfolding merge_plan
    plan-same =
        twice-case (λ c. refused (used_twice c)) (first_used_twice plan (children_of s.model b))
        (bind-same before-pairs (pairs-same f v a files lower more plan.pairs pairs-agree))

    plan-keeps : Keeps (merge_plan lower x f v files a b plan s)
    unfolding merge_plan
    plan-keeps =
        option-case Keeps (first_used_twice plan (children_of s.model b))
        (λ _. done-bind before-pairs (pairs-keep f v a files lower more plan.pairs pairs-agree)) (λ c _. is_refused)

  -- a level that its depth does not end is the same with a larger depth
  pub levels-agree : ((e : Element) → depth_of x e ≤ depth_limit) → (f : FileNumber) (d more : ℕ) → d ≤ more → (a b : Element)
      → depth_of x a ≡ depth_of x b → suc depth_limit ≤ d + depth_of x a → Agree (merge_element d x f) (merge_element more x f) a b
  unfolding merge_element
  levels-agree shallow f zero more le a b level enough = absurd (omega (arith, shallow a))
  levels-agree shallow f (suc d) zero le a b level enough = absurd (omega arith)
  levels-agree shallow f (suc d) (suc more) le a b level enough =
      let agree : (c e : Element) → depth_of x c ≡ suc (depth_of x a) → depth_of x e ≡ suc (depth_of x a)
      → Agree (merge_element d x f) (merge_element more x f) c e =
      λ c e i j. levels-agree shallow f d more (omega arith) c e (i ∙ sym j) (omega (arith, i)) in
      record {
        same = λ files s h.
            let v = level_version x f files in
            plan-case (refused (unmergeable a)) (level-fits x s.model v a b)
            (plan-same f files a b v (merge_element d x f) (merge_element more x f) level agree s h);
        keeps = λ files s h.
            let v = level_version x f files in
            walked-case Keeps (level-fits x s.model v a b)
            (plan-keeps f files a b v (merge_element d x f) (merge_element more x f) level agree s h) is_refused;
      }
