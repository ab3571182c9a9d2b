-- The pairs that a merge visits: no B element is in two of them, and each is reached from the tree's root. Assumes nothing.
use mathlib.Core.Bool.{false}
use mathlib.Core.List.Memᴰ
use mathlib.Core.List.{List, [], ◌∷◌, ◌++◌, map, map-append}
use mathlib.Core.Path.{◌≡◌, refl, sym, ap, subst, ◌∙◌}
use Prim.Native.Nat.{ℕ, zero, suc, ◌≤◌}
use native.Mathlib.Omega.{arith}
use lib.ListN.{length, length-map}
use Rattle.tables.specs.FileSets.{holds, loaded_files}
use Rattle.tables.specs.Limits.{depth_limit}
use Rattle.tables.specs.ModelTable.{flat}
use Rattle.tables.specs.Records.{Element, FileSet, Version, Tree, Model, State, Fixed, root, name_of}
use Rattle.merge_rules.specs.Level.{files_of_pair, level_version, merge_element}
use Rattle.merge_rules.specs.Pairing.{children_of, Pair, Plan, first_used_twice}
use Rattle.merge_rules.specs.Reached.{reached_from, all_reached, visited_behind, visited_in_pairs, visited_in_plan, visited_in_level, visited_pairs, VisitsFew}
use Rattle.merge_rules.specs.Refusals.{Outcome}
use Rattle.merge_rules.specs.Sound.{In, Once, once-nil, once-cons}
use Rattle.merge_rules.proofs.Laws.Cases.{option-case, IfDone, is_done, is_conflict, is_refused, done-bind}
use Rattle.merge_rules.proofs.Laws.Invariant.{Inv}
use Rattle.merge_rules.proofs.Laws.Levels.{Ready, Level, Pending, children_b, once_a, walk-fits, restrictions-pending, new_items, ready-pair, settle-pending, level-ok}
use Rattle.merge_rules.proofs.Laws.Lists.{Within, within-head, within-tail, within_both, within-append, each_nil, once-head, once-tail, once-right}
use Rattle.merge_rules.proofs.Laws.Merges.{ready-root}
use Rattle.merge_rules.proofs.Laws.Moves.{merge-steps-still}
use Rattle.merge_rules.proofs.Laws.Once.{once-append, once-apart, once-within}
use Rattle.merge_rules.proofs.Laws.Reached.{flat_in, in-flat, tree-once, tree-children-once, more-levels, tree_apart}
use Rattle.merge_rules.proofs.Laws.Steps.{Steps}
use Rattle.merge_rules.proofs.Laws.Walks.{imported, paired_a, paired_b, PlanFits, walked-case, used-once}

-- ---- pairs whose B elements are among others

-- each B element once, and one of these
record PairsAmong (k : List Element) (l : List Pair) : Type 0 where
  pub once : Once (paired_b l)
  pub within : Within (paired_b l) k

among-nil : {k : List Element} → PairsAmong k []
among-nil = record { once = once-nil; within = each_nil _ }

among-cons : (q : Pair) {k : List Element} {l : List Pair} → Once (q.b ∷ k) → PairsAmong k l → PairsAmong (q.b ∷ k) (q ∷ l)
among-cons q o h = record { once = once-cons (λ i. once-head o (h.within q.b i)) h.once; within = within_both h.within }

among-append : {k₁ k₂ : List Element} {l₁ l₂ : List Pair} → Once (k₁ ++ k₂) → PairsAmong k₁ l₁ → PairsAmong k₂ l₂ → PairsAmong (k₁ ++ k₂) (l₁ ++ l₂)
among-append {k₁} {k₂} {l₁} {l₂} o h j =
    record {
      once = subst Once (sym same) (once-append h.once j.once (λ e i n. once-apart k₁ o (h.within e i) (j.within e n)));
      within = λ e i. joined e (subst (In e) same i);
    }
  where
    same : paired_b (l₁ ++ l₂) ≡ paired_b l₁ ++ paired_b l₂
    same = map-append (λ (q : Pair). q.b) l₁ l₂

    joined : Within (paired_b l₁ ++ paired_b l₂) (k₁ ++ k₂)
    joined = within-append (λ e i. Memᴰ.append_left k₂ (h.within e i)) (λ e i. Memᴰ.append_right k₁ (j.within e i))

-- what fewer entries reach is of what all reach
among-more : (f : Element → List Element) {cs bs : List Element} {l : List Pair} → Within cs bs → PairsAmong (flat (map f cs)) l
    → PairsAmong (flat (map f bs)) l
among-more f {cs} {bs} w h =
    record { once = h.once; within = λ e i. let (c, j, k) = flat_in f cs (h.within e i) in in-flat f bs (w c j) k }

-- of the state behind a step
among-behind : {k : List Element} {D C : State → Type 0} {o : Outcome} {next : State → List Pair} → IfDone D C o
    → ((w : State) → D w → PairsAmong k (next w)) → PairsAmong k (visited_behind o next)
unfolding visited_behind
among-behind (is_done {t} h) g = g t h
among-behind (is_conflict h) g = among-nil
among-behind is_refused g = among-nil

-- ---- within one merge

module _ (x : Fixed) (s : State) (inv : Inv x s) (tr : Tree) (among : In tr x.elements.trees)
    (waits : holds (loaded_files s.model) tr.file ≡ false) where
  abbrev start : Model
  start = s.model

  -- what these reach at the merge's start, in so many levels
  abbrev reached_of : ℕ → List Element → List Element
  reached_of n cs = flat (map (reached_from n start) cs)

  module _ (files : FileSet) (a b : Element) (t : State) (ready : Ready x start tr.root files a b t) where
    module _ (n : ℕ) (lower : FileSet → Element → Element → State → Outcome) (visited : FileSet → Element → Element → State → List Pair)
        (lower_ok : (own : FileSet) (c d : Element) (u : State) → Ready x start tr.root own c d u
        → IfDone (Level x start c d u) (Steps u) (lower own c d u))
        (lower_among : (own : FileSet) (c d : Element) (u : State) → Ready x start tr.root own c d u
        → PairsAmong (reached_of n (children_of start d)) (visited own c d u)) (v : Version) where
      -- the pairs still to come
      pairs-among : (qs : List Pair) → Within (paired_a qs) (children_of start a)
          → Within (paired_b qs) (children_of start b) → Once (paired_a qs) → Once (paired_b qs)
          → ((q : Pair) → In q qs → name_of x q.a ≡ name_of x q.b) → (u : State)
          → Pending x s inv tr among waits files a b t ready (paired_a qs) (paired_b qs) u
          → PairsAmong (reached_of (suc n) (paired_b qs)) (visited_in_pairs lower visited x tr.file v a files qs u)
      unfolding visited_in_pairs reached_from flat
      pairs-among [] within_a within_b once_a once_b names u pending = among-nil
      pairs-among (q ∷ qs) within_a within_b once_a once_b names u pending =
          let same : name_of x q.a ≡ name_of x q.b = names q (Memᴰ.head refl) in
          let own = files_of_pair files u.model q.a in
          let ready_pair = ready-pair x s inv tr among waits files a b t ready q (within-head within_a) (within-head within_b) same pending in
          let all : Once (reached_of (suc n) (q.b ∷ paired_b qs)) =
          tree-children-once inv tr among waits (suc n) b ready.in_tree (q.b ∷ paired_b qs) within_b once_b in
          among-cons q all
          (among-append (once-tail all) (lower_among own q.a q.b u ready_pair)
          (among-behind
          (settle-pending x s inv tr among waits files a b t ready v q (paired_a qs) (paired_b qs) within_a within_b once_a once_b same u pending
          (lower_ok own q.a q.b u ready_pair))
          (pairs-among qs (within-tail within_a) (within-tail within_b) (once-tail once_a) (once-tail once_b) (λ p i. names p (Memᴰ.tail i)))))

      plan-among : (p : Plan) → PlanFits x (children_of start a) (children_of start b) p
          → PairsAmong (reached_of (suc n) (children_of start b)) (visited_in_plan lower visited x tr.file v files a b p t)
      unfolding visited_in_plan
      plan-among p fits =
          option-case (PairsAmong (reached_of (suc n) (children_of start b))) (first_used_twice p (children_of t.model b))
          (λ h.
          let once : Once (imported p.imports ++ paired_b p.pairs) =
          used-once fits (ap (first_used_twice p) (sym (children_b x s inv tr among waits files a b t ready)) ∙ h) in
          among-more (reached_from (suc n) start) fits.pairs_b
          (among-behind
          (done-bind
          (restrictions-pending x s inv tr among waits files a b t ready p.restrictions fits.restrictions t (merge-steps-still ready.kept))
          (new_items x s inv tr among waits files a b t ready (paired_b p.pairs) _ 0 p.imports fits.pairs_a
          (within-append fits.imports fits.pairs_b) once))
          (pairs-among p.pairs fits.pairs_a fits.pairs_b (fits.once_a (once_a x s inv tr among waits files a b t ready))
          (once-right (imported p.imports) once) fits.names)))
          (λ c _. among-nil)

  -- a level visits only what its B element reaches
  level-among : (d : ℕ) (files : FileSet) (a b : Element) (t : State) → Ready x start tr.root files a b t
      → PairsAmong (reached_of d (children_of start b)) (visited_in_level d x tr.file files a b t)
  unfolding visited_in_level
  level-among zero files a b t ready = among-nil
  level-among (suc d) files a b t ready =
      let v = level_version x tr.file files in
      walked-case (PairsAmong (reached_of (suc d) (children_of start b))) (walk-fits x s inv tr among waits files a b t ready v)
      (λ p fits.
      plan-among files a b t ready d (merge_element d x tr.file) (visited_in_level d x tr.file) (level-ok x s inv tr among waits d) (level-among d)
      v p fits)
      among-nil

  merge-among : PairsAmong (reached_from (suc (suc depth_limit)) start tr.root) (visited_pairs x tr s)
  unfolding visited_pairs reached_from
  merge-among =
      among-cons (record { a = root; b = tr.root }) (tree-once inv tr among waits (suc (suc depth_limit)))
      (level-among (suc depth_limit) (loaded_files start) root tr.root s (ready-root x s inv tr among waits))

  -- a merge visits no more pairs than there are elements
  pub visits-few : VisitsFew x tr s
  visits-few =
      let h = merge-among in
      let same : reached_from (suc (suc depth_limit)) start tr.root ≡ all_reached start tr.root =
      more-levels inv tr.root (suc (suc depth_limit)) (omega arith) in
      let few : length (paired_b (visited_pairs x tr s)) ≤ length (all_reached start tr.root) = rw same at (once-within _ h.once h.within) in
      let size : length (paired_b (visited_pairs x tr s)) ≡ length (visited_pairs x tr s) = length-map (visited_pairs x tr s) Pair.b in
      record { once = h.once; tree = omega arith; deck = omega (arith, (tree_apart inv tr among waits).few) }
