-- What is reached over content lists: in a tree by its parents nothing is reached twice, and two trees have nothing in common. Assumes nothing.
use mathlib.Core.Bool.{false}
use mathlib.Core.List.Memᴰ
use mathlib.Core.List.{List, [], ◌∷◌, ◌++◌, map}
use mathlib.Core.Logic.{⊎_elim}
use mathlib.Core.Option.{some}
use mathlib.Core.Path.{◌≡◌, refl, ap, subst}
use Prim.Native.Nat.{ℕ, zero, suc, ◌+◌, ◌≤◌, ◌<◌}
use native.Mathlib.Omega.{arith}
use lib.ListN.{length, length-append}
use Rattle.tables.specs.FileSets.{holds, loaded_files}
use Rattle.tables.specs.Limits.{depth_limit}
use Rattle.tables.specs.ModelTable.{flat}
use Rattle.tables.specs.Records.{Element, Tree, child, Model, State, Fixed, root, depth_of, parent_of, list_of}
use Rattle.merge_rules.specs.Pairing.{children_of}
use Rattle.merge_rules.specs.Reached.{reached_from, all_reached, TreeApart, EachOnce}
use Rattle.merge_rules.specs.Sound.{In, count, Once, once-nil, once-cons}
use Rattle.merge_rules.proofs.Laws.Chains.{Deep, under-trans, not-above, siblings, tree-disjoint}
use Rattle.merge_rules.proofs.Laws.Invariant.{Under, here, below, Owns, Inv}
use Rattle.merge_rules.proofs.Laws.Levels.{in_list}
use Rattle.merge_rules.proofs.Laws.Lists.{each_nil, each-cons, Within, within-head, within-tail, once-head, once-tail}
use Rattle.merge_rules.proofs.Laws.Merges.{waiting-tree}
use Rattle.merge_rules.proofs.Laws.Once.{once-append, once-below}

-- ---- lists

module _ (f : Element → List Element) {e : Element} where
  -- an entry of what each of a list gives is of what one of them gives
  pub flat_in : (l : List Element) → In e (flat (map f l)) → (c : Element) × In c l × In e (f c)
  unfolding flat
  flat_in [] h = absurd (Memᴰ.not-nil h)
  flat_in (c ∷ l) h =
      ⊎_elim (λ k. (c, Memᴰ.head refl, k)) (λ k. let (d, i, j) = flat_in l k in (d, Memᴰ.tail i, j)) (Memᴰ.append_cases (f c) h)

  -- and the other way round
  pub in-flat : (l : List Element) {c : Element} → In c l → In e (f c) → In e (flat (map f l))
  unfolding flat
  in-flat [] i k = absurd (Memᴰ.not-nil i)
  in-flat (b ∷ l) i k =
      ⊎_elim (λ q. Memᴰ.append_left _ (subst (λ (c : Element). In e (f c)) q k)) (λ j. Memᴰ.append_right (f b) (in-flat l j k)) (Memᴰ.cases_cons i)

map_same : {f g : Element → List Element} (l : List Element) → ((c : Element) → In c l → f c ≡ g c) → map f l ≡ map g l
map_same [] h = refl
map_same (c ∷ l) h = rw (h c (Memᴰ.head refl), map_same l (λ d i. h d (Memᴰ.tail i)))

-- ---- what is reached of a sound model

module _ (x : Fixed) (m : Model) where
  -- elements of the deck
  reached-range : ((p c : Element) → In (child c) (list_of m p) → c < count x) → (n : ℕ) (p : Element) → p < count x
      → (e : Element) → In e (reached_from n m p) → e < count x
  unfolding reached_from
  reached-range range zero p h = each_nil _
  reached-range range (suc n) p h =
      each-cons (λ (e : Element). e < count x) h
      (λ e i. let (c, j, k) = flat_in (reached_from n m) (children_of m p) i in reached-range range n c (range p c (in_list m p j)) e k)

  -- the same by any number of levels above the limit
  reached-levels : ((e : Element) → depth_of x e ≤ depth_limit) → ((p c : Element) → In (child c) (list_of m p) → depth_of x c ≡ suc (depth_of x p))
      → (n k : ℕ) (p : Element) → depth_limit < depth_of x p + n → depth_limit < depth_of x p + k → reached_from n m p ≡ reached_from k m p
  unfolding reached_from
  reached-levels shallow deeper zero k p few also = absurd (omega (arith, shallow p))
  reached-levels shallow deeper (suc n) zero p few also = absurd (omega (arith, shallow p))
  reached-levels shallow deeper (suc n) (suc k) p few also =
      ap (λ (ls : List (List Element)). p ∷ flat ls)
      (map_same (children_of m p)
      (λ c i.
      let h : depth_of x c ≡ suc (depth_of x p) = deeper p c (in_list m p i) in
      reached-levels shallow deeper n k c (omega arith) (omega arith)))

-- ---- in a tree by its parents

module _ (x : Fixed) (m : Model) (r : Element) (deep : Deep x m) (owns : (p : Element) → Under m r p → Owns m p)
    (once : (p : Element) → Once (children_of m p)) where
  child-parent : {p c : Element} → Under m r p → In c (children_of m p) → parent_of m c ≡ some p
  child-parent {p} {c} u i = owns p u c (in_list m p i)

  -- what an element reaches is under it
  reached-under : (n : ℕ) (p : Element) → Under m r p → (e : Element) → In e (reached_from n m p) → Under m p e
  unfolding reached_from
  reached-under zero p u = each_nil _
  reached-under (suc n) p u =
      each-cons (λ (e : Element). Under m p e) (here refl)
      (λ e i.
      let (c, j, k) = flat_in (reached_from n m) (children_of m p) i in
      let own = child-parent u j in
      under-trans (below own (here refl)) (reached-under n c (below own u) e k))

  -- and so what children reach, where each of them does
  list-once : (n : ℕ) (p : Element) → Under m r p → ((c : Element) → Under m r c → Once (reached_from n m c)) → (cs : List Element)
      → Within cs (children_of m p) → Once cs → Once (flat (map (reached_from n m) cs))
  unfolding flat
  list-once n p u each [] within o = once-nil
  list-once n p u each (c ∷ cs) within o =
      once-append (each c (below first u)) (list-once n p u each cs (within-tail within) (once-tail o)) apart
    where
      first : parent_of m c ≡ some p
      first = child-parent u (within-head within)

      apart : (e : Element) → In e (reached_from n m c) → In e (flat (map (reached_from n m) cs)) → ⊥
      apart e h k =
          let (d, i, j) = flat_in (reached_from n m) cs k in
          let second = child-parent u (within-tail within d i) in
          once-head o (Memᴰ.cast (siblings x deep first second (reached-under n c (below first u) e h) (reached-under n d (below second u) e j)) i)

  -- each once
  from-once : (n : ℕ) (p : Element) → Under m r p → Once (reached_from n m p)
  unfolding reached_from
  from-once zero p u = once-nil
  from-once (suc n) p u =
      once-cons
      (λ h.
      let (c, i, j) = flat_in (reached_from n m) (children_of m p) h in
      let own = child-parent u i in
      not-above x deep own (reached-under n c (below own u) p j))
      (list-once n p u (λ c v. from-once n c v) (children_of m p) (λ c i. i) (once p))

  -- and so what these children of it reach
  children-once : (n : ℕ) (p : Element) → Under m r p → (cs : List Element) → Within cs (children_of m p) → Once cs
      → Once (flat (map (reached_from n m) cs))
  children-once n p u cs within o = list-once n p u (λ c v. from-once n c v) cs within o

-- ---- a state that calls reach

module _ {x : Fixed} {s : State} (inv : Inv x s) where
  abbrev m : Model
  m = s.model

  once-children : (p : Element) → Once (children_of m p)
  unfolding children_of
  once-children p = inv.sound.kept.once p

  in-range : (p : Element) → p < count x → (e : Element) → In e (all_reached m p) → e < count x
  in-range p h = reached-range x m (λ q c i. inv.sound.kept.items q (child c) i) (suc depth_limit) p h

  -- more levels reach no more
  pub more-levels : (e : Element) (n : ℕ) → suc depth_limit ≤ n → reached_from n m e ≡ all_reached m e
  more-levels e n h =
      reached-levels x m inv.sound.static.elements.shallow (λ p c i. (inv.sound.kept.fits p c i).depth) n (suc depth_limit) e (omega arith)
      (omega arith)

  model-once : Once (all_reached m root)
  model-once = from-once x m root inv.sound.kept.deep inv.model once-children (suc depth_limit) root (here refl)

  module _ (t : Tree) (among : In t x.elements.trees) (waits : holds (loaded_files m) t.file ≡ false) where
    -- of a waiting tree
    pub tree-once : (n : ℕ) → Once (reached_from n m t.root)
    tree-once n = from-once x m t.root inv.sound.kept.deep (inv.waiting t among waits) once-children n t.root (here refl)

    -- of children of one of its elements
    pub tree-children-once : (n : ℕ) (p : Element) → Under m t.root p → (cs : List Element) → Within cs (children_of m p) → Once cs
        → Once (flat (map (reached_from n m) cs))
    tree-children-once = children-once x m t.root inv.sound.kept.deep (inv.waiting t among waits) once-children

    apart : (e : Element) → In e (all_reached m root) → In e (all_reached m t.root) → ⊥
    apart e h k =
        tree-disjoint inv t among
        (reached-under x m root inv.sound.kept.deep inv.model once-children (suc depth_limit) root (here refl) e h)
        (reached-under x m t.root inv.sound.kept.deep (inv.waiting t among waits) once-children (suc depth_limit) t.root (here refl) e k)

    few : length (all_reached m root ++ all_reached m t.root) ≤ count x
    few =
        once-below (count x) _ (once-append model-once (tree-once (suc depth_limit)) apart)
        (λ e i.
        ⊎_elim (in-range root inv.sound.static.some e) (in-range t.root (inv.sound.static.trees.valid t among).in_range e)
        (Memᴰ.append_cases (all_reached m root) i))

    -- model and tree have nothing in common
    pub tree_apart : TreeApart x m t
    tree_apart =
        record { once = tree-once (suc depth_limit); apart = apart; few = omega (arith, few, length-append (all_reached m root) (all_reached m t.root)) }

  -- each element is reached at most once
  pub each-once : EachOnce x s.model
  each-once =
      record {
        levels = more-levels;
        model = model-once;
        trees = λ f t w. let (waits, among) = waiting-tree x m f t w in tree_apart t among waits;
      }
