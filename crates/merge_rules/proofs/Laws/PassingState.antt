-- What a load fixes, with a sound state, is valid by the schema's and the trees' rules. Assumes nothing.
use mathlib.Core.Bool.{true}
use mathlib.Core.List.{List, [], ◌∷◌}
use mathlib.Core.Path.{◌≡◌, refl}
use Prim.Native.Nat.{ℕ, suc, ◌+◌}
use native.Mathlib.Nat.{add-suc, suc-add}
use native.Mathlib.Omega.{arith}
use borrow.Author.Tests.{eq-eqb, ne_eqb}
use lib.ListN.{get_or}
use Rattle.tables.specs.FileSets.{no_set, part_of}
use Rattle.tables.specs.Lists.{all_of}
use Rattle.tables.specs.Records.{Element, FileSet, Item, child, text, Entry, import, restriction, extension, Tree, Fixed, State, root, type_of, depth_of, set_of}
use Rattle.tables.proofs.Laws.Scans.{each-passes}
use Rattle.deck.specs.Schema.{declared_files}
use Rattle.state_test.specs.StateTest.{root_set_stored, set_declared, entry_declared, tree_declared, waits, root_valid, item_valid, lists_valid, files_declared, roots_valid, state_valid}
use Rattle.merge_rules.specs.Sound.{In, ChildValid, EntryValid, Sound}
use Rattle.merge_rules.proofs.Laws.Elements.{distinct-keep}
use Rattle.merge_rules.proofs.Laws.Lists.{all_of-each, at_each}
use Rattle.merge_rules.proofs.Laws.Loaded.{FixedInRange}

-- ---- lists

item-valid : (x : Fixed) (p : Element) (i : Item) → ((e : Element) → i ≡ child e → ChildValid x p e) → item_valid x p i ≡ true
unfolding item_valid
item-valid x p (child e) h =
    let f : ChildValid x p e = h e refl in
    rw (item_valid, eq-eqb (depth_of x e) (suc (depth_of x p)) f.depth, f.found, eq-eqb f.row.child_type (type_of x e) f.type)
item-valid x p (text t) h = refl

lists-valid : (x : Fixed) (p : Element) (ls : List (List Item)) → ((n e : ℕ) → In (child e) (get_or ls n []) → ChildValid x (p + n) e) → lists_valid x p ls ≡ true
unfolding lists_valid
lists-valid x p [] h = refl
lists-valid x p (l ∷ ls) h =
    let z : p + 0 ≡ p = omega arith in
    let first : (e : ℕ) → In (child e) l → ChildValid x p e = λ e i. rw z at (h 0 e i) in
    let rest : (n e : ℕ) → In (child e) (get_or ls n []) → ChildValid x (suc p + n) e = λ n e i. rw (suc-add p n, ← add-suc p n) (h (suc n) e i) in
    rw (all_of-each (item_valid x p) l (λ i j. item-valid x p i (λ e q. first e (rw q at j))), lists_valid) (lists-valid x (suc p) ls rest)

-- ---- the whole

module _ (deck : List ℕ) (x : Fixed) (r : FixedInRange deck x) (s : State) (h : Sound x s) where
  sets-declared : all_of (set_declared x.schema) s.model.sets ≡ true
  unfolding set_declared
  sets-declared =
      let P : FileSet → Type 0 = λ (f : FileSet). part_of f (declared_files x.schema) ≡ true in
      each-passes (set_declared x.schema) s.model.sets (at_each P s.model.sets 0 h.kept.declared)

  entry-declared : (e : Entry) → EntryValid x e → entry_declared x.schema e ≡ true
  unfolding entry_declared set_declared
  entry-declared (import e p o old) f = f.3
  entry-declared (restriction e old) f = f.1
  entry-declared (extension e f) k = refl

  files-declared : files_declared x s ≡ true
  unfolding files_declared root_set_stored tree_declared
  files-declared =
      rw (
        ne_eqb (set_of s.model root) no_set (λ e. omega (arith, h.root_set)),
        sets-declared,
        all_of-each (entry_declared x.schema) s.log (λ e i. entry-declared e (h.kept.entries e i)),
        all_of-each (tree_declared x.schema) x.elements.trees (λ t i. (h.static.trees.valid t i).declared),
        distinct-keep (waits s.model) x.elements.trees r.elements.trees,
      )

  root-valid : (e : Element) → get_or x.elements.depths e 0 ≡ 0 → get_or x.elements.types e 0 ≡ 0 → root_valid x e ≡ true
  unfolding root_valid
  root-valid e d t = rw (eq-eqb _ _ d, eq-eqb _ _ t)

  roots-valid : roots_valid x ≡ true
  unfolding roots_valid
  roots-valid =
      rw (
        root-valid root h.static.elements.root_depth h.static.elements.root_type,
        all_of-each (λ (t : Tree). root_valid x t.root) x.elements.trees
            (λ t i. root-valid t.root (h.static.trees.valid t i).depth (h.static.trees.valid t i).type),
      )

  -- the state is valid
  pub state-valid : state_valid x s ≡ true
  unfolding state_valid
  state-valid =
      rw (
        r.valid,
        files-declared,
        roots-valid,
        lists-valid x 0 s.model.lists (λ n e i. let z : 0 + n ≡ n = omega arith in rw z (h.kept.fits n e i)),
      )
