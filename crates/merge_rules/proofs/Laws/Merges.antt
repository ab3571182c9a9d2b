-- What an accepted merge does, and that it keeps the invariant. Assumes nothing.
use mathlib.Core.Bool.{false, false≢true}
use mathlib.Core.List.{[], ◌∷◌}
use mathlib.Core.Logic.{◌⊎◌, inl, inr, ⊎_elim}
use mathlib.Core.Option.{Option, none, some, mem_unique, none-ne-some}
use mathlib.Core.Path.{◌≡◌, refl, sym, ap, ◌∙◌}
use Prim.Native.Nat.{ℕ, suc, ◌<◌}
use native.Mathlib.Omega.{arith}
use borrow.Author.Tests.{eqb-true}
use lib.Dec.{eqb}
use lib.ListN.{length}
use Rattle.tables.specs.FileSets.{holds, with_file, loaded_files, waiting_tree}
use Rattle.tables.specs.Limits.{depth_limit, log_limit}
use Rattle.tables.specs.Records.{Element, FileNumber, Tree, child, Model, extension, State, Fixed, root, parent_of, set_of, list_of, put_set}
use Rattle.tables.proofs.Laws.FileSets.{holds-with_file, holds-with_file-other, with_file-positive}
use Rattle.tables.proofs.Laws.Model.{set-put_set}
use Rattle.tables.proofs.Laws.Cases.{bool_case}
use Rattle.merge_rules.specs.Book.{sum_of}
use Rattle.merge_rules.specs.Calls.{Counts, counts_of, entries_above, merged, merge_refused, Merged, merged_from, merge_tree, merge}
use Rattle.merge_rules.specs.Log.{is_root_extension, ends_merge}
use Rattle.merge_rules.specs.Refusals.{Refusal, Outcome}
use Rattle.merge_rules.specs.Sound.{In}
use Rattle.merge_rules.proofs.Laws.Cases.{option-case, IfDone, is_done, is_conflict, is_refused, done-bind}
use Rattle.merge_rules.proofs.Laws.Chains.{under-cast, one-top, tree-disjoint, common-right}
use Rattle.merge_rules.proofs.Laws.Changes.{extend-ok, kept-extend}
use Rattle.merge_rules.proofs.Laws.Invariant.{Under, here, below, Owns, Inv}
use Rattle.merge_rules.proofs.Laws.Levels.{Ready, Level, level-ok}
use Rattle.merge_rules.proofs.Laws.Lists.{first_of-some}
use Rattle.merge_rules.proofs.Laws.Marks.{counts-above, mark-below}
use Rattle.merge_rules.proofs.Laws.Moves.{unmarked-steps, unmarked-marks, Moves, moves_put}
use Rattle.merge_rules.proofs.Laws.Steps.{extends, Steps, step, IsMerge}
use Rattle.merge_rules.proofs.Laws.Undo.{steps-longer}

-- an accepted merge with its counts
abbrev Accepted : Fixed → State → State → Type 0
Accepted x s t = IsMerge s t (sum_of (counts_of (entries_above (length s.log) t.log))) × Inv x t

-- ---- the invariant

module _ (x : Fixed) (s : State) (inv : Inv x s) (tr : Tree) (among : In tr x.elements.trees)
    (waits : holds (loaded_files s.model) tr.file ≡ false) where
  abbrev start : Model
  start = s.model

  pub ready-root : Ready x start tr.root (loaded_files start) root tr.root s
  ready-root =
      record {
        in_model = here refl;
        in_tree = here refl;
        range = inv.sound.static.some;
        depth = inv.sound.static.elements.root_depth ∙ sym (inv.sound.static.trees.valid tr among).depth;
        type = inv.sound.static.elements.root_type ∙ sym (inv.sound.static.trees.valid tr among).type;
        declared = inv.sound.kept.declared root;
        kept = inv.sound.kept;
        lists_a = λ p h. refl;
        lists_b = λ p h. refl;
        parents = λ e h. refl;
      }

  module _ {n : Model} (moves : Moves start (Under start root) (Under start tr.root) tr.root start n) where
    top_kept : (e : Element) → parent_of start e ≡ none → parent_of n e ≡ none
    top_kept e h = ⊎_elim (λ k. k ∙ h) (λ k. absurd (none-ne-some _ (sym h ∙ k.owned))) (moves.parents e)

    -- what is in the model then was in it, or in the tree
    under-old : {p : Element} → Under n root p → Under start root p ⊎ Under start tr.root p
    under-old (here z) = inl (here z)
    under-old (below {p} h u) =
        ⊎_elim (λ k. ⊎_elim (λ v. inl (below (sym k ∙ h) v)) (λ v. inr (below (sym k ∙ h) v)) (under-old u)) (λ k. inr k.within) (moves.parents p)

    owns-model : (p : Element) → Under n root p → Owns n p
    owns-model p u e i = ⊎_elim (λ old. ⊎_elim (in-model old) (in-tree old) (under-old u)) (λ k. k.0) (moves.new p e i)
      where
        in-model : In (child e) (list_of start p) → Under start root p → parent_of n e ≡ some p
        in-model old v =
            let own : parent_of start e ≡ some p = inv.model p v e old in
            ⊎_elim (λ k. k ∙ own)
            (λ k. absurd (tree-disjoint inv tr among (below own v) k.within)) (moves.parents e)

        in-tree : In (child e) (list_of start p) → Under start tr.root p → parent_of n e ≡ some p
        in-tree old v =
            let own : parent_of start e ≡ some p = inv.waiting tr among waits p v e old in
            ⊎_elim (λ k. k ∙ own)
            (λ k.
            absurd
            ((inv.sound.static.trees.valid tr among).not_root
            (sym
            (one-top u (under-cast (mem_unique k.owned own) (common-right k.chain)) (top_kept root inv.root_top)
            (top_kept tr.root (inv.tree_top tr among))))))
            (moves.parents e)

    module _ (t : Tree) (among_t : In t x.elements.trees) (other : t.root ≡ tr.root → ⊥)
        (waits_t : holds (loaded_files start) t.file ≡ false) where
      -- no chain of another waiting tree goes through what was moved
      under-waiting : {p : Element} → Under n t.root p → Under start t.root p
      under-waiting (here z) = here z
      under-waiting (below {p} h u) =
          ⊎_elim (λ k. below (sym k ∙ h) (under-waiting u))
          (λ k. absurd (tree-disjoint inv t among_t (under-cast (mem_unique k.given h) k.taken) (under-waiting u))) (moves.parents p)

      owns-waiting : (p : Element) → Under n t.root p → Owns n p
      owns-waiting p u e i =
          let v : Under start t.root p = under-waiting u in
          let own : parent_of start e ≡ some p = inv.waiting t among_t waits_t p v e (rw (moves.lists p (λ k. tree-disjoint inv t among_t k v)) at i) in
          ⊎_elim (λ k. k ∙ own)
          (λ k. absurd (other (one-top (below own v) k.within (inv.tree_top t among_t) (inv.tree_top tr among)))) (moves.parents e)

  module _ (u : State) (level : Level x start root tr.root s u) (absent : holds (set_of u.model root) tr.file ≡ false)
      (few : length u.log < log_limit) where
    abbrev after : State
    after = record { model = put_set u.model root (with_file (set_of u.model root) tr.file); log = extension root tr.file ∷ u.log }

    -- the root's set gains the file of the tree
    root-after : set_of after.model root ≡ with_file (loaded_files start) tr.file
    root-after =
        set-put_set u.model root _ (omega (arith, inv.sound.static.some, level.kept.sets)) ∙ ap (λ v. with_file v tr.file) level.root_set

    waits-after : (t : Tree) → holds (loaded_files after.model) t.file ≡ false
        → (t.file ≡ tr.file → ⊥) × (holds (loaded_files start) t.file ≡ false)
    waits-after t w =
        let w' : holds (with_file (loaded_files start) tr.file) t.file ≡ false = rw root-after at w in
        let differ : t.file ≡ tr.file → ⊥ = λ z. false≢true (sym w' ∙ ap (holds _) z ∙ holds-with_file (loaded_files start) tr.file) in
        (differ, sym (holds-with_file-other (loaded_files start) tr.file t.file differ) ∙ w')

    after-inv : Inv x after
    after-inv =
        let moves = moves_put root (with_file (set_of u.model root) tr.file) level.moves in
        record {
          sound =
              record {
                static = inv.sound.static;
                kept = kept-extend level.kept root tr.file inv.sound.static.some (inv.sound.static.trees.valid tr among).declared few;
                root_set = rw root-after (with_file-positive (loaded_files start) tr.file);
              };
          root_top = top_kept moves root inv.root_top;
          tree_top = λ t i. top_kept moves t.root (inv.tree_top t i);
          model = owns-model moves;
          waiting =
              λ t i w.
              let (differ, w') = waits-after t w in
              owns-waiting moves t i (λ z. differ (ap (λ (y : Tree). y.file) (inv.sound.static.trees.one_root t tr i among z))) w';
        }

    after-merge : IsMerge s after (sum_of (counts_of (entries_above (length s.log) after.log)))
    unfolding ends_merge is_root_extension
    after-merge =
        let path = unmarked-steps level.unmarked in
        record {
          steps = step path (extends root tr.file absent);
          size = counts-above (length s.log) after.log (omega (arith, steps-longer path));
          last = refl;
          inner =
              λ k h j.
              mark-below k (extension root tr.file ∷ []) u.log (omega arith) ∙ unmarked-marks level.unmarked k h (omega arith);
        }

  tree-ok : IfDone (Accepted x s) (Steps s) (merge_tree x tr s)
  unfolding merge_tree
  tree-ok =
      done-bind (level-ok x s inv tr among waits (suc depth_limit) (loaded_files start) root tr.root s ready-root)
      (λ u level.
      extend-ok u root tr.file
      (λ held. absurd (false≢true (sym waits ∙ ap (λ v. holds v tr.file) (sym level.root_set) ∙ held)))
      (λ absent few. (after-merge u level absent few, after-inv u level absent few)))

-- ---- the call

pub waiting-tree : (x : Fixed) (m : Model) (f : FileNumber) (tr : Tree) → waiting_tree x m f ≡ some tr
    → (holds (loaded_files m) tr.file ≡ false) × In tr x.elements.trees
unfolding waiting_tree
waiting-tree x m f tr =
    bool_case (λ (o : Option Tree). o ≡ some tr → (holds (loaded_files m) tr.file ≡ false) × In tr x.elements.trees) (holds (loaded_files m) f)
    (λ _ h. absurd (none-ne-some tr h))
    (λ absent h.
    let (k, i) = first_of-some (λ (t : Tree). eqb t.file f) x.elements.trees h in
    (ap (holds (loaded_files m)) (eqb-true _ _ k) ∙ absent, i))

same-counts : {c d : Counts} → merged c ≡ merged d → c ≡ d
same-counts h = cc

not-merged : {c : Counts} {r : Refusal} → merge_refused r ≡ merged c → ⊥
not-merged h = let z : ◌≡◌ {A = ℕ} 0 1 = cc in omega arith

outcome-merged : (x : Fixed) (s t : State) (c : Counts) {o : Outcome} → IfDone (Accepted x s) (Steps s) o
    → merged_from s o ≡ record { answer = merged c; state = t } → IsMerge s t (sum_of c) × Inv x t
unfolding merged_from
outcome-merged x s t c (is_done h) e =
    rw (← ap (λ (r : Merged). r.state) e, ← same-counts (ap (λ (r : Merged). r.answer) e)) h
outcome-merged x s t c (is_conflict h) e = absurd (not-merged (ap (λ (r : Merged). r.answer) e))
outcome-merged x s t c is_refused e = absurd (not-merged (ap (λ (r : Merged). r.answer) e))

-- an accepted merge is one of its counts, and keeps the invariant
pub merge-inv : (x : Fixed) (s t : State) (f : FileNumber) (c : Counts) → Inv x s → merge x f s ≡ record { answer = merged c; state = t }
    → IsMerge s t (sum_of c) × Inv x t
unfolding merge
merge-inv x s t f c inv =
    option-case (λ (r : Merged). r ≡ record { answer = merged c; state = t } → IsMerge s t (sum_of c) × Inv x t) (waiting_tree x s.model f)
    (λ _ e. absurd (not-merged (ap (λ (r : Merged). r.answer) e)))
    (λ tr w e. let (waits, among) = waiting-tree x s.model f tr w in outcome-merged x s t c (tree-ok x s inv tr among waits) e)
