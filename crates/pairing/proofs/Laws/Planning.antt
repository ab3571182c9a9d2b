-- One step of the walk over plain lists: the plan so far and the walk that is left stay the whole. Assumes nothing.
use mathlib.Core.Bool.{true, false}
use mathlib.Core.List.{List, [], ◌∷◌, append-nil}
use mathlib.Core.Logic.{⊎_elim}
use mathlib.Core.Path.{◌≡◌, refl, sym, ◌∙◌}
use Prim.Native.Nat.{ℕ, suc, ◌+◌, ◌≤◌, ◌<◌}
use native.Mathlib.Numerals.{add-one}
use native.Mathlib.Omega.{arith}
use borrow.Author.Tests.{eq-eqb, ne_eqb, lt-ltb, le-ltb, ltb-true, ltb-false}
use lib.Dec.{eqb, ltb}
use lib.ListN.{length, get_or, drop, drop_of_length-le}
use lib.Seq.{drop-cons}
use Rattle.tables.specs.Lists.{any_of, keep}
use Rattle.tables.specs.Records.{Element}
use Rattle.merge_rules.specs.Pairing.{Action, merge_equal, merge_unequal, a_only, b_only, unmergeable_parent, Plan, Walked, planned, unmergeable_in, import_unpaired}
use Rattle.merge_rules.proofs.Laws.Cases.{same-or-other}
use Rattle.pairing.specs.Walks.{next_action, walk_on, after, pair_uses, Planning, StepPasses}
use Rattle.pairing.proofs.Laws.Uses.{pair-here, pair-other}
use Rattle.pairing.proofs.Laws.Walks.{on-equal, on-unequal, on-first, on-second, on-neither, on-last-first, on-last-second, walk_none, no_plan, plus_restriction, plus_import, plus_pair, after-restriction, after-import, after-pair, after_none}
use Rattle.tables.proofs.Laws.Cases.{bool-split}

-- ---- the rule's action at the cursors

module _ (act : Element → Element → Action) (as' bs : List Element) (i j : ℕ) where
  pub next_here : j < length bs → next_action act as' bs i j ≡ act (get_or as' i 0) (get_or bs j 0)
  unfolding next_action
  next_here h = rw (next_action, lt-ltb j (length bs) h)

  pub next-behind : length bs ≤ j → next_action act as' bs i j ≡ a_only
  unfolding next_action
  next-behind h = rw (next_action, le-ltb j (length bs) h)

  -- an action other than A-only is that of two children
  pub next-other : (o : Action) → o ≡ next_action act as' bs i j → (o ≡ a_only → ⊥) → (j < length bs) × (act (get_or as' i 0) (get_or bs j 0) ≡ o)
  next-other o e n =
      bool-split (ltb j (length bs)) (λ t. let h = ltb-true j (length bs) t in (h, sym (next_here h) ∙ sym e))
      (λ t. absurd (n (e ∙ next-behind (ltb-false j (length bs) t))))

-- ---- children already paired

paired-more : (p : Plan) (a b : Element) (paired : List Element) → ((e : Element) → any_of (eqb e) paired ≡ ltb 0 (pair_uses p e))
    → (e : Element) → any_of (eqb e) (b ∷ paired) ≡ ltb 0 (pair_uses (plus_pair p a b) e)
unfolding any_of
paired-more p a b paired h e =
    ⊎_elim (λ (q : b ≡ e). rw (any_of, eq-eqb e b (sym q), pair-here p a b e q) (sym (lt-ltb 0 (pair_uses p e + 1) (omega arith))))
    (λ (q : b ≡ e → ⊥). rw (any_of, ne_eqb e b (λ (r : e ≡ b). q (sym r)), pair-other p a b e q) (h e)) (same-or-other b e)

-- ---- one step

module _ (act : Element → Element → Action) (end : ℕ) (whole : Walked) (p : Plan) (as' bs : List Element) (i j : ℕ) (w : Planning act end whole p as' bs i j) where
  pub planning-equal : i < length as' → merge_equal ≡ next_action act as' bs i j
      → Planning act end whole (plus_pair p (get_or as' i 0) (get_or bs j 0)) as' bs (i + 1) (j + 1)
  planning-equal h n =
      let (k, e) = next-other act as' bs i j merge_equal n (λ q. let z : ◌≡◌ {A = ℕ} 0 1 = cc in absurd (omega arith)) in
      let a = get_or as' i 0 in
      let b = get_or bs j 0 in
      record {
        paired = b ∷ w.paired;
        same = paired-more p a b w.paired w.same;
        rest =
            rw (add-one i, add-one j)
            (after-pair p a b _
            ∙ (rw (drop-cons as' i 0 h, drop-cons bs j 0 k, on-equal act end i a b (drop (suc i) as') (drop (suc j) bs) w.paired e) at w.rest));
      }

  pub planning-unequal : (c : Element) → i < length as' → merge_unequal c ≡ next_action act as' bs i j
      → Planning act end whole (plus_pair p (get_or as' i 0) c) as' bs (i + 1) j
  planning-unequal c h n =
      let (k, e) = next-other act as' bs i j (merge_unequal c) n (λ q. let z : ◌≡◌ {A = ℕ} 0 1 = cc in absurd (omega arith)) in
      let a = get_or as' i 0 in
      let b = get_or bs j 0 in
      record {
        paired = c ∷ w.paired;
        same = paired-more p a c w.paired w.same;
        rest =
            rw (add-one i, drop-cons bs j 0 k)
            (after-pair p a c _
            ∙ (rw (drop-cons as' i 0 h, drop-cons bs j 0 k, on-unequal act end i a b (drop (suc i) as') (drop (suc j) bs) w.paired c e) at w.rest));
      }

  pub planning-neither : i < length as' → unmergeable_parent ≡ next_action act as' bs i j → whole ≡ unmergeable_in
  unfolding after
  planning-neither h n =
      let (k, e) = next-other act as' bs i j unmergeable_parent n (λ q. let z : ◌≡◌ {A = ℕ} 0 1 = cc in absurd (omega arith)) in
      sym (rw (drop-cons as' i 0 h, drop-cons bs j 0 k, on-neither act end i (get_or as' i 0) (get_or bs j 0) (drop (suc i) as') (drop (suc j) bs) w.paired e) at w.rest)

  planning-first-here : i < length as' → j < length bs → act (get_or as' i 0) (get_or bs j 0) ≡ a_only
      → Planning act end whole (plus_restriction p (get_or as' i 0)) as' bs (i + 1) j
  unfolding pair_uses
  planning-first-here h k e =
      let a = get_or as' i 0 in
      let b = get_or bs j 0 in
      record {
        paired = w.paired;
        same = w.same;
        rest =
            rw (add-one i, drop-cons bs j 0 k)
            (after-restriction p a _
            ∙ (rw (drop-cons as' i 0 h, drop-cons bs j 0 k, on-first act end i a b (drop (suc i) as') (drop (suc j) bs) w.paired e) at w.rest));
      }

  planning-first-behind : i < length as' → length bs ≤ j → Planning act end whole (plus_restriction p (get_or as' i 0)) as' bs (i + 1) j
  unfolding pair_uses
  planning-first-behind h k =
      let a = get_or as' i 0 in
      let none = drop_of_length-le bs {i = j} k in
      record {
        paired = w.paired;
        same = w.same;
        rest =
            rw (add-one i, none)
            (after-restriction p a _ ∙ (rw (drop-cons as' i 0 h, none, on-last-first act end i a (drop (suc i) as') w.paired) at w.rest));
      }

  pub planning-first : i < length as' → a_only ≡ next_action act as' bs i j → Planning act end whole (plus_restriction p (get_or as' i 0)) as' bs (i + 1) j
  planning-first h n =
      bool-split (ltb j (length bs))
      (λ t. let k = ltb-true j (length bs) t in planning-first-here h k (sym (next_here act as' bs i j k) ∙ sym n))
      (λ t. planning-first-behind h (ltb-false j (length bs) t))

  -- a child of B passed by, or in the B-only list
  pub planning-skip : (position : ℕ) → StepPasses act end as' bs i j position → (pair_uses p (get_or bs j 0) ≡ 0 → ⊥) → Planning act end whole p as' bs i (j + 1)
  unfolding import_unpaired
  planning-skip position passes n =
      let b = get_or bs j 0 in
      let t : any_of (eqb b) w.paired ≡ true = w.same b ∙ lt-ltb 0 (pair_uses p b) (omega (arith, n)) in
      record { paired = w.paired; same = w.same; rest = (rw (passes w.paired, import_unpaired, t) at w.rest) }

  pub planning-import : (position : ℕ) → StepPasses act end as' bs i j position → pair_uses p (get_or bs j 0) ≡ 0
      → Planning act end whole (plus_import p (get_or bs j 0) position) as' bs i (j + 1)
  unfolding import_unpaired pair_uses
  planning-import position passes n =
      let b = get_or bs j 0 in
      let t : any_of (eqb b) w.paired ≡ false = w.same b ∙ le-ltb 0 (pair_uses p b) (omega arith) in
      record {
        paired = w.paired;
        same = w.same;
        rest = after-import p b position _ ∙ (rw (passes w.paired, import_unpaired, t) at w.rest);
      }

  pub planning-end : length as' ≤ i → length bs ≤ j → planned p ≡ whole
  unfolding after
  planning-end h k =
      sym (rw (append-nil, append-nil, append-nil))
      ∙ (rw (drop_of_length-le as' {i = i} h, drop_of_length-le bs {i = j} k, walk_none act end i w.paired) at w.rest)

pub planning-start : (act : Element → Element → Action) (end : ℕ) (as' bs : List Element) → Planning act end (walk_on act end 0 as' bs []) no_plan as' bs 0 0
unfolding any_of pair_uses keep
planning-start act end as' bs = record { paired = []; same = λ e. refl; rest = after_none (walk_on act end 0 as' bs []) }

-- ---- a child of B passed

module _ (act : Element → Element → Action) (end : ℕ) (as' bs : List Element) (i j : ℕ) where
  pub passes-second : i < length as' → b_only ≡ next_action act as' bs i j → StepPasses act end as' bs i j i
  passes-second h n paired =
      let (k, e) = next-other act as' bs i j b_only n (λ q. let z : ◌≡◌ {A = ℕ} 0 1 = cc in absurd (omega arith)) in
      rw (add-one j, drop-cons as' i 0 h, drop-cons bs j 0 k) (on-second act end i (get_or as' i 0) (get_or bs j 0) (drop (suc i) as') (drop (suc j) bs) paired e)

  pub passes-rest : length as' ≤ i → j < length bs → StepPasses act end as' bs i j end
  passes-rest h k paired =
      rw (add-one j, drop_of_length-le as' {i = i} h, drop-cons bs j 0 k) (on-last-second act end i (get_or bs j 0) (drop (suc j) bs) paired)
