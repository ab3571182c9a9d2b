-- The ways of one step of the walk on the scratch slice, and steps one after the other. Assumes nothing.
use mathlib.Core.Bool.{true, false}
use mathlib.Core.List.{List}
use mathlib.Core.Logic.{⊎_elim}
use mathlib.Core.Path.{◌≡◌, refl, sym, ap, ◌∙◌}
use Prim.Native.Nat.{ℕ, ◌+◌, ◌*◌, ◌≤◌, ◌<◌}
use native.Mathlib.Omega.{arith}
use lib.ListN.{length, get_or, set, drop}
use lib.Seq.{get_or-set_same}
use Rattle.tables.specs.Limits.{element_limit, item_limit}
use Rattle.tables.specs.Records.{Element}
use Rattle.merge_rules.specs.Pairing.{Action, merge_equal, merge_unequal, a_only, Plan, Walked}
use Rattle.merge_rules.proofs.Laws.Cases.{same-or-other}
use Rattle.pairing.specs.declared.plan.Sides.{Sides}
use Rattle.pairing.specs.declared.plan.Use.{Use}
use Rattle.pairing.specs.declared.plan.Use.TheVariants.{Unused}
use Rattle.pairing.specs.Plans.{row_element, row_value, plan_up_to}
use Rattle.pairing.specs.Walks.{first_children, second_children, next_action, imported_again, paired_again, is_paired, Counted, Planning, WorkRoom, Ranged, Walks, StepPasses}
use Rattle.pairing.proofs.Laws.Planning.{planning-equal, planning-unequal, planning-first, planning-skip, planning-import}
use Rattle.pairing.proofs.Laws.Rows.{row-restriction, row-pair, row-import, CellsKept, kept-one, kept-two, two-first, two-second, plan-kept, elements-kept, length-first, get_d-first, length-second, get_d-second, behind-kept, second-behind}
use Rattle.pairing.proofs.Laws.Uses.{counted-restriction, counted-pair, counted-import, counted-paired, counted-unpaired}
use Rattle.pairing.proofs.Laws.Walks.{plus_restriction, plus_import, plus_pair}

abbrev Asked : Type 1
Asked = (Element → Element → Action) → ℕ → Type 0

-- ---- one after the other

module _ (s : Sides) (P : Asked) (Q : ℕ → Type 0) (w : List ℕ) (i j k : ℕ) where
  -- as far as one, and on from there
  pub walks-then : (P' : Asked) (Q' : ℕ → Type 0) (w₁ : List ℕ) (used₁ : List Use) (i₁ j₁ k₁ : ℕ) (w₂ : List ℕ) (used₂ : List Use) (i₂ j₂ k₂ : ℕ)
      → Walks s P Q w i j k w₁ used₁ i₁ j₁ k₁ → Walks s P' Q' w₁ i₁ j₁ k₁ w₂ used₂ i₂ j₂ k₂
      → ((act : Element → Element → Action) (end : ℕ) → P act end → P' act end) → ((n : ℕ) → Q n → Q' n) → Walks s P Q w i j k w₂ used₂ i₂ j₂ k₂
  walks-then P' Q' w₁ used₁ i₁ j₁ k₁ w₂ used₂ i₂ j₂ k₂ a b p q =
      record {
        room = b.room;
        counted = b.counted;
        behind = b.behind ∙ a.behind;
        ranged = λ n h r. b.ranged n (q n h) (a.ranged n h r);
        plans = λ act end whole h l. b.plans act end whole (p act end h) (a.plans act end whole h l);
      }

-- the plan and the lists by other names
moved : (act : Element → Element → Action) (end : ℕ) (whole : Walked) (i j : ℕ) {p p' : Plan} {as₁ as₂ bs₁ bs₂ : List Element} → p' ≡ p → as₂ ≡ as₁ → bs₂ ≡ bs₁
    → Planning act end whole p as₁ bs₁ i j → Planning act end whole p' as₂ bs₂ i j
moved act end whole i j e f g w = rw (e, f, g) w

-- ---- the ways

module _ (s : Sides) (w : List ℕ) (used : List Use) (i j k : ℕ) (room : WorkRoom s w i j k) (counted : Counted (plan_up_to s.rows i k w) used) where
  -- the cursor child of B
  pub cursor-second : s.start + j < s.end → get_or (second_children s w) j 0 ≡ get_or w (s.start + j) 0
  cursor-second h = get_d-second s w room.within j h

  pub cursor-small : s.start + j < s.end → get_or w (s.start + j) 0 < element_limit
  cursor-small h =
      let n : j < length (second_children s w) = omega (arith, length-second s w room.within) in
      omega (arith, room.small j n, cursor-second h)

  cursor-ranged : (n : ℕ) → s.start + j < s.end → Ranged n s w k → get_or w (s.start + j) 0 < n
  cursor-ranged n h r =
      let m : j < length (second_children s w) = omega (arith, length-second s w room.within) in
      omega (arith, r.second j m, cursor-second h)

  -- ---- A paired with e

  module _ (e : ℕ) (h : i < s.rows) (small : e < element_limit) where
    abbrev pairing : List ℕ
    pairing = set w (2 * i + 1) (e + 1)

    pair_fits : 2 * i + 1 < length w
    pair_fits = omega (arith, room.behind, room.within, room.second)

    pair-kept : CellsKept w pairing (2 * i + 1) (2 * i + 1 + 1)
    pair-kept = kept-one w (2 * i + 1) (e + 1)

    pair-value : row_value pairing i ≡ e + 1
    pair-value = get_or-set_same w (2 * i + 1) (e + 1) 0 pair_fits

    pair-plan : plan_up_to s.rows (i + 1) k pairing ≡ plus_pair (plan_up_to s.rows i k w) (row_element w i) e
    pair-plan =
        row-pair pairing s.rows i k e pair-value
        ∙ ap (λ (p : Plan). plus_pair p (row_element pairing i) e)
        (plan-kept w pairing (2 * i + 1) (2 * i + 1 + 1) pair-kept s.rows i k (λ c a b d. omega arith) (λ c a b d l. omega arith))
        ∙ ap (λ (a : ℕ). plus_pair (plan_up_to s.rows i k w) a e) (pair-kept.outside (2 * i) (λ a b. omega arith))

    pair-first : first_children s pairing ≡ first_children s w
    pair-first = elements-kept w pairing (2 * i + 1) (2 * i + 1 + 1) pair-kept s.rows (λ m a b c. omega arith)

    pair-behind : drop s.start pairing ≡ drop s.start w
    pair-behind = behind-kept s w pairing (2 * i + 1) (2 * i + 1 + 1) pair-kept (omega (arith, room.behind))

    pair-second : second_children s pairing ≡ second_children s w
    pair-second = second-behind s w pairing pair-behind

    pair-room : (j' : ℕ) → j ≤ j' → s.start + j' ≤ s.end → WorkRoom s pairing (i + 1) j' k
    pair-room j' a b =
        record {
          first = omega arith;
          second = b;
          new = omega (arith, room.new);
          behind = room.behind;
          within = omega (arith, room.within, pair-kept.size);
          few_first = room.few_first;
          few_second = room.few_second;
          small = rw pair-second room.small;
          unpaired = λ m l n. pair-kept.outside (2 * m + 1) (λ p q. omega arith) ∙ room.unpaired m (omega arith) n;
        }

    pair-counted : Counted (plan_up_to s.rows (i + 1) k pairing) (set used e (paired_again (get_or used e Unused)))
    pair-counted = rw pair-plan (counted-pair (plan_up_to s.rows i k w) used counted (row_element w i) e small)

    pair-ranged : (n : ℕ) → e < n → Ranged n s w k → Ranged n s pairing k
    pair-ranged n below r =
        let t = r.rows in
        record {
          rows =
              record {
                room = omega (arith, t.room, pair-kept.size);
                few = t.few;
                element = λ m l. rw (pair-kept.outside (2 * m) (λ a b. omega arith)) (t.element m l);
                mate = λ m l.
                    ⊎_elim (λ (q : m ≡ i). rw (q, pair-value) (omega arith))
                    (λ (q : m ≡ i → ⊥). rw (pair-kept.outside (2 * m + 1) (λ a b. q (omega arith))) (t.mate m l)) (same-or-other m i);
                place = λ m l.
                    ⊎_elim (λ (q : m ≡ i). rw (q, pair-value) (omega arith))
                    (λ (q : m ≡ i → ⊥). rw (pair-kept.outside (2 * m + 1) (λ a b. q (omega arith))) (t.place m l)) (same-or-other m i);
              };
          second = rw pair-second r.second;
        }

    pair-walks : (P : Asked) (Q : ℕ → Type 0) (j' : ℕ) → j ≤ j' → s.start + j' ≤ s.end → ((n : ℕ) → Q n → Ranged n s w k → e < n)
        → ((act : Element → Element → Action) (end : ℕ) (whole : Walked) → P act end
        → Planning act end whole (plan_up_to s.rows i k w) (first_children s w) (second_children s w) i j
        → Planning act end whole (plus_pair (plan_up_to s.rows i k w) (get_or (first_children s w) i 0) e) (first_children s w) (second_children s w) (i + 1) j')
        → Walks s P Q w i j k pairing (set used e (paired_again (get_or used e Unused))) (i + 1) j' k
    pair-walks P Q j' a b below plans =
        record {
          room = pair-room j' a b;
          counted = pair-counted;
          behind = pair-behind;
          ranged = λ n q r. pair-ranged n (below n q r) r;
          plans = λ act end whole q p.
              moved act end whole (i + 1) j'
              (pair-plan ∙ ap (λ (a : ℕ). plus_pair (plan_up_to s.rows i k w) a e) (sym (get_d-first s w i h))) pair-first pair-second (plans act end whole q p);
        }

  -- both cursors pass
  pub walks-equal : i < s.rows → s.start + j < s.end → (e : ℕ) → e ≡ get_or w (s.start + j) 0
      → Walks s (λ (act : Element → Element → Action) (end : ℕ). merge_equal ≡ next_action act (first_children s w) (second_children s w) i j) (λ (n : ℕ). Unit {0})
      w i j k (set w (2 * i + 1) (e + 1)) (set used e (paired_again (get_or used e Unused))) (i + 1) (j + 1) k
  walks-equal h l e q =
      let b : get_or (second_children s w) j 0 ≡ e = cursor-second l ∙ sym q in
      pair-walks e h (omega (arith, cursor-small l)) _ _ (j + 1) (omega arith) (omega arith) (λ n u r. omega (arith, cursor-ranged n l r))
      (λ act end whole n p.
      rw (← b)
      (planning-equal act end whole (plan_up_to s.rows i k w) (first_children s w) (second_children s w) i j p (omega (arith, length-first s w)) n))

  -- A with a B sibling
  pub walks-unequal : i < s.rows → (e : ℕ) → e < element_limit
      → Walks s (λ (act : Element → Element → Action) (end : ℕ). merge_unequal e ≡ next_action act (first_children s w) (second_children s w) i j) (λ (n : ℕ). e < n)
      w i j k (set w (2 * i + 1) (e + 1)) (set used e (paired_again (get_or used e Unused))) (i + 1) j k
  walks-unequal h e small =
      pair-walks e h small _ _ j (omega arith) room.second (λ n u r. u)
      (λ act end whole n p.
      planning-unequal act end whole (plan_up_to s.rows i k w) (first_children s w) (second_children s w) i j p e (omega (arith, length-first s w)) n)

  -- ---- A only

  pub walks-first : i < s.rows
      → Walks s (λ (act : Element → Element → Action) (end : ℕ). a_only ≡ next_action act (first_children s w) (second_children s w) i j) (λ (n : ℕ). Unit {0})
      w i j k w used (i + 1) j k
  walks-first h =
      let e = row-restriction w s.rows i k (room.unpaired i (omega arith) h) in
      record {
        room =
            record {
              first = omega arith;
              second = room.second;
              new = room.new;
              behind = room.behind;
              within = room.within;
              few_first = room.few_first;
              few_second = room.few_second;
              small = room.small;
              unpaired = λ m l n. room.unpaired m (omega arith) n;
            };
        counted = rw e (counted-restriction (plan_up_to s.rows i k w) used counted (row_element w i));
        behind = refl;
        ranged = λ n q r. r;
        plans = λ act end whole n p.
            moved act end whole (i + 1) j (e ∙ ap (plus_restriction (plan_up_to s.rows i k w)) (sym (get_d-first s w i h))) refl refl
            (planning-first act end whole (plan_up_to s.rows i k w) (first_children s w) (second_children s w) i j p (omega (arith, length-first s w)) n);
      }

  -- ---- a child of B

  module _ (position : ℕ) (l : s.start + j < s.end) where
    abbrev PassesHere : Asked
    PassesHere act end = StepPasses act end (first_children s w) (second_children s w) i j position

    -- already paired
    pub walks_skip : is_paired (get_or used (get_or w (s.start + j) 0) Unused) ≡ true → Walks s PassesHere (λ (n : ℕ). position ≤ item_limit) w i j k w used i (j + 1) k
    walks_skip n =
        let b = cursor-second l in
        let u = counted-paired (plan_up_to s.rows i k w) used counted (get_or w (s.start + j) 0) (cursor-small l) n in
        record {
          room =
              record {
                first = room.first;
                second = omega arith;
                new = omega (arith, room.new);
                behind = room.behind;
                within = room.within;
                few_first = room.few_first;
                few_second = room.few_second;
                small = room.small;
                unpaired = room.unpaired;
              };
          counted = counted;
          behind = refl;
          ranged = λ n q r. r;
          plans = λ act end whole q p.
              planning-skip act end whole (plan_up_to s.rows i k w) (first_children s w) (second_children s w) i j p position q (rw b u);
        }

    -- in the B-only list
    module _ (e : ℕ) (q : e ≡ get_or w (s.start + j) 0) where
      abbrev importing : List ℕ
      importing = set (set w (2 * (s.rows + k)) e) (2 * (s.rows + k) + 1) position

      import-kept : CellsKept w importing (2 * (s.rows + k)) (2 * (s.rows + k) + 2)
      import-kept = kept-two w (2 * (s.rows + k)) e position

      import-fits : 2 * (s.rows + k) + 2 ≤ s.start
      import-fits = omega (arith, room.behind, room.new)

      import-element : row_element importing (s.rows + k) ≡ e
      import-element = two-first w (2 * (s.rows + k)) e position (omega (arith, import-fits, room.within, room.second))

      import-value : row_value importing (s.rows + k) ≡ position
      import-value = two-second w (2 * (s.rows + k)) e position (omega (arith, import-fits, room.within, room.second))

      import-plan : plan_up_to s.rows i (k + 1) importing ≡ plus_import (plan_up_to s.rows i k w) e position
      import-plan =
          row-import importing s.rows i k
          ∙ ap (λ (p : Plan). plus_import p (row_element importing (s.rows + k)) (row_value importing (s.rows + k)))
          (plan-kept w importing (2 * (s.rows + k)) (2 * (s.rows + k) + 2) import-kept s.rows i k (λ c a b d. omega (arith, room.first)) (λ c a b d f. omega arith))
          ∙ rw (import-element, import-value)

      import-first : first_children s importing ≡ first_children s w
      import-first = elements-kept w importing (2 * (s.rows + k)) (2 * (s.rows + k) + 2) import-kept s.rows (λ m a b c. omega arith)

      import-behind : drop s.start importing ≡ drop s.start w
      import-behind = behind-kept s w importing (2 * (s.rows + k)) (2 * (s.rows + k) + 2) import-kept import-fits

      import-second : second_children s importing ≡ second_children s w
      import-second = second-behind s w importing import-behind

      import-room : WorkRoom s importing i (j + 1) (k + 1)
      import-room =
          record {
            first = room.first;
            second = omega arith;
            new = omega (arith, room.new);
            behind = room.behind;
            within = omega (arith, room.within, import-kept.size);
            few_first = room.few_first;
            few_second = room.few_second;
            small = rw import-second room.small;
            unpaired = λ m a b. import-kept.outside (2 * m + 1) (λ p r. omega arith) ∙ room.unpaired m a b;
          }

      import-ranged : (n : ℕ) → e < n → position ≤ item_limit → Ranged n s w k → Ranged n s importing (k + 1)
      import-ranged n below few r =
          let t = r.rows in
          record {
            rows =
                record {
                  room = omega (arith, import-fits, room.within, import-kept.size);
                  few = omega (arith, room.few_first, room.few_second, room.new);
                  element = λ m a.
                      ⊎_elim (λ (z : m ≡ s.rows + k). rw (z, import-element) below)
                      (λ (z : m ≡ s.rows + k → ⊥).
                      rw (import-kept.outside (2 * m) (λ b c. z (omega arith))) (t.element m (omega (arith, z)))) (same-or-other m (s.rows + k));
                  mate = λ m a. rw (import-kept.outside (2 * m + 1) (λ b c. omega arith)) (t.mate m a);
                  place = λ m a.
                      ⊎_elim (λ (z : m ≡ s.rows + k). rw (z, import-value) few)
                      (λ (z : m ≡ s.rows + k → ⊥).
                      rw (import-kept.outside (2 * m + 1) (λ b c. z (omega arith))) (t.place m (omega (arith, z)))) (same-or-other m (s.rows + k));
                };
            second = rw import-second r.second;
          }

      pub walks-import : is_paired (get_or used e Unused) ≡ false
          → Walks s PassesHere (λ (n : ℕ). position ≤ item_limit) w i j k importing (set used e (imported_again (get_or used e Unused))) i (j + 1) (k + 1)
      walks-import z =
          let b : get_or (second_children s w) j 0 ≡ e = cursor-second l ∙ sym q in
          let small : e < element_limit = omega (arith, cursor-small l) in
          let none = counted-unpaired (plan_up_to s.rows i k w) used counted e small z in
          record {
            room = import-room;
            counted = rw import-plan (counted-import (plan_up_to s.rows i k w) used counted e position small none);
            behind = import-behind;
            ranged = λ n few r. import-ranged n (omega (arith, cursor-ranged n l r)) few r;
            plans = λ act end whole h p.
                moved act end whole i (j + 1) (import-plan ∙ ap (λ (x : ℕ). plus_import (plan_up_to s.rows i k w) x position) (sym b)) import-first import-second
                (planning-import act end whole (plan_up_to s.rows i k w) (first_children s w) (second_children s w) i j p position h (rw b none));
          }
