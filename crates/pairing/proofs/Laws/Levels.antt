-- The walk of a level from its start to its end. Assumes nothing.
use mathlib.Core.List.{List, []}
use mathlib.Core.Path.{◌≡◌, refl, ap, ◌∙◌}
use Prim.Native.Nat.{ℕ, ◌+◌, ◌-◌, ◌*◌, ◌≤◌, ◌<◌}
use native.Mathlib.Omega.{arith}
use lib.ListN.{length, take, replicate, length-replicate, get_or-replicate}
use Rattle.tables.specs.Limits.{element_limit}
use Rattle.tables.specs.Lists.{keep}
use Rattle.tables.specs.Records.{Element}
use Rattle.merge_rules.specs.Pairing.{Action, merge_equal, b_only, unmergeable_parent, planned, first_used_twice}
use Rattle.pairing.specs.declared.plan.Sides.{Sides}
use Rattle.pairing.specs.declared.plan.Cursors.{Cursors}
use Rattle.pairing.specs.declared.plan.Use.{Use}
use Rattle.pairing.specs.declared.plan.Use.TheVariants.{Unused}
use Rattle.pairing.specs.declared.action.Action as program
use Rattle.pairing.specs.declared.action.Action.TheVariants.{MergeEqual, MergeUnequal, AOnly, BOnly, UnmergeableParent}
use Rattle.pairing.specs.Actions.{action_is, Acts}
use Rattle.pairing.specs.Plans.{spread, plan_up_to, plan_in, Planned, planned_is, level_unmergeable, or_used_twice, checked_plan}
use Rattle.pairing.specs.Walks.{first_children, second_children, next_action, StepIn, walk_on, pair_uses, import_uses, use_of, Counted, Planning, WorkRoom, Ranged, Advances, Finishes}
use Rattle.pairing.proofs.Laws.Planning.{next-other, planning-neither, planning-end, planning-start}
use Rattle.pairing.proofs.Laws.Rows.{CellsKept, front_kept, plan-kept, elements-kept, length-first, length-second, second-behind, front_at, second-front}

-- nothing is counted
counted_none : (na : ℕ) (w : List ℕ) → Counted (plan_up_to na 0 0 w) (replicate 1024 Unused)
unfolding spread pair_uses import_uses use_of keep
counted_none na w =
    record { size = length-replicate {A = Use} 1024 Unused; is = λ e h. get_or-replicate {A = Use} 1024 e Unused Unused h }

-- ---- the action at the cursors

-- an action other than refusal 6 is one that a step can take
pub step_in : (n : ℕ) (act : Element → Element → Action) (s : Sides) (w : List ℕ) (i j k : ℕ) (o : program.Action) → n ≤ element_limit → WorkRoom s w i j k
    → (o ≡ UnmergeableParent → ⊥) → Acts n o (next_action act (first_children s w) (second_children s w) i j) → StepIn s j o
step_in n act s w i j k MergeEqual few room told a =
    let (h, e) = next-other act (first_children s w) (second_children s w) i j merge_equal a.is (λ q. let z : ◌≡◌ {A = ℕ} 0 1 = cc in absurd (omega arith)) in
    omega (arith, length-second s w room.within)
step_in n act s w i j k (MergeUnequal x) few room told a = omega (arith, a.within)
step_in n act s w i j k AOnly few room told a = tt
step_in n act s w i j k BOnly few room told a =
    let (h, e) = next-other act (first_children s w) (second_children s w) i j b_only a.is (λ q. let z : ◌≡◌ {A = ℕ} 0 1 = cc in absurd (omega arith)) in
    omega (arith, length-second s w room.within)
step_in n act s w i j k UnmergeableParent few room told a = absurd (told refl)

-- ---- from the start, where B's children name the action, over n elements

module _ (action : List Element → Element → Element → Action) (n : ℕ) (s : Sides) (w : List ℕ) where
  abbrev ruled : Element → Element → Action
  ruled = action (second_children s w)

  -- from w the walk came to w', to child i of A and j of B
  pub record WalksFrom (w' : List ℕ) (used : List Use) (i j k : ℕ) : Type 0 where
    pub room : WorkRoom s w' i j k
    pub ranged : Ranged n s w' k
    pub counted : Counted (plan_up_to s.rows i k w') used
    pub second : second_children s w' ≡ second_children s w
    pub plans : (end : ℕ) → Planning ruled end (walk_on ruled end 0 (first_children s w) (second_children s w) []) (plan_up_to s.rows i k w') (first_children s w') (second_children s w') i j

  pub walk_start : WorkRoom s w 0 0 0 → Ranged n s w 0 → WalksFrom w (replicate 1024 Unused) 0 0 0
  unfolding spread
  walk_start room ranged =
      record {
        room = room;
        ranged = ranged;
        counted = counted_none s.rows w;
        second = refl;
        plans = λ end. planning-start ruled end (first_children s w) (second_children s w);
      }

  module _ (w' : List ℕ) (used : List Use) (i j k : ℕ) (sofar : WalksFrom w' used i j k) where
    next-sofar : (o : program.Action) → Acts n o (next_action (action (second_children s w')) (first_children s w') (second_children s w') i j)
        → action_is o ≡ next_action ruled (first_children s w') (second_children s w') i j
    next-sofar o a = a.is ∙ ap (λ (l : List Element). next_action (action l) (first_children s w') (second_children s w') i j) sofar.second

    -- one step more
    pub walk_turn : (o : program.Action) → Acts n o (next_action (action (second_children s w')) (first_children s w') (second_children s w') i j)
        → (w'' : List ℕ) (used'' : List Use) (r : Cursors) → Advances s o w' (record { a = i; b = j; new = k }) w'' used'' r → WalksFrom w'' used'' r.a r.b r.new
    walk_turn o a w'' used'' r step =
        record {
          room = step.room;
          ranged = step.ranged n a.within sofar.ranged;
          counted = step.counted;
          second = second-behind s w' w'' step.behind ∙ sofar.second;
          plans = λ end. step.plans ruled end _ (next-sofar o a) (sofar.plans end);
        }

    -- only cells behind B's children have changed
    module _ (w'' : List ℕ) (size : length w'' ≡ length w') (front : take s.end w'' ≡ take s.end w') where
      kept : CellsKept w' w'' s.end (length w')
      kept = front_kept s.end w' w'' front size

      first-kept : first_children s w'' ≡ first_children s w'
      first-kept = elements-kept w' w'' s.end (length w') kept s.rows (λ m a b d. omega (arith, sofar.room.behind, sofar.room.second))

      second-kept : second_children s w'' ≡ second_children s w'
      second-kept = second-front s w' w'' (omega (arith, sofar.room.second)) (omega (arith, sofar.room.within)) size front

      pub next-kept : (o : program.Action) → Acts n o (next_action (action (second_children s w')) (first_children s w') (second_children s w') i j)
          → Acts n o (next_action (action (second_children s w'')) (first_children s w'') (second_children s w'') i j)
      next-kept o a = rw (first-kept, second-kept) a

      pub walk_kept : WalksFrom w'' used i j k
      walk_kept =
          let room = sofar.room in
          let rows = sofar.ranged.rows in
          let few : 2 * (s.rows + k) ≤ s.end = omega (arith, room.behind, room.second, room.new) in
          let cell = front_at s.end w' w'' front in
          let plan = plan-kept w' w'' s.end (length w') kept s.rows i k (λ c a b d. omega (arith, room.first)) (λ c a b d e. omega arith) in
          record {
            room =
                record {
                  first = room.first;
                  second = room.second;
                  new = room.new;
                  behind = room.behind;
                  within = omega (arith, room.within);
                  few_first = room.few_first;
                  few_second = room.few_second;
                  small = rw second-kept room.small;
                  unpaired = λ m h l. cell (2 * m + 1) (omega arith) ∙ room.unpaired m h l;
                };
            ranged =
                record {
                  rows =
                      record {
                        room = omega (arith, rows.room);
                        few = rows.few;
                        element = λ m h. rw (cell (2 * m) (omega arith)) (rows.element m h);
                        mate = λ m h. rw (cell (2 * m + 1) (omega arith)) (rows.mate m h);
                        place = λ m h. rw (cell (2 * m + 1) (omega arith)) (rows.place m h);
                      };
                  second = rw second-kept sofar.ranged.second;
                };
            counted = rw plan sofar.counted;
            second = second-kept ∙ sofar.second;
            plans = λ end. rw (plan, first-kept, second-kept) (sofar.plans end);
          }

    -- refusal 6
    pub walk_refused : (end : ℕ) (o : program.Action) → i < s.rows → Acts n o (next_action (action (second_children s w')) (first_children s w') (second_children s w') i j)
        → o ≡ UnmergeableParent → level_unmergeable ≡ checked_plan (second_children s w) (walk_on ruled end 0 (first_children s w) (second_children s w) [])
    unfolding checked_plan
    walk_refused end o h a q =
        let e : unmergeable_parent ≡ next_action ruled (first_children s w') (second_children s w') i j = (rw q at (next-sofar o a)) in
        let l : i < length (first_children s w') = omega (arith, length-first s w') in
        rw (planning-neither ruled end _ (plan_up_to s.rows i k w') (first_children s w') (second_children s w') i j (sofar.plans end) l e)

    -- left-over B, and the answer
    module _ (end : ℕ) (w'' : List ℕ) (used'' : List Use) (new : ℕ) (rest : Finishes s end w' (record { a = i; b = j; new = k }) w'' used'' new) (all : i ≡ s.rows) where
      whole-planned : planned (plan_in s.rows new w'') ≡ walk_on ruled end 0 (first_children s w) (second_children s w) []
      whole-planned =
          let p = rw all at (rest.plans ruled end _ refl (sofar.plans end)) in
          planning-end ruled end _ (plan_in s.rows new w'') (first_children s w'') (second_children s w'') s.rows (s.end - s.start) p
          (omega (arith, length-first s w'')) (omega (arith, length-second s w'' rest.room.within))

      pub walk-answer : (r : Planned)
          → planned_is r w'' ≡ or_used_twice (plan_in s.rows new w'') (first_used_twice (plan_in s.rows new w'') (second_children s w''))
          → planned_is r w'' ≡ checked_plan (second_children s w) (walk_on ruled end 0 (first_children s w) (second_children s w) [])
      unfolding checked_plan
      walk-answer r e = e ∙ rw (← whole-planned, second-behind s w' w'' rest.behind, sofar.second)
