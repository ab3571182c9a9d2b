-- What the code of one step of the walk reads and asks. Assumes nothing.
use mathlib.Core.Bool.{Bool}
use mathlib.Core.List.{List}
use mathlib.Core.Option.{Option, none, some}
use mathlib.Core.Path.{◌≡◌, sym, ◌∙◌}
use Prim.Native.Nat.{ℕ, ◌+◌, ◌≤◌, ◌<◌}
use native.Mathlib.Omega.{arith}
use borrow.Author.Tests.{lt-ltb, le-ltb}
use lib.Dec.{ltb}
use lib.ListN.{length, get_or, drop}
use Rattle.tables.specs.Limits.{element_limit, item_limit}
use Rattle.tables.specs.Lists.{first_of}
use Rattle.tables.specs.Records.{Element}
use Rattle.tables.proofs.Laws.Scans.{first_more, first-stop, first-end}
use Rattle.merge_rules.specs.Pairing.{Action, a_only, b_only, Plan, uses}
use Rattle.pairing.specs.declared.plan.Sides.{Sides}
use Rattle.pairing.specs.declared.action.Action as program
use Rattle.pairing.specs.declared.action.Action.TheVariants.{MergeEqual, MergeUnequal, UnmergeableParent}
use Rattle.pairing.specs.declared.plan.Use.{Use}
use Rattle.pairing.specs.Plans.{row_element, level_plan, child_used_twice, or_used_twice}
use Rattle.pairing.specs.Walks.{first_children, second_children, next_action, StepIn, WorkRoom, Ranged, Walks, StepPasses}
use Rattle.pairing.proofs.Laws.Planning.{next_here, next-behind, passes-second, passes-rest}
use Rattle.pairing.proofs.Laws.Rows.{length-first, get_d-first, length-second, get_d-second}

-- ---- what an action names

module _ (s : Sides) (j : ℕ) (o : program.Action) (h : StepIn s j o) where
  pub step-equal : o ≡ MergeEqual → s.start + j < s.end
  step-equal e = rw e at h

  pub step-unequal : (x : _) → o ≡ MergeUnequal x → x.0 < element_limit
  step-unequal x e = rw e at h

  pub step-never : o ≡ UnmergeableParent → ⊥
  step-never e = rw e at h

-- ---- the cursors

module _ (s : Sides) (w : List ℕ) (i j k : ℕ) (room : WorkRoom s w i j k) where
  pub next-at : (act : Element → Element → Action) → i < s.rows → s.start + j < s.end
      → next_action act (first_children s w) (second_children s w) i j ≡ act (row_element w i) (get_or w (s.start + j) 0)
  next-at act h l =
      next_here act (first_children s w) (second_children s w) i j (omega (arith, length-second s w room.within))
      ∙ rw (get_d-first s w i h, get_d-second s w room.within j l)

  pub next_past : (act : Element → Element → Action) → s.end ≤ s.start + j → next_action act (first_children s w) (second_children s w) i j ≡ a_only
  next_past act l = next-behind act (first_children s w) (second_children s w) i j (omega (arith, length-second s w room.within))

  -- B only in the walk
  pub walks-second : (w' : List ℕ) (used : List Use) (k' : ℕ) → i < s.rows
      → Walks s (λ (act : Element → Element → Action) (end : ℕ). StepPasses act end (first_children s w) (second_children s w) i j i) (λ (n : ℕ). i ≤ item_limit)
      w i j k w' used i (j + 1) k'
      → Walks s (λ (act : Element → Element → Action) (end : ℕ). b_only ≡ next_action act (first_children s w) (second_children s w) i j) (λ (n : ℕ). Unit {0})
      w i j k w' used i (j + 1) k'
  walks-second w' used k' h b =
      record {
        room = b.room;
        counted = b.counted;
        behind = b.behind;
        ranged = λ n q r. b.ranged n (omega (arith, room.few_first)) r;
        plans = λ act end whole q p.
            b.plans act end whole (passes-second act end (first_children s w) (second_children s w) i j (omega (arith, length-first s w)) q) p;
      }

  -- left-over B
  pub passes-left : (act : Element → Element → Action) (end position : ℕ) → i ≡ s.rows → s.start + j < s.end → end ≡ position
      → StepPasses act end (first_children s w) (second_children s w) i j position
  passes-left act end position h l q =
      rw (← q)
      (passes-rest act end (first_children s w) (second_children s w) i j (omega (arith, length-first s w)) (omega (arith, length-second s w room.within)))

-- ---- a child of B used twice

pub child-small : (s : Sides) (w : List ℕ) (i j k m : ℕ) → WorkRoom s w i j k → s.start + m < s.end → get_or w (s.start + m) 0 < element_limit
child-small s w i j k m room h =
    let n : m < length (second_children s w) = omega (arith, length-second s w room.within) in
    omega (arith, room.small m n, get_d-second s w room.within m h)

pub child-ranged : (n : ℕ) (s : Sides) (w : List ℕ) (i j k m : ℕ) → WorkRoom s w i j k → Ranged n s w k → s.start + m < s.end → get_or w (s.start + m) 0 < n
child-ranged n s w i j k m room r h =
    let l : m < length (second_children s w) = omega (arith, length-second s w room.within) in
    omega (arith, r.second m l, get_d-second s w room.within m h)

module _ (bs : List Element) (p : Plan) (j : ℕ) where
  abbrev twice : Element → Bool
  twice b = ltb 1 (uses p b)

  pub twice-more : j < length bs → uses p (get_or bs j 0) ≤ 1 → (r : Option Element) → first_of twice (drop j bs) ≡ r → first_of twice (drop (j + 1) bs) ≡ r
  twice-more h few r e = first_more twice bs j 0 h (le-ltb 1 (uses p (get_or bs j 0)) few) ∙ e

  pub twice-stop : j < length bs → 1 < uses p (get_or bs j 0) → (r : Option Element) → first_of twice (drop j bs) ≡ r
      → child_used_twice (get_or bs j 0) ≡ or_used_twice p r
  unfolding or_used_twice
  twice-stop h many r e =
      let f = first-stop twice bs j 0 h (lt-ltb 1 (uses p (get_or bs j 0)) many) in
      let k : some (get_or bs j 0) ≡ r = sym f ∙ e in
      rw (← k)

  pub twice-end : length bs ≤ j → (r : Option Element) → first_of twice (drop j bs) ≡ r → level_plan p ≡ or_used_twice p r
  unfolding or_used_twice
  twice-end h r e =
      let k : none ≡ r = sym (first-end twice bs j h) ∙ e in
      rw (← k)
