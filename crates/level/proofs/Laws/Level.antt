-- Level and Pairs on the lent tables. Assumes nothing.
use mathlib.Core.List.{List, [], ◌∷◌}
use mathlib.Core.Option.{Option, none, some}
use mathlib.Core.Path.{◌≡◌, refl, sym, ap, ◌∙◌}
use Prim.Native.Nat.{ℕ, suc, ◌+◌, ◌-◌, ◌*◌, ◌≤◌, ◌<◌}
use native.Mathlib.Omega.{arith}
use lib.ListN.{length, get_or, take}
use lib.Seq.{get_or-take}
use Rattle.std.specs.Prelude.{Result, Ok, Err}
use Rattle.tables.specs.Limits.{item_limit, version_limit}
use Rattle.tables.specs.ElementsTable.{elements_of}
use Rattle.tables.specs.ModelTable.{item_is, count_of, model_of, GoodModel}
use Rattle.tables.specs.Records.{Element, FileNumber, FileSet, Version, Item, child, text, Model, State, Fixed, list_of}
use Rattle.tables.specs.declared.model.Item as program
use Rattle.tables.specs.declared.model.Item.TheVariants.{Text as TextItem}
use Rattle.tables.specs.SchemaTable.{schema_of}
use Rattle.table_test.specs.Fits.{StateOver, KeepsState}
use Rattle.table_test.specs.SchemaTest.{TestedSchema}
use Rattle.deck.specs.Schema.{version_of, least_version}
use Rattle.state_test.specs.StateTest.{fixed_in, state_in}
use Rattle.state_test.proofs.Laws.States.{version_low, least-low}
use Rattle.merge_rules.specs.Import.{import_new_items}
use Rattle.merge_rules.specs.Level.{files_of_pair, extend_pair, restrict_elements, settle, merge_sub_elements, merge_plan, level_version, merge_element}
use Rattle.merge_rules.specs.Pairing.{children, children_of, Pair, Plan, Walked, planned, unmergeable_in, walk_level, first_used_twice}
use Rattle.merge_rules.specs.Refusals.{Outcome, done, refused, unmergeable, used_twice, ◌>>=◌}
use Rattle.pairing.specs.Plans.{spread, pair_in, row_element, row_value, plan_in, RowsIn, LevelPlan, level_plan, child_used_twice, level_unmergeable, or_used_twice, checked_plan, plan_level, Planned, planned_is, PlanIn}
use Rattle.pairing.specs.declared.plan.Rows.{Rows}
use Rattle.pairing.specs.declared.plan.Unplanned.TheVariants.{UsedTwice, Unmergeable}
use Rattle.pairing.proofs.Laws.Spreads.{spread-here, spread-done}
use Rattle.pairing.proofs.Laws.Rows.{mated, not-mated}
use Rattle.pairing.proofs.Laws.Laying.{level-first, list-few}
use Rattle.pairing.proofs.Laws.Walks.{no_plan}
use Rattle.merge_log.specs.Answers.{outcome_is}
use Rattle.merge_log.specs.declared.refusals.Halt.{Halt}
use Rattle.imports.proofs.Laws.Imports.{then-done, then-stop}
use Rattle.level.specs.Level.{apply_plan, merge_level, merge_pair, Bare}
use Rattle.pairs.proofs.Laws.Settle.{settle-done}

-- ---- versions

module _ (schema : List ℕ) (f : FileNumber) (version : Version) (is : version ≡ version_of (schema_of schema) f) where
  pub new-low : TestedSchema schema → version < version_limit
  new-low t = rw is (version_low f schema t)

  module _ (deck elements : List ℕ) where
    pub level-version-is : (files : FileSet) → least_version (schema_of schema) files version ≡ level_version (fixed_in deck schema elements) f files
    unfolding level_version
    level-version-is files = rw is

    -- the version w of a pair's level, found by the level's version v
    pub pair-version-is : (files : FileSet) (v : Version) → v ≡ level_version (fixed_in deck schema elements) f files
        → (m : Model) (a : Element) (w : Version)
        → ((k : FileSet) → v ≡ least_version (schema_of schema) k version → w ≡ least_version (schema_of schema) (files_of_pair k m a) version)
        → (own : FileSet) → own ≡ files_of_pair files m a → w ≡ level_version (fixed_in deck schema elements) f own
    pair-version-is files v of-level m a w least own e = least files (of-level ∙ sym (level-version-is files)) ∙ level-version-is (files_of_pair files m a) ∙ rw e

pub level-version-low : (deck schema elements : List ℕ) (f : FileNumber) (files : FileSet) (v : Version) → v ≡ level_version (fixed_in deck schema elements) f files
    → TestedSchema schema → v < version_limit
unfolding level_version
level-version-low deck schema elements f files v e t =
    omega (arith, version_low f schema t, least-low (schema_of schema) files (version_of (schema_of schema) f))

-- ---- a level by its plan

module _ (lower : FileSet → Element → Element → State → Outcome) (x : Fixed) (f : FileNumber) (v : Version) (files : FileSet) (a b : Element) (s : State) where
  by-twice : (p : Plan) (o : Option Element)
      → elim o [ some c ↦ refused (used_twice c) | none ↦ apply_plan x f files a p s >>= merge_sub_elements lower x f v a files p.pairs ]
      ≡ merge_level lower x f v files a (or_used_twice p o) s
  unfolding or_used_twice merge_level
  by-twice p none = refl
  by-twice p (some c) = refl

  by-walk : (w : Walked)
      → elim w [ planned plan ↦ merge_plan lower x f v files a b plan s | unmergeable_in ↦ refused (unmergeable a) ]
      ≡ merge_level lower x f v files a (checked_plan (children_of s.model b) w) s
  unfolding merge_plan merge_level checked_plan apply_plan
  by-walk (planned p) = by-twice p (first_used_twice p (children_of s.model b))
  by-walk unmergeable_in = refl

module _ (d : ℕ) (x : Fixed) (f : FileNumber) (files : FileSet) (a b : Element) (s : State) where
  pub level-none : d ≡ 0 → refused (unmergeable a) ≡ merge_element d x f files a b s
  unfolding merge_element
  level-none e = rw e

  module _ (deep : d ≡ 0 → ⊥) where
    level-is : merge_element d x f files a b s
        ≡ merge_level (merge_element (d - 1) x f) x f (level_version x f files) files a (plan_level x s.model (level_version x f files) a b) s
    unfolding merge_element plan_level
    level-is =
        let z : d ≡ suc (d - 1) = omega arith in
        let v = level_version x f files in
        ap (λ (n : ℕ). merge_element n x f files a b s) z ∙ by-walk (merge_element (d - 1) x f) x f v files a b s (walk_level x s.model v a b)

    module _ (v : Version) (of-level : v ≡ level_version x f files) (q : Planned) (w : List ℕ) (plan : planned_is q w ≡ plan_level x s.model v a b) where
      by-plan : (p : LevelPlan) → planned_is q w ≡ p → merge_element d x f files a b s ≡ merge_level (merge_element (d - 1) x f) x f v files a p s
      by-plan p e = level-is ∙ rw (← of-level, ← plan, e)

      pub level-twice : (c : _) → q ≡ Err (UsedTwice c) → refused (used_twice c.0) ≡ merge_element d x f files a b s
      unfolding merge_level
      level-twice c e = sym (by-plan (child_used_twice c.0) (rw e))

      pub level-stuck : q ≡ Err Unmergeable → refused (unmergeable a) ≡ merge_element d x f files a b s
      unfolding merge_level
      level-stuck e = sym (by-plan level_unmergeable (rw e))

      -- the restrictions and imports, with their answer and the state that they left
      module _ (r : Rows) (rows : q ≡ Ok r) (t : State) (o : Result (Unit {0}) Halt) (applied : outcome_is o t ≡ apply_plan x f files a (plan_in r.first r.new w) s) where
        pub level-stop : (o ≡ Ok tt → ⊥) → outcome_is o t ≡ merge_element d x f files a b s
        unfolding merge_level
        level-stop h = then-stop t _ o applied h ∙ sym (by-plan (level_plan (plan_in r.first r.new w)) (rw rows))

        pub level-pairs : o ≡ Ok tt → merge_sub_elements (merge_element (d - 1) x f) x f v a files (plan_in r.first 0 w).pairs t ≡ merge_element d x f files a b s
        unfolding merge_level
        level-pairs h = sym (then-done t _ o applied h) ∙ sym (by-plan (level_plan (plan_in r.first r.new w)) (rw rows))

-- the most cells that a level's plan takes
pub room_most : (m : List ℕ) → GoodModel m → (a b : Element) → a < count_of (model_of m) → b < count_of (model_of m)
    → 2 * length (list_of (model_of m) a) + 5 * length (list_of (model_of m) b) ≤ 7 * item_limit
room_most m g a b ha hb = omega (arith, list-few m g a ha, list-few m g b hb)

-- ---- levels that change nothing

module _ (l : List Item) {n : ℕ} (en : n ≡ length l) where
  empty-children : (k : List Item) → length k ≡ 0 → children k ≡ []
  unfolding children
  empty-children [] h = refl
  empty-children (i ∷ k) h = absurd (omega arith)

  text-children : (k : List Item) (t : ℕ) → length k ≡ 1 → text t ≡ get_or k 0 (child 0) → children k ≡ []
  unfolding children
  text-children [] t h e = absurd (omega arith)
  text-children (child c ∷ k) t h e = let z : ◌≡◌ {A = ℕ} 0 1 = cc in absurd (omega arith)
  text-children (text u ∷ []) t h e = refl
  text-children (text u ∷ i ∷ k) t h e = absurd (omega arith)

  pub leaf-none : n ≡ 0 → children l ≡ []
  leaf-none e = empty-children l (sym en ∙ e)

  pub leaf-text : n ≡ 1 → {a : program.Item} → item_is a ≡ get_or l 0 (child 0) → {t : ℕ} → a ≡ TextItem t → children l ≡ []
  leaf-text e ea {t} k = text-children l t (sym en ∙ e) (sym (ap item_is k) ∙ ea)

level-bare : (d : ℕ) (x : Fixed) (f : FileNumber) (files : FileSet) (a b : Element) (s : State) → Bare d s.model a b
    → done s ≡ merge_element d x f files a b s
unfolding merge_level apply_plan restrict_elements import_new_items merge_sub_elements ◌>>=◌
level-bare d x f files a b s e =
    let v = level_version x f files in
    let p : plan_level x s.model v a b ≡ level_plan no_plan = level-first x s.model v a b e.second ∙ rw e.first in
    sym (level-is d x f files a b s (λ z. omega (arith, e.deep)) ∙ rw p)

-- the rows of A alone
pub rows-first : (n : ℕ) (w : List ℕ) (na ni : ℕ) → RowsIn n w na ni → RowsIn n w na 0
rows-first n w na ni r =
    record {
      room = omega (arith, r.room);
      few = omega (arith, r.few);
      element = λ i h. r.element i (omega arith);
      mate = r.mate;
      place = λ i h. r.place i (omega arith);
    }

pub plan-rows : (n : ℕ) (q : Planned) (w : List ℕ) (r : Rows) → PlanIn n q w → q ≡ Ok r → RowsIn n w r.first r.new
plan-rows n q w r h e = rw e at h

-- ---- one pair

-- its level's answer, with the state that it left
module _ (lower : FileSet → Element → Element → State → Outcome) (x : Fixed) (f : FileNumber) (v : Version) (p : Element) (files : FileSet) (q : Pair) (s : State)
    (own : FileSet) (mark : ℕ) (files-own : own ≡ files_of_pair files s.model q.a) (marked : mark ≡ length s.log)
    (t : State) (o : Result (Unit {0}) Halt) (below : outcome_is o t ≡ lower own q.a q.b s) where
  pub pair-settled : settle x f v p q own mark (outcome_is o t) ≡ merge_pair lower x f v p files q s
  unfolding merge_pair
  pair-settled = rw (below, files-own, marked)

  pub pair-done : o ≡ Ok tt → extend_pair f q.a t ≡ merge_pair lower x f v p files q s
  pair-done d = settle-done x f v p q own mark t o d ∙ pair-settled

pub pair-bare : (d : ℕ) (x : Fixed) (f : FileNumber) (v : Version) (p : Element) (files : FileSet) (q : Pair) (s : State) → Bare d s.model q.a q.b
    → extend_pair f q.a s ≡ merge_pair (merge_element d x f) x f v p files q s
pair-bare d x f v p files q s e =
    let own = files_of_pair files s.model q.a in
    pair-done (merge_element d x f) x f v p files q s own (length s.log) refl refl s (Ok tt) (level-bare d x f own q.a q.b s e) refl

-- ---- Pairs

module _ (lower : FileSet → Element → Element → State → Outcome) (deck schema elements : List ℕ) (f : FileNumber) (v : Version) (p : Element) (files : FileSet)
    (na : ℕ) (w₀ m₀ l₀ : List ℕ) where
  -- the pairs of the rows behind the first i do to the tables what is left of the whole; A's rows stay
  pub record PairsLeft (w m l : List ℕ) (i : ℕ) : Type 0 where
    pub within : i ≤ na
    pub front : take (2 * na) w ≡ take (2 * na) w₀
    pub size : length w ≡ length w₀
    pub model_size : length m ≡ length m₀
    pub log_size : length l ≡ length l₀
    pub fits : StateOver elements m l
    pub keeps : KeepsState m₀ l₀ m l
    pub left : merge_sub_elements lower (fixed_in deck schema elements) f v p files (spread (pair_in w₀) i (na - i)) (state_in m l)
        ≡ merge_sub_elements lower (fixed_in deck schema elements) f v p files (plan_in na 0 w₀).pairs (state_in m₀ l₀)

module _ {lower : FileSet → Element → Element → State → Outcome} {deck schema elements : List ℕ} {f : FileNumber} {v : Version} {p : Element} {files : FileSet}
    {na : ℕ} {w₀ m₀ l₀ w m l : List ℕ} {i : ℕ} (k : PairsLeft lower deck schema elements f v p files na w₀ m₀ l₀ w m l i) where
  pub pairs_end : na ≤ i → done (state_in m l) ≡ merge_sub_elements lower (fixed_in deck schema elements) f v p files (plan_in na 0 w₀).pairs (state_in m₀ l₀)
  unfolding merge_sub_elements
  pairs_end h = sym (rw (spread-done (pair_in w₀) i na h)) ∙ k.left

  module _ (h : i < na) where
    front_at : (c : ℕ) → c < 2 * na → get_or w c 0 ≡ get_or w₀ c 0
    front_at c q = sym (get_or-take (2 * na) w c 0 q) ∙ ap (λ (xs : List ℕ). get_or xs c 0) k.front ∙ get_or-take (2 * na) w₀ c 0 q

    row-element : row_element w i ≡ row_element w₀ i
    row-element = front_at (2 * i) (omega arith)

    row-value : row_value w i ≡ row_value w₀ i
    row-value = front_at (2 * i + 1) (omega arith)

    module _ (rows : RowsIn (length (elements_of elements).names) w₀ na 0) where
      pub first-in : row_element w i < length (elements_of elements).names
      first-in = rw row-element (rows.element i (omega arith))

      pub mate-in : {b : Element} → row_value w i ≡ b + 1 → b < length (elements_of elements).names
      mate-in e = omega (arith, row-value, rows.mate i h)

    -- an A-only one
    pub pairs-skip : row_value w i ≡ 0 → PairsLeft lower deck schema elements f v p files na w₀ m₀ l₀ w m l (i + 1)
    pairs-skip e =
        record {
          within = omega arith;
          front = k.front;
          size = k.size;
          model_size = k.model_size;
          log_size = k.log_size;
          fits = k.fits;
          keeps = k.keeps;
          left = sym (rw (spread-here (pair_in w₀) i na h, not-mated (row_element w₀ i) (row_value w₀ i) (sym row-value ∙ e))) ∙ k.left;
        }

    -- a pair, its answer, and the tables that it left
    module _ (b : Element) (mate : row_value w i ≡ b + 1) (m' l' : List ℕ) (o : Result (Unit {0}) Halt)
        (is : outcome_is o (state_in m' l') ≡ merge_pair lower (fixed_in deck schema elements) f v p files (record { a = row_element w i; b = b }) (state_in m l)) where
      here : (merge_pair lower (fixed_in deck schema elements) f v p files (record { a = row_element w i; b = b }) (state_in m l)
          >>= merge_sub_elements lower (fixed_in deck schema elements) f v p files (spread (pair_in w₀) (i + 1) (na - (i + 1))))
          ≡ merge_sub_elements lower (fixed_in deck schema elements) f v p files (plan_in na 0 w₀).pairs (state_in m₀ l₀)
      unfolding merge_sub_elements merge_pair
      here =
          let less : row_value w₀ i - 1 ≡ b = omega (arith, row-value, mate) in
          sym (rw (spread-here (pair_in w₀) i na h, mated (row_element w₀ i) (row_value w₀ i) (λ z. omega (arith, row-value, mate)), less, ← row-element)) ∙ k.left

      pub pairs-stop : (o ≡ Ok tt → ⊥)
          → outcome_is o (state_in m' l') ≡ merge_sub_elements lower (fixed_in deck schema elements) f v p files (plan_in na 0 w₀).pairs (state_in m₀ l₀)
      pairs-stop t = then-stop (state_in m' l') _ o is t ∙ here

      pub pairs-more : (w' : List ℕ) → take (2 * na) w' ≡ take (2 * na) w → length w' ≡ length w → length m' ≡ length m → length l' ≡ length l → o ≡ Ok tt
          → KeepsState m l m' l' → PairsLeft lower deck schema elements f v p files na w₀ m₀ l₀ w' m' l' (i + 1)
      pairs-more w' front size model_size log_size d keeps =
          record {
            within = omega arith;
            front = front ∙ k.front;
            size = size ∙ k.size;
            model_size = model_size ∙ k.model_size;
            log_size = log_size ∙ k.log_size;
            fits = keeps _ _ k.fits;
            keeps = λ n texts q. keeps n texts (k.keeps n texts q);
            left = sym (then-done (state_in m' l') _ o is d) ∙ here;
          }
