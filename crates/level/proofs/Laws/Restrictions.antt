-- The restrictions and imports of a plan on the lent tables. Assumes nothing.
use mathlib.Core.Bool.{Bool, true, false, false≢true}
use mathlib.Core.List.{List, ◌∷◌}
use mathlib.Core.Path.{◌≡◌, refl, sym, ◌∙◌}
use Prim.Native.Nat.{ℕ, ◌+◌, ◌-◌, ◌≤◌, ◌<◌}
use native.Mathlib.Omega.{arith}
use lib.Dec.{eqb}
use Rattle.std.specs.Prelude.{Result, Ok, Some, None, IfSome, IfNone, is_some}
use Rattle.std.specs.Prelude as program_option
use Rattle.tables.specs.declared.numbers.Element as program_element
use Rattle.tables.specs.FileSets.{no_set}
use Rattle.tables.specs.Limits.{item_limit}
use Rattle.tables.specs.ModelTable.{count_of, model_of}
use Rattle.tables.specs.Records.{Element, FileNumber, FileSet, Version, State, Fixed, set_of}
use Rattle.table_test.specs.Fits.{StateFits, KeepsState}
use Rattle.state_test.specs.StateTest.{state_in}
use Rattle.deck.specs.Schema.{version_of}
use Rattle.merge_rules.specs.Import.{import_new_items}
use Rattle.merge_rules.specs.Level.{restrict_elements}
use Rattle.merge_rules.specs.Log.{restrict}
use Rattle.merge_rules.specs.Pairing.{Plan}
use Rattle.merge_rules.specs.Refusals.{Outcome, done, ◌>>=◌}
use Rattle.pairing.specs.Plans.{spread, restriction_in, row_element, row_value}
use Rattle.pairing.proofs.Laws.Spreads.{spread-here, spread-done}
use Rattle.pairing.proofs.Laws.Rows.{restricted, not-restricted}
use Rattle.merge_log.specs.Answers.{outcome_is}
use Rattle.merge_log.specs.declared.refusals.Halt.{Halt}
use Rattle.imports.proofs.Laws.Imports.{then-done, then-stop}
use Rattle.level.specs.Level.{restrict_new, apply_plan}
use Rattle.pairs.proofs.Laws.Settle.{set-empty}

-- ---- one element

module _ (m l : List ℕ) (files : FileSet) (a : Element) (own : FileSet) (is : own ≡ set_of (model_of m) a) (b : Bool) (empty : b ≡ eqb own no_set) where
  pub restrict-new-none : b ≡ true → restrict a files (state_in m l) ≡ restrict_new files a (state_in m l)
  unfolding restrict_new
  restrict-new-none e = sym (rw (restrict_new, set-empty (model_of m) a is empty, e))

  pub restrict-new-some : b ≡ false → done (state_in m l) ≡ restrict_new files a (state_in m l)
  unfolding restrict_new
  restrict-new-some e = sym (rw (restrict_new, set-empty (model_of m) a is empty, e))

-- ---- the A-only elements of a plan

by-set : (b : Bool) (o : Outcome) (s : State) (k : State → Outcome) → elim b [ true ↦ o >>= k | false ↦ k s ] ≡ (elim b [ true ↦ o | false ↦ done s ] >>= k)
unfolding ◌>>=◌
by-set true o s k = refl
by-set false o s k = refl

restrict-cons : (files : FileSet) (a : Element) (l : List Element) (s : State)
    → restrict_elements files (a ∷ l) s ≡ (restrict_new files a s >>= restrict_elements files l)
unfolding restrict_elements restrict_new
restrict-cons files a l s = by-set (eqb (set_of s.model a) no_set) (restrict a files s) s (restrict_elements files l)

module _ (w : List ℕ) (na : ℕ) (files : FileSet) (m₀ l₀ : List ℕ) where
  -- the rows behind the first i do to the tables what is left of the whole
  pub record RestrictsLeft (m l : List ℕ) (i : ℕ) : Type 0 where
    pub within : i ≤ na
    pub fits : StateFits (count_of (model_of m₀)) item_limit m l
    pub keeps : KeepsState m₀ l₀ m l
    pub left : restrict_elements files (spread (restriction_in w) i (na - i)) (state_in m l)
        ≡ restrict_elements files (spread (restriction_in w) 0 na) (state_in m₀ l₀)

module _ {w : List ℕ} {na : ℕ} {files : FileSet} {m₀ l₀ m l : List ℕ} {i : ℕ} (k : RestrictsLeft w na files m₀ l₀ m l i) where
  pub restricts-end : na ≤ i → done (state_in m l) ≡ restrict_elements files (spread (restriction_in w) 0 na) (state_in m₀ l₀)
  unfolding restrict_elements
  restricts-end h = sym (rw (spread-done (restriction_in w) i na h)) ∙ k.left

  module _ (h : i < na) where
    -- a paired one
    pub restricts-skip : (row_value w i ≡ 0 → ⊥) → RestrictsLeft w na files m₀ l₀ m l (i + 1)
    restricts-skip n =
        record {
          within = omega arith;
          fits = k.fits;
          keeps = k.keeps;
          left = sym (rw (spread-here (restriction_in w) i na h, not-restricted (row_element w i) (row_value w i) n)) ∙ k.left;
        }

    -- an A-only one, with the answer of its restriction and the tables that it left
    module _ (none : row_value w i ≡ 0) (m' l' : List ℕ) (o : Result (Unit {0}) Halt)
        (is : outcome_is o (state_in m' l') ≡ restrict_new files (row_element w i) (state_in m l)) where
      here : restrict_elements files (spread (restriction_in w) i (na - i)) (state_in m l)
          ≡ (restrict_new files (row_element w i) (state_in m l) >>= restrict_elements files (spread (restriction_in w) (i + 1) (na - (i + 1))))
      here =
          rw (spread-here (restriction_in w) i na h, restricted (row_element w i) (row_value w i) none)
          (restrict-cons files (row_element w i) (spread (restriction_in w) (i + 1) (na - (i + 1))) (state_in m l))

      pub restricts-stop : (o ≡ Ok tt → ⊥)
          → outcome_is o (state_in m' l') ≡ restrict_elements files (spread (restriction_in w) 0 na) (state_in m₀ l₀)
      restricts-stop t = then-stop (state_in m' l') _ o is t ∙ sym here ∙ k.left

      pub restricts-more : o ≡ Ok tt → KeepsState m l m' l' → RestrictsLeft w na files m₀ l₀ m' l' (i + 1)
      restricts-more d kept =
          record {
            within = omega arith;
            fits = kept _ _ k.fits;
            keeps = λ n texts q. kept n texts (k.keeps n texts q);
            left = sym (then-done (state_in m' l') _ o is d) ∙ sym here ∙ k.left;
          }

-- ---- and then the imports

module _ (x : Fixed) (f : FileNumber) (files : FileSet) (a : Element) (plan : Plan) (s t : State) (o : Result (Unit {0}) Halt)
    (is : outcome_is o t ≡ restrict_elements files plan.restrictions s) where
  pub apply-stop : (o ≡ Ok tt → ⊥) → outcome_is o t ≡ apply_plan x f files a plan s
  unfolding apply_plan
  apply-stop h = then-stop t _ o is h

  pub apply-imports : o ≡ Ok tt → (v : Version) → v ≡ version_of x.schema f → import_new_items x f v a 0 plan.imports t ≡ apply_plan x f files a plan s
  unfolding apply_plan
  apply-imports d v e = rw e (sym (then-done t _ o is d))

-- ---- a row's mate

module _ (r : program_option.Option program_element.Element) {n : ℕ} where
  pub mate-some : IfSome r (λ b. n ≡ b.0 + 1) → is_some r ≡ true → n ≡ 0 → ⊥
  mate-some h e z = go r h e
    where
      go : (q : program_option.Option program_element.Element) → IfSome q (λ b. n ≡ b.0 + 1) → is_some q ≡ true → ⊥
      go (Some b) g _ = omega (arith, g, z)
      go None _ s = false≢true s

  pub mate-none : IfNone r (n ≡ 0) → is_some r ≡ false → n ≡ 0
  mate-none h e = go r h e
    where
      go : (q : program_option.Option program_element.Element) → IfNone q (n ≡ 0) → is_some q ≡ false → n ≡ 0
      go (Some b) _ s = absurd (false≢true (sym s))
      go None g _ = g
