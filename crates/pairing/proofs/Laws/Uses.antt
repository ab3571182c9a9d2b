-- Uses of an element in a plan, and the array that tells of them. Assumes nothing.
use mathlib.Core.Bool.{Bool, true, false, true≢false, false≢true}
use mathlib.Core.List.{List, [], ◌∷◌, ◌++◌}
use mathlib.Core.Logic.{⊎_elim}
use mathlib.Core.Path.{◌≡◌, refl, sym, ap, ◌∙◌}
use Prim.Native.Nat.{ℕ, zero, suc, ◌+◌, ◌≤◌, ◌<◌}
use native.Mathlib.Numerals.{add-one}
use native.Mathlib.Omega.{arith}
use borrow.Author.Tests.{eq-eqb, ne_eqb}
use lib.Dec.{eqb}
use lib.ListN.{length, get_or, set, length-set}
use lib.Seq.{get_or-set_same, get_or-set_other}
use Rattle.tables.specs.Limits.{element_limit}
use Rattle.tables.specs.Lists.{keep}
use Rattle.tables.specs.Records.{Element}
use Rattle.merge_rules.specs.Pairing.{Pair, NewItem, Plan, uses}
use Rattle.merge_rules.proofs.Laws.Cases.{same-or-other}
use Rattle.pairing.specs.declared.plan.Use.{Use}
use Rattle.pairing.specs.declared.plan.Use.TheVariants.{Unused}
use Rattle.pairing.specs.Walks.{pair_uses, import_uses, use_of, imported_again, paired_again, is_paired, is_repeated, Counted}
use Rattle.pairing.proofs.Laws.Walks.{plus_restriction, plus_import, plus_pair}
use Rattle.tables.proofs.Laws.Cases.{bool-split}

-- ---- entries that pass a test

module _ {A : Type 0} (t : A → Bool) where
  keep-true : (l : List A) (x : A) → t x ≡ true → length (keep t (l ++ (x ∷ []))) ≡ length (keep t l) + 1
  unfolding keep
  keep-true [] x e = rw (keep, e)
  keep-true (y ∷ l) x e =
      bool-split (t y) (λ h. rw (keep, h) (omega (arith, keep-true l x e))) (λ h. rw (keep, h) (keep-true l x e))

  keep-false : (l : List A) (x : A) → t x ≡ false → length (keep t (l ++ (x ∷ []))) ≡ length (keep t l)
  unfolding keep
  keep-false [] x e = rw (keep, e)
  keep-false (y ∷ l) x e =
      bool-split (t y) (λ h. rw (keep, h) (ap suc (keep-false l x e))) (λ h. rw (keep, h) (keep-false l x e))

  pub keep-few : (l : List A) → length (keep t l) ≤ length l
  unfolding keep
  keep-few [] = omega arith
  keep-few (y ∷ l) = bool-split (t y) (λ h. rw (keep, h) (omega (arith, keep-few l))) (λ h. rw (keep, h) (omega (arith, keep-few l)))

-- ---- entries by one of their elements

module _ {A : Type 0} (f : A → Element) where
  abbrev uses_by : List A → Element → ℕ
  uses_by l e = length (keep (λ (a : A). eqb (f a) e) l)

  uses-here : (l : List A) (x : A) (e : Element) → f x ≡ e → uses_by (l ++ (x ∷ [])) e ≡ uses_by l e + 1
  uses-here l x e h = keep-true (λ (a : A). eqb (f a) e) l x (eq-eqb (f x) e h)

  uses-other : (l : List A) (x : A) (e : Element) → (f x ≡ e → ⊥) → uses_by (l ++ (x ∷ [])) e ≡ uses_by l e
  uses-other l x e h = keep-false (λ (a : A). eqb (f a) e) l x (ne_eqb (f x) e h)

-- ---- uses in a plan

pub pair-here : (p : Plan) (a b e : Element) → b ≡ e → pair_uses (plus_pair p a b) e ≡ pair_uses p e + 1
unfolding pair_uses
pair-here p a b e h = uses-here (λ (q : Pair). q.b) p.pairs (record { a = a; b = b }) e h

pub pair-other : (p : Plan) (a b e : Element) → (b ≡ e → ⊥) → pair_uses (plus_pair p a b) e ≡ pair_uses p e
unfolding pair_uses
pair-other p a b e h = uses-other (λ (q : Pair). q.b) p.pairs (record { a = a; b = b }) e h

import-here : (p : Plan) (b at e : Element) → b ≡ e → import_uses (plus_import p b at) e ≡ import_uses p e + 1
unfolding import_uses
import-here p b at e h = uses-here (λ (i : NewItem). i.element) p.imports (record { element = b; position = at }) e h

import-other : (p : Plan) (b at e : Element) → (b ≡ e → ⊥) → import_uses (plus_import p b at) e ≡ import_uses p e
unfolding import_uses
import-other p b at e h = uses-other (λ (i : NewItem). i.element) p.imports (record { element = b; position = at }) e h

-- ---- the use that tells of them

paired-again : (p i : ℕ) → paired_again (use_of p i) ≡ use_of (p + 1) i
unfolding use_of
paired-again zero zero = refl
paired-again zero (suc zero) = refl
paired-again zero (suc (suc i)) = refl
paired-again (suc zero) zero = refl
paired-again (suc zero) (suc i) = refl
paired-again (suc (suc p)) i = rw (add-one (suc (suc p)))

imported-again : (i : ℕ) → imported_again (use_of 0 i) ≡ use_of 0 (i + 1)
unfolding use_of
imported-again zero = refl
imported-again (suc zero) = refl
imported-again (suc (suc i)) = rw (add-one (suc (suc i)))

use-paired : (p i : ℕ) → is_paired (use_of p i) ≡ true → p ≡ 0 → ⊥
unfolding use_of
use-paired zero zero h e = false≢true h
use-paired zero (suc zero) h e = false≢true h
use-paired zero (suc (suc i)) h e = false≢true h
use-paired (suc p) i h e = omega arith

use-unpaired : (p i : ℕ) → is_paired (use_of p i) ≡ false → p ≡ 0
unfolding use_of
use-unpaired zero i h = refl
use-unpaired (suc zero) zero h = absurd (true≢false h)
use-unpaired (suc zero) (suc i) h = absurd (true≢false h)
use-unpaired (suc (suc p)) i h = absurd (true≢false h)

use-twice : (p i : ℕ) → is_repeated (use_of p i) ≡ true → 1 < p + i
unfolding use_of
use-twice zero zero h = absurd (false≢true h)
use-twice zero (suc zero) h = absurd (false≢true h)
use-twice zero (suc (suc i)) h = omega arith
use-twice (suc zero) zero h = absurd (false≢true h)
use-twice (suc zero) (suc i) h = omega arith
use-twice (suc (suc p)) i h = omega arith

use-once : (p i : ℕ) → is_repeated (use_of p i) ≡ false → p + i ≤ 1
unfolding use_of
use-once zero zero h = omega arith
use-once zero (suc zero) h = omega arith
use-once zero (suc (suc i)) h = absurd (true≢false h)
use-once (suc zero) zero h = omega arith
use-once (suc zero) (suc i) h = absurd (true≢false h)
use-once (suc (suc p)) i h = absurd (true≢false h)

-- ---- the array

-- one cell changed
told : (f g : Element → Use) (used : List Use) (b : ℕ) (v : Use) → b < length used → v ≡ g b → ((e : Element) → (b ≡ e → ⊥) → g e ≡ f e)
    → (e : ℕ) → get_or used e Unused ≡ f e → get_or (set used b v) e Unused ≡ g e
told f g used b v h here other e is =
    ⊎_elim (λ (q : b ≡ e). rw (← q) (get_or-set_same used b v Unused h ∙ here))
    (λ (q : b ≡ e → ⊥). get_or-set_other used b e v Unused (λ (r : e ≡ b). q (sym r)) ∙ is ∙ sym (other e q)) (same-or-other b e)

abbrev use_in : Plan → Element → Use
use_in p e = use_of (pair_uses p e) (import_uses p e)

module _ (p : Plan) (used : List Use) (c : Counted p used) where
  pub counted-restriction : (a : Element) → Counted (plus_restriction p a) used
  unfolding pair_uses import_uses
  counted-restriction a = record { size = c.size; is = c.is }

  pub counted-pair : (a b : Element) → b < element_limit → Counted (plus_pair p a b) (set used b (paired_again (get_or used b Unused)))
  unfolding import_uses
  counted-pair a b h =
      record {
        size = simp length-set c.size;
        is = λ e k.
            told (use_in p) (use_in (plus_pair p a b)) used b _ (omega (arith, c.size)) (rw (c.is b h, pair-here p a b b refl) (paired-again _ _))
            (λ x q. rw (pair-other p a b x q)) e (c.is e k);
      }

  pub counted-import : (b : Element) (at : ℕ) → b < element_limit → pair_uses p b ≡ 0 → Counted (plus_import p b at) (set used b (imported_again (get_or used b Unused)))
  unfolding pair_uses
  counted-import b at h none =
      record {
        size = simp length-set c.size;
        is = λ e k.
            told (use_in p) (use_in (plus_import p b at)) used b _ (omega (arith, c.size)) (rw (c.is b h, import-here p b at b refl, none) (imported-again _))
            (λ x q. rw (import-other p b at x q)) e (c.is e k);
      }

  -- ---- what a cell tells

  module _ (e : Element) (h : e < element_limit) where
    pub counted-paired : is_paired (get_or used e Unused) ≡ true → pair_uses p e ≡ 0 → ⊥
    counted-paired k = use-paired (pair_uses p e) (import_uses p e) (rw (c.is e h) at k)

    pub counted-unpaired : is_paired (get_or used e Unused) ≡ false → pair_uses p e ≡ 0
    counted-unpaired k = use-unpaired (pair_uses p e) (import_uses p e) (rw (c.is e h) at k)

    pub counted-twice : is_repeated (get_or used e Unused) ≡ true → 1 < uses p e
    unfolding uses pair_uses import_uses
    counted-twice k = use-twice (pair_uses p e) (import_uses p e) (rw (c.is e h) at k)

    pub counted-once : is_repeated (get_or used e Unused) ≡ false → uses p e ≤ 1
    unfolding uses pair_uses import_uses
    counted-once k = use-once (pair_uses p e) (import_uses p e) (rw (c.is e h) at k)
