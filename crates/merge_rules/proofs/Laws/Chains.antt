-- What chains of parents are like. Assumes nothing.
use mathlib.Core.Logic.{◌⊎◌, inl, inr, ⊎_elim}
use mathlib.Core.Option.{none, some, mem_unique, none-ne-some}
use mathlib.Core.Path.{◌≡◌, sym, ap, subst, ◌∙◌}
use Prim.Native.Nat.{suc, ◌≤◌}
use native.Mathlib.Omega.{arith}
use Rattle.tables.specs.Records.{Element, Tree, Model, State, Fixed, root, parent_of, depth_of}
use Rattle.merge_rules.specs.Sound.{In}
use Rattle.merge_rules.proofs.Laws.Invariant.{Under, here, below, Inv}

-- every parent is one less deep than its child
abbrev pub Deep : Fixed → Model → Type 0
Deep x m = (e p : Element) → parent_of m e ≡ some p → depth_of x e ≡ suc (depth_of x p)

module _ {m : Model} where
  -- under an element is under its equal
  pub under-cast : {r p q : Element} → p ≡ q → Under m r p → Under m r q
  under-cast {r} e h = subst (λ (y : Element). Under m r y) e h

  -- chains join
  pub under-trans : {a b p : Element} → Under m a b → Under m b p → Under m a p
  under-trans h (here e) = under-cast (sym e) h
  under-trans h (below e k) = below e (under-trans h k)

  -- of two elements above one, one is above the other
  comparable : {a b p : Element} → Under m a p → Under m b p → Under m a b ⊎ Under m b a
  comparable (here e) k = inr (under-cast e k)
  comparable (below e h) (here e') = inl (under-cast e' (below e h))
  comparable (below e h) (below e' k) = comparable h (under-cast (mem_unique e' e) k)

  under_top : {a b : Element} → Under m a b → parent_of m b ≡ none → a ≡ b
  under_top (here e) n = sym e
  under_top (below e h) n = absurd (none-ne-some _ (sym n ∙ e))

  -- no element is under two without a parent
  pub one-top : {a b p : Element} → Under m a p → Under m b p → parent_of m a ≡ none → parent_of m b ≡ none → a ≡ b
  one-top h k n o = ⊎_elim (λ u. under_top u o) (λ u. sym (under_top u n)) (comparable h k)

module _ (x : Fixed) {m : Model} (deep : Deep x m) where
  depth_le : {r p : Element} → Under m r p → depth_of x r ≤ depth_of x p
  depth_le (here e) = omega (arith, ap (depth_of x) e)
  depth_le (below {p} {q} e h) = omega (arith, depth_le h, deep p q e)

  -- no parent is under its child
  pub not-above : {e p : Element} → parent_of m e ≡ some p → Under m e p → ⊥
  not-above {e} {p} h u = omega (arith, deep e p h, depth_le u)

  same-depth : {a b : Element} → depth_of x a ≡ depth_of x b → Under m a b → a ≡ b
  same-depth h (here e) = sym e
  same-depth h (below {p} {q} e u) = absurd (omega (arith, depth_le u, deep p q e))

  -- two children of one parent have nothing under both
  pub siblings : {a b p q : Element} → parent_of m a ≡ some p → parent_of m b ≡ some p → Under m a q → Under m b q → a ≡ b
  siblings {a} {b} {p} h k u v =
      let e : depth_of x a ≡ depth_of x b = deep a p h ∙ sym (deep b p k) in
      ⊎_elim (λ w. same-depth e w) (λ w. sym (same-depth (sym e) w)) (comparable u v)

-- the model and a tree have nothing in common
pub tree-disjoint : {x : Fixed} {s : State} → Inv x s → (t : Tree) → In t x.elements.trees → {p : Element} → Under s.model root p
    → Under s.model t.root p → ⊥
tree-disjoint inv t i h k = (inv.sound.static.trees.valid t i).not_root (sym (one-top h k inv.root_top (inv.tree_top t i)))

-- a chain of parents that two models have in common
pub data Common (m m' : Model) (r : Element) : Element → Type 0 where
  at : {p : Element} → p ≡ r → Common m m' r p
  up : {p q : Element} → parent_of m p ≡ some q → parent_of m' p ≡ some q → Common m m' r q → Common m m' r p

module _ {m m' : Model} {r : Element} where
  -- it is a chain of the first
  pub common-left : {p : Element} → Common m m' r p → Under m r p
  common-left (at e) = here e
  common-left (up e e' h) = below e (common-left h)

  -- and of the second
  pub common-right : {p : Element} → Common m m' r p → Under m' r p
  common-right (at e) = here e
  common-right (up e e' h) = below e' (common-right h)

  -- common chains join
  pub common-trans : {b p : Element} → Common m m' r b → Common m m' b p → Common m m' r p
  common-trans h (at e) = subst (λ (y : Element). Common m m' r y) (sym e) h
  common-trans h (up e e' k) = up e e' (common-trans h k)
