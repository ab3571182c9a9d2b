-- What is read of a model behind a change of it. Assumes nothing.
use mathlib.Core.List.{List, []}
use mathlib.Core.Logic.{◌⊎◌, inl, inr, ⊎_elim}
use mathlib.Core.Option.{Option, none, some, some-injective}
use mathlib.Core.Path.{◌≡◌, sym, subst}
use Prim.Native.Nat.{ℕ, suc, ◌<◌}
use lib.ListN.{length}
use lib.Seq.{get_or-set_same, get_or-set_other}
use Rattle.tables.specs.Lists.{insert_at}
use Rattle.tables.specs.Records.{Element, FileNumber, Item, child, Model, parent_of, set_of, list_of, put_parent, put_set, put_list, insert_item, content_items}
use Rattle.merge_rules.specs.Import.{adopt}
use Rattle.merge_rules.specs.Sound.{In}
use Rattle.merge_rules.proofs.Laws.Lists.{get_d_set, in_insert, sum-insert}

-- ---- an item put in

module _ (m : Model) (p : Element) (at : ℕ) (i : Item) where
  -- what holds of the list with the item and of each list before holds of each list
  pub insert-list : (P : List Item → Type 0) (q : Element) → (q ≡ p → P (insert_at (list_of m q) at i)) → P (list_of m q)
      → P (list_of (insert_item m p at i) q)
  unfolding insert_item put_list
  insert-list P q new old =
      get_d_set P m.lists p _ [] q (λ e. subst (λ (r : Element). P (insert_at (list_of m r) at i)) e (new e)) old

  -- an item of a list then is the new one or was there before
  pub insert-in : (q : Element) (a : Item) → In a (list_of (insert_item m p at i) q) → ((q ≡ p) × (a ≡ i)) ⊎ In a (list_of m q)
  insert-in q a =
      insert-list (λ (l : List Item). In a l → ((q ≡ p) × (a ≡ i)) ⊎ In a (list_of m q)) q
      (λ e h. ⊎_elim (λ k. inl (e, k)) inr (in_insert (list_of m q) at h)) inr

  -- one item more over all lists
  pub insert-items : p < length m.lists → content_items (insert_item m p at i) ≡ suc (content_items m)
  unfolding insert_item put_list content_items
  insert-items h = sum-insert m.lists p at i h

-- ---- an element imported

module _ (f : FileNumber) (p e : Element) (at : ℕ) (m : Model) where
  -- other lists stay
  pub adopt-list-other : (q : Element) → (q ≡ p → ⊥) → list_of (adopt f p e at m) q ≡ list_of m q
  unfolding adopt insert_item put_list put_parent put_set
  adopt-list-other q h = get_or-set_other m.lists p q _ [] h

  -- the parent is the one given
  pub adopt-parent : e < length m.parents → parent_of (adopt f p e at m) e ≡ some p
  unfolding adopt insert_item put_list put_parent put_set
  adopt-parent h = get_or-set_same m.parents e (some p) none h

  -- other parents stay
  pub adopt-parent-other : (q : Element) → (q ≡ e → ⊥) → parent_of (adopt f p e at m) q ≡ parent_of m q
  unfolding adopt insert_item put_list put_parent put_set
  adopt-parent-other q h = get_or-set_other m.parents e q (some p) none h

  -- other sets stay
  pub adopt-set-other : (q : Element) → (q ≡ e → ⊥) → set_of (adopt f p e at m) q ≡ set_of m q
  unfolding adopt insert_item put_list put_parent put_set
  adopt-set-other q h = get_or-set_other m.sets e q _ 0 h

  -- an item of a list then is the element imported or was there before
  pub adopt-in : (q : Element) (i : Item) → In i (list_of (adopt f p e at m) q) → ((q ≡ p) × (i ≡ child e)) ⊎ In i (list_of m q)
  unfolding adopt put_parent put_set
  adopt-in q i h = insert-in m p at (child e) q i h

  -- a parent then is the one given or was there before
  pub adopt-parent-cases : (c q : Element) → parent_of (adopt f p e at m) c ≡ some q → ((c ≡ e) × (q ≡ p)) ⊎ (parent_of m c ≡ some q)
  unfolding adopt insert_item put_list put_parent put_set
  adopt-parent-cases c q =
      get_d_set (λ (o : Option Element). o ≡ some q → ((c ≡ e) × (q ≡ p)) ⊎ (parent_of m c ≡ some q)) m.parents e (some p) none c
      (λ same h. inl (same, sym (some-injective p q h))) inr
