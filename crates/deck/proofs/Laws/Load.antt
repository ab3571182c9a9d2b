-- What the load of lines reads and changes: the owner that a depth asks for, a file that may wait, an item at the end of a list. Assumes nothing.
use mathlib.Core.Bool.{Bool, true, false, not, ◌&&◌, ◌||◌, and-eq-true_iff}
use mathlib.Core.List.{List, [], ◌∷◌, ◌++◌}
use mathlib.Core.Option.{Option, some, none-ne-some}
use mathlib.Core.Path.{◌≡◌, ap, ◌∙◌}
use Prim.Native.Nat.{ℕ, zero, suc, ◌+◌, ◌≤◌, ◌<◌}
use native.Mathlib.Omega.{arith}
use borrow.Author.Tests.{ltb-true, ne_eqb, not-true}
use lib.Dec.{eqb, ltb}
use lib.ListN.{length, get_or, get_elem?, set, get_or-append}
use lib.Seq.{set-append_left}
use Rattle.tables.specs.FileSets.{holds, loaded_files}
use Rattle.tables.specs.Limits.{item_limit}
use Rattle.tables.specs.Lists.{any_of, insert_at}
use Rattle.tables.specs.ModelTable.{count_of}
use Rattle.tables.specs.Records.{Element, FileNumber, FileSet, Tree, Item, Model, list_of, put_list, insert_item, add_to_model, content_items}
use Rattle.tables.proofs.Laws.Model.{count-insert, total-insert}
use Rattle.deck.specs.Load.{Loading, owner, may_wait, append}
use Rattle.deck.specs.Schema.{declares_file}

-- ---- the open elements

elem-lt : {A : Type 0} (l : List A) (i : ℕ) (a : A) → get_elem? l i ≡ some a → i < length l
elem-lt [] i a h = absurd (none-ne-some a h)
elem-lt (x ∷ l) zero a h = omega arith
elem-lt (x ∷ l) (suc i) a h = omega (arith, elem-lt l i a h)

-- an owner is no deeper than the open elements
pub owner-within : (l : Loading) (d p : ℕ) → owner l d ≡ some p → d ≤ length l.above
unfolding owner
owner-within l zero p h = omega arith
owner-within l (suc d) p h = elem-lt l.above d p h

-- ---- files

-- a file that may wait has no tree
pub wait-new : (l : Loading) (f : FileNumber) → may_wait l f ≡ true → any_of (λ (t : Tree). eqb t.file f) l.elements.trees ≡ false
unfolding may_wait
wait-new l f h =
    let waits : Bool = declares_file l.schema f && not (holds (loaded_files l.model) f) in
    let taken : Bool = any_of (λ (t : Tree). eqb t.file f) l.elements.trees in
    not-true taken ((and-eq-true_iff waits (not taken)).0 h).1

-- ---- an item at the end of a list

-- below a root there is room for it
pub room-left : (d n : ℕ) → (eqb d 0 || ltb n item_limit) ≡ true → (d ≡ 0 → ⊥) → n < item_limit
room-left d n h z = ltb-true n item_limit (rw (ne_eqb d 0 z) at h)

-- before the new element or after it: the same
pub append-added : (m : Model) (p : Element) (i : Item) (q : Option Element) (s : FileSet) → p < length m.lists
    → append (add_to_model m q s) p i ≡ add_to_model (append m p i) q s
unfolding add_to_model append insert_item put_list
append-added m p i q s h =
    λ k. record { parents = m.parents ++ (q ∷ []); sets = m.sets ++ (s ∷ []); lists = same k }
  where
    same : set (m.lists ++ ([] ∷ [])) p (insert_at (get_or (m.lists ++ ([] ∷ [])) p []) (length (get_or (m.lists ++ ([] ∷ [])) p [])) i)
        ≡ set m.lists p (insert_at (list_of m p) (length (list_of m p)) i) ++ ([] ∷ [])
    same =
        ap (λ (k : List Item). set (m.lists ++ ([] ∷ [])) p (insert_at k (length k) i)) (get_or-append m.lists ([] ∷ []) [] p h)
        ∙ set-append_left m.lists ([] ∷ []) p (insert_at (list_of m p) (length (list_of m p)) i) h

module _ (m : Model) (p : Element) (i : Item) where
  pub count-append : count_of (append m p i) ≡ count_of m
  unfolding append
  count-append = count-insert m p (length (list_of m p)) i

  pub total-append : p < length m.lists → content_items (append m p i) ≡ content_items m + 1
  unfolding append
  total-append h = omega (arith, total-insert m p (length (list_of m p)) i h (omega arith))
