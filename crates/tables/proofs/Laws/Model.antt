-- Laws of the model's changes, for callers: what each change leaves alone, what a read finds after it, and changes undone. Assumes nothing.
use mathlib.Core.List.{List, [], ◌∷◌, ◌++◌, map, append-nil}
use mathlib.Core.Logic.{◌≢◌}
use mathlib.Core.Option.{Option, none}
use mathlib.Core.Path.{◌≡◌, refl, sym, ap, ◌∙◌}
use Prim.Native.Nat.{ℕ, suc, ◌+◌, ◌-◌, ◌≤◌, ◌<◌}
use native.Mathlib.Numerals.{add-one}
use native.Mathlib.Omega.{arith}
use lib.ListN.{length, set, get_or, length-append, length-map, length-set, get_or-append, get_or-map}
use lib.Seq.{get_or-set_same, get_or-set_other, set-set, set-get_or, get_or_at, map-set_same}
use Rattle.tables.specs.Lists.{insert_at, remove_at, insert_run, remove_run, sum}
use Rattle.tables.specs.Records.{Item, Model, content_items, parent_of, set_of, list_of, put_parent, put_set, put_list, insert_item, insert_items, put_item, remove_item, remove_items, add_to_model}
use Rattle.tables.specs.ModelTable.{flat, start_of, count_of}
use Rattle.tables.proofs.Laws.Lists.{insert_run-one, length-insert_run, length-remove_run, remove_run-insert_run, insert_at-remove_at, remove_run-set, map-set, sum_more, length-flat, flat_append, flat-remove, start_fits}

-- ---- a parent stored

module _ (m : Model) (e : ℕ) (p : Option ℕ) where
  pub sets-put_parent : (put_parent m e p).sets ≡ m.sets
  unfolding put_parent
  sets-put_parent = refl

  pub lists-put_parent : (put_parent m e p).lists ≡ m.lists
  unfolding put_parent
  lists-put_parent = refl

  pub count-put_parent : count_of (put_parent m e p) ≡ count_of m
  unfolding put_parent
  count-put_parent = length-set m.parents e p

  pub total-put_parent : content_items (put_parent m e p) ≡ content_items m
  unfolding put_parent content_items
  total-put_parent = refl

  pub parent-put_parent : e < count_of m → parent_of (put_parent m e p) e ≡ p
  unfolding put_parent
  parent-put_parent h = get_or-set_same m.parents e p none h

  pub parent-put_parent-other : (x : ℕ) → x ≢ e → parent_of (put_parent m e p) x ≡ parent_of m x
  unfolding put_parent
  parent-put_parent-other x h = get_or-set_other m.parents e x p none h

  pub set-put_parent : (x : ℕ) → set_of (put_parent m e p) x ≡ set_of m x
  unfolding put_parent
  set-put_parent x = refl

  pub list-put_parent : (x : ℕ) → list_of (put_parent m e p) x ≡ list_of m x
  unfolding put_parent
  list-put_parent x = refl

  -- the old one stored again
  pub put_parent-back : put_parent (put_parent m e p) e (parent_of m e) ≡ m
  unfolding put_parent
  put_parent-back =
      let l = set-set m.parents e p (parent_of m e) ∙ set-get_or m.parents e none in
      λ i. record { parents = l i; sets = m.sets; lists = m.lists }

-- ---- a set stored

module _ (m : Model) (e s : ℕ) where
  pub parents-put_set : (put_set m e s).parents ≡ m.parents
  unfolding put_set
  parents-put_set = refl

  pub lists-put_set : (put_set m e s).lists ≡ m.lists
  unfolding put_set
  lists-put_set = refl

  pub count-put_set : count_of (put_set m e s) ≡ count_of m
  unfolding put_set
  count-put_set = refl

  pub length-put_set : length (put_set m e s).sets ≡ length m.sets
  unfolding put_set
  length-put_set = length-set m.sets e s

  pub total-put_set : content_items (put_set m e s) ≡ content_items m
  unfolding put_set content_items
  total-put_set = refl

  pub set-put_set : e < length m.sets → set_of (put_set m e s) e ≡ s
  unfolding put_set
  set-put_set h = get_or-set_same m.sets e s 0 h

  pub set-put_set-other : (x : ℕ) → x ≢ e → set_of (put_set m e s) x ≡ set_of m x
  unfolding put_set
  set-put_set-other x h = get_or-set_other m.sets e x s 0 h

  pub parent-put_set : (x : ℕ) → parent_of (put_set m e s) x ≡ parent_of m x
  unfolding put_set
  parent-put_set x = refl

  pub list-put_set : (x : ℕ) → list_of (put_set m e s) x ≡ list_of m x
  unfolding put_set
  list-put_set x = refl

  pub put_set-back : put_set (put_set m e s) e (set_of m e) ≡ m
  unfolding put_set
  put_set-back =
      let l = set-set m.sets e s (set_of m e) ∙ set-get_or m.sets e 0 in
      λ i. record { parents = m.parents; sets = l i; lists = m.lists }

-- ---- a list stored, items inserted, an item replaced, an item removed

module _ (m : Model) (e : ℕ) where
  pub put_list-same : put_list m e (list_of m e) ≡ m
  unfolding put_list
  put_list-same =
      let l = set-get_or m.lists e [] in
      λ i. record { parents = m.parents; sets = m.sets; lists = l i }

  pub put_list-put_list : (k l : List Item) → put_list (put_list m e k) e l ≡ put_list m e l
  unfolding put_list
  put_list-put_list k l =
      let r = set-set m.lists e k l in
      λ i. record { parents = m.parents; sets = m.sets; lists = r i }

  pub list-put_list : (l : List Item) → e < length m.lists → list_of (put_list m e l) e ≡ l
  unfolding put_list
  list-put_list l h = get_or-set_same m.lists e l [] h

  -- a list stored, and that one changed
  put_list-then : (f : List Item → List Item) (l : List Item) → e < length m.lists → put_list (put_list m e l) e (f (list_of (put_list m e l) e)) ≡ put_list m e (f l)
  put_list-then f l h = ap (λ (r : List Item). put_list (put_list m e l) e (f r)) (list-put_list l h) ∙ put_list-put_list l (f l)

  pub list-put_list-other : (l : List Item) (x : ℕ) → x ≢ e → list_of (put_list m e l) x ≡ list_of m x
  unfolding put_list
  list-put_list-other l x h = get_or-set_other m.lists e x l [] h

module _ (m : Model) (e i : ℕ) (a : Item) where
  pub parents-insert : (insert_item m e i a).parents ≡ m.parents
  unfolding insert_item put_list
  parents-insert = refl

  pub sets-insert : (insert_item m e i a).sets ≡ m.sets
  unfolding insert_item put_list
  sets-insert = refl

  pub count-insert : count_of (insert_item m e i a) ≡ count_of m
  unfolding insert_item put_list
  count-insert = refl

  pub length-insert : length (insert_item m e i a).lists ≡ length m.lists
  unfolding insert_item put_list
  length-insert = length-set m.lists e (insert_at (list_of m e) i a)

  pub parent-insert : (x : ℕ) → parent_of (insert_item m e i a) x ≡ parent_of m x
  unfolding insert_item put_list
  parent-insert x = refl

  pub set-insert : (x : ℕ) → set_of (insert_item m e i a) x ≡ set_of m x
  unfolding insert_item put_list
  set-insert x = refl

  pub list-insert : e < length m.lists → list_of (insert_item m e i a) e ≡ insert_at (list_of m e) i a
  unfolding insert_item
  list-insert h = list-put_list m e (insert_at (list_of m e) i a) h

  pub list-insert-other : (x : ℕ) → x ≢ e → list_of (insert_item m e i a) x ≡ list_of m x
  unfolding insert_item
  list-insert-other x h = list-put_list-other m e (insert_at (list_of m e) i a) x h

module _ (m : Model) (e i k : ℕ) (a : Item) where
  pub count-insert_items : count_of (insert_items m e i k a) ≡ count_of m
  unfolding insert_items put_list
  count-insert_items = refl

  pub length-insert_items : length (insert_items m e i k a).lists ≡ length m.lists
  unfolding insert_items put_list
  length-insert_items = length-set m.lists e (insert_run (list_of m e) i k a)

  pub list-insert_items : e < length m.lists → list_of (insert_items m e i k a) e ≡ insert_run (list_of m e) i k a
  unfolding insert_items
  list-insert_items h = list-put_list m e (insert_run (list_of m e) i k a) h

  pub length-list-insert_items : e < length m.lists → length (list_of (insert_items m e i k a) e) ≡ length (list_of m e) + k
  length-list-insert_items h = ap length (list-insert_items h) ∙ length-insert_run (list_of m e) i k a

  -- inserted, and removed at the same place
  pub remove-insert_items : e < length m.lists → i ≤ length (list_of m e) → remove_items (insert_items m e i k a) e i k ≡ m
  unfolding insert_items remove_items
  remove-insert_items h b =
      put_list-then m e (λ (l : List Item). remove_run l i k) (insert_run (list_of m e) i k a) h
      ∙ ap (put_list m e) (remove_run-insert_run (list_of m e) i k a b)
      ∙ put_list-same m e

module _ (m : Model) (e i : ℕ) (a : Item) where
  -- once
  pub insert_items-one : insert_items m e i 1 a ≡ insert_item m e i a
  unfolding insert_items insert_item
  insert_items-one = ap (put_list m e) (insert_run-one (list_of m e) i a)

  pub count-put_item : count_of (put_item m e i a) ≡ count_of m
  unfolding put_item put_list
  count-put_item = refl

  pub length-put_item : length (put_item m e i a).lists ≡ length m.lists
  unfolding put_item put_list
  length-put_item = length-set m.lists e (set (list_of m e) i a)

  pub list-put_item : e < length m.lists → list_of (put_item m e i a) e ≡ set (list_of m e) i a
  unfolding put_item
  list-put_item h = list-put_list m e (set (list_of m e) i a) h

  pub length-list-put_item : e < length m.lists → length (list_of (put_item m e i a) e) ≡ length (list_of m e)
  length-list-put_item h = ap length (list-put_item h) ∙ length-set (list_of m e) i a

  -- of some that follow each other, the first replaced and the others removed
  pub remove-put_item : (k : ℕ) → e < length m.lists → i < length (list_of m e)
      → remove_items (put_item m e i a) e (suc i) k ≡ insert_item (remove_items m e i (suc k)) e i a
  unfolding put_item remove_items insert_item
  remove-put_item k h b =
      put_list-then m e (λ (l : List Item). remove_run l (suc i) k) (set (list_of m e) i a) h
      ∙ ap (put_list m e) (remove_run-set (list_of m e) i k a b)
      ∙ sym (put_list-then m e (λ (l : List Item). insert_at l i a) (remove_run (list_of m e) i (suc k)) h)

module _ (m : Model) (e i : ℕ) where
  pub parents-remove : (remove_item m e i).parents ≡ m.parents
  unfolding remove_item put_list
  parents-remove = refl

  pub sets-remove : (remove_item m e i).sets ≡ m.sets
  unfolding remove_item put_list
  sets-remove = refl

  pub count-remove : count_of (remove_item m e i) ≡ count_of m
  unfolding remove_item put_list
  count-remove = refl

  pub length-remove : length (remove_item m e i).lists ≡ length m.lists
  unfolding remove_item put_list
  length-remove = length-set m.lists e (remove_at (list_of m e) i)

  pub parent-remove : (x : ℕ) → parent_of (remove_item m e i) x ≡ parent_of m x
  unfolding remove_item put_list
  parent-remove x = refl

  pub set-remove : (x : ℕ) → set_of (remove_item m e i) x ≡ set_of m x
  unfolding remove_item put_list
  set-remove x = refl

  pub list-remove : e < length m.lists → list_of (remove_item m e i) e ≡ remove_at (list_of m e) i
  unfolding remove_item
  list-remove h = list-put_list m e (remove_at (list_of m e) i) h

  pub list-remove-other : (x : ℕ) → x ≢ e → list_of (remove_item m e i) x ≡ list_of m x
  unfolding remove_item
  list-remove-other x h = list-put_list-other m e (remove_at (list_of m e) i) x h

  -- removed, and inserted at the same place
  pub insert-remove : (d : Item) → e < length m.lists → i < length (list_of m e) → insert_item (remove_item m e i) e i (get_or (list_of m e) i d) ≡ m
  unfolding insert_item remove_item
  insert-remove d h k =
      put_list-then m e (λ (l : List Item). insert_at l i (get_or (list_of m e) i d)) (remove_at (list_of m e) i) h
      ∙ ap (put_list m e) (insert_at-remove_at (list_of m e) i d k)
      ∙ put_list-same m e

-- ---- one more element

module _ (m : Model) (p : Option ℕ) (s : ℕ) where
  pub count_add : count_of (add_to_model m p s) ≡ count_of m + 1
  unfolding add_to_model
  count_add = length-append m.parents (p ∷ [])

  pub parent-add : (e : ℕ) → e < count_of m → parent_of (add_to_model m p s) e ≡ parent_of m e
  unfolding add_to_model
  parent-add e h = get_or-append m.parents (p ∷ []) none e h

  pub parent-add-new : parent_of (add_to_model m p s) (count_of m) ≡ p
  unfolding add_to_model
  parent-add-new = get_or_at m.parents p [] none (count_of m) refl

  pub set-add : (e : ℕ) → e < length m.sets → set_of (add_to_model m p s) e ≡ set_of m e
  unfolding add_to_model
  set-add e h = get_or-append m.sets (s ∷ []) 0 e h

  pub set-add-new : set_of (add_to_model m p s) (length m.sets) ≡ s
  unfolding add_to_model
  set-add-new = get_or_at m.sets s [] 0 (length m.sets) refl

  pub list-add : (e : ℕ) → e < length m.lists → list_of (add_to_model m p s) e ≡ list_of m e
  unfolding add_to_model
  list-add e h = get_or-append m.lists ([] ∷ []) [] e h

  pub list-add-new : list_of (add_to_model m p s) (length m.lists) ≡ []
  unfolding add_to_model
  list-add-new = get_or_at m.lists [] [] [] (length m.lists) refl

-- ---- lengths of the lists, and content items over all of them

pub length-list-insert : (m : Model) (e i k : ℕ) (a : Item)
    → map length (set m.lists e (insert_run (list_of m e) i k a)) ≡ set (map length m.lists) e (get_or (map length m.lists) e 0 + k)
length-list-insert m e i k a =
    map-set length m.lists e (insert_run (list_of m e) i k a)
    ∙ ap (set (map length m.lists) e)
    (length-insert_run (list_of m e) i k a ∙ ap (λ (j : ℕ). j + k) (sym (get_or-map length m.lists e [])))

pub length-list-put : (m : Model) (e i : ℕ) (a : Item) → map length (set m.lists e (set (list_of m e) i a)) ≡ map length m.lists
length-list-put m e i a = map-set_same length m.lists e (set (list_of m e) i a) [] (length-set (list_of m e) i a)

pub length-list-remove : (m : Model) (e i k : ℕ) → e < length m.lists → i + k ≤ length (list_of m e)
    → map length (set m.lists e (remove_run (list_of m e) i k)) ≡ set (map length m.lists) e (get_or (map length m.lists) e 0 - k)
length-list-remove m e i k h b =
    let r = length-remove_run (list_of m e) i k b in
    let n : length (remove_run (list_of m e) i k) ≡ length (list_of m e) - k = omega arith in
    map-set length m.lists e (remove_run (list_of m e) i k)
    ∙ ap (set (map length m.lists) e) (n ∙ ap (λ (j : ℕ). j - k) (sym (get_or-map length m.lists e [])))

pub total-insert_items : (m : Model) (e i k : ℕ) (a : Item) → e < length m.lists → content_items (insert_items m e i k a) ≡ content_items m + k
unfolding content_items insert_items put_list
total-insert_items m e i k a h =
    ap sum (length-list-insert m e i k a) ∙ sum_more (map length m.lists) e k (rw (length-map m.lists length) h)

pub total-insert : (m : Model) (e i : ℕ) (a : Item) → e < length m.lists → i ≤ length (list_of m e)
    → content_items (insert_item m e i a) ≡ suc (content_items m)
total-insert m e i a h k =
    ap content_items (sym (insert_items-one m e i a)) ∙ total-insert_items m e i 1 a h ∙ add-one (content_items m)

pub total-put_item : (m : Model) (e i : ℕ) (a : Item) → content_items (put_item m e i a) ≡ content_items m
unfolding content_items put_item put_list
total-put_item m e i a = ap sum (length-list-put m e i a)

pub total-remove : (m : Model) (e i k : ℕ) → e < length m.lists → i + k ≤ length (list_of m e) → content_items (remove_items m e i k) + k ≡ content_items m
unfolding content_items remove_items put_list
total-remove m e i k h b =
    let f = start_fits m.lists e h in
    let c : start_of m.lists e + i + k ≤ length (flat m.lists) = omega arith in
    ap (λ (n : ℕ). n + k) (sym (length-flat (set m.lists e (remove_run (list_of m e) i k))) ∙ ap length (flat-remove m.lists e i k h b))
    ∙ length-remove_run (flat m.lists) (start_of m.lists e + i) k c
    ∙ length-flat m.lists

pub flat-add : (ls : List (List Item)) → flat (ls ++ ([] ∷ [])) ≡ flat ls
unfolding flat
flat-add ls = flat_append ls ([] ∷ []) ∙ append-nil (flat ls)

pub total-add : (m : Model) (p : Option ℕ) (s : ℕ) → content_items (add_to_model m p s) ≡ content_items m
unfolding content_items add_to_model
total-add m p s = sym (length-flat (m.lists ++ ([] ∷ []))) ∙ ap length (flat-add m.lists) ∙ length-flat m.lists
