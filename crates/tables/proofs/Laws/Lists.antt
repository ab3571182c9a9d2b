-- Laws of lists: entries inserted and removed, lists one behind the other, and changes of a part in place. Assumes nothing.
use mathlib.Core.Bool.{Bool, true, false≢true}
use mathlib.Core.Path.{◌≡◌, refl, sym, ap, ◌∙◌}
use mathlib.Core.List.{List, [], ◌∷◌, ◌++◌, map, append_assoc, append-nil}
use Prim.Native.Nat.{ℕ, zero, suc, ◌+◌, ◌-◌, ◌≤◌, ◌<◌}
use native.Mathlib.Nat.{zero-add, add-zero, suc-add, le_of_suc-le-suc, not-suc-le-zero}
use native.Mathlib.Numerals.{add-one}
use native.Mathlib.Omega.{arith}
use borrow.Author.Tests.{eqb-true, eq-eqb}
use borrow.Rule.Slice.PartMut.{mid_of, put_mid}
use lib.Dec.{eqb}
use lib.ListN.{length, set, get_or, take, drop, replicate, length-append, length-drop, length-replicate, drop_of_length-le, get_or-append}
use lib.Seq.{take_at, drop_at, length-take-le, take-length, drop-length, drop-cons, drop-drop, drop-append-le, set-append_left, drop-set-add}
use Rattle.tables.specs.Cells.{Each}
use Rattle.tables.specs.Lists.{insert_at, remove_at, insert_run, remove_run, sum, same_list}
use Rattle.tables.specs.ModelTable.{flat, start_of, cut, shift_in, shift_out, on_from}
use Rattle.tables.proofs.Laws.Cases.{bool_case}
use Rattle.tables.proofs.Laws.Cells.{set-behind, get_d-behind}

-- ---- entries inserted, entries removed

module _ {A : Type 0} where
  pub length-insert_run : (l : List A) (i k : ℕ) (a : A) → length (insert_run l i k a) ≡ length l + k
  unfolding insert_run
  length-insert_run l zero k a = rw (length-append, length-replicate) (omega arith)
  length-insert_run [] (suc i) k a = rw length-replicate (omega arith)
  length-insert_run (x ∷ l) (suc i) k a = rw (length-insert_run l i k a) (omega arith)

  -- once
  pub insert_run-one : (l : List A) (i : ℕ) (a : A) → insert_run l i 1 a ≡ insert_at l i a
  unfolding insert_run insert_at
  insert_run-one l zero a = refl
  insert_run-one [] (suc i) a = refl
  insert_run-one (x ∷ l) (suc i) a = ap (λ (r : List A). x ∷ r) (insert_run-one l i a)

  pub length-insert_at : (l : List A) (i : ℕ) (a : A) → length (insert_at l i a) ≡ suc (length l)
  length-insert_at l i a = ap length (sym (insert_run-one l i a)) ∙ length-insert_run l i 1 a ∙ add-one (length l)

  pub length-remove_run : (l : List A) (i k : ℕ) → i + k ≤ length l → length (remove_run l i k) + k ≡ length l
  unfolding remove_run
  length-remove_run l zero k h = omega (arith, length-drop k l)
  length-remove_run [] (suc i) k h = absurd (not-suc-le-zero {n = i + k} (omega arith))
  length-remove_run (x ∷ l) (suc i) k h =
      let r = length-remove_run l i k (omega arith) in
      omega arith

  pub remove_run-none : (l : List A) (i : ℕ) → remove_run l i 0 ≡ l
  unfolding remove_run
  remove_run-none l zero = refl
  remove_run-none [] (suc i) = refl
  remove_run-none (x ∷ l) (suc i) = ap (λ (r : List A). x ∷ r) (remove_run-none l i)

  -- inserted and removed again
  pub remove_run-insert_run : (l : List A) (i k : ℕ) (a : A) → i ≤ length l → remove_run (insert_run l i k a) i k ≡ l
  unfolding insert_run remove_run
  remove_run-insert_run l zero k a h = drop_at (replicate k a) l k (length-replicate k a)
  remove_run-insert_run [] (suc i) k a h = absurd (not-suc-le-zero h)
  remove_run-insert_run (x ∷ l) (suc i) k a h = ap (λ (r : List A). x ∷ r) (remove_run-insert_run l i k a (le_of_suc-le-suc h))

  -- removed and inserted again
  pub insert_at-remove_at : (l : List A) (i : ℕ) (d : A) → i < length l → insert_at (remove_at l i) i (get_or l i d) ≡ l
  unfolding insert_at remove_at
  insert_at-remove_at [] i d h = absurd (not-suc-le-zero h)
  insert_at-remove_at (x ∷ l) zero d h = refl
  insert_at-remove_at (x ∷ l) (suc i) d h = ap (λ (r : List A). x ∷ r) (insert_at-remove_at l i d (le_of_suc-le-suc h))

  pub get_d-insert_at : (l : List A) (i : ℕ) (a d : A) → i ≤ length l → get_or (insert_at l i a) i d ≡ a
  unfolding insert_at
  get_d-insert_at l zero a d h = refl
  get_d-insert_at [] (suc i) a d h = absurd (not-suc-le-zero h)
  get_d-insert_at (x ∷ l) (suc i) a d h = get_d-insert_at l i a d (le_of_suc-le-suc h)

  insert_run-left : (l m : List A) (i k : ℕ) (a : A) → i ≤ length l → insert_run (l ++ m) i k a ≡ insert_run l i k a ++ m
  unfolding insert_run
  insert_run-left l m zero k a h = sym (append_assoc (replicate k a) l m)
  insert_run-left [] m (suc i) k a h = absurd (not-suc-le-zero h)
  insert_run-left (x ∷ l) m (suc i) k a h = ap (λ (r : List A). x ∷ r) (insert_run-left l m i k a (le_of_suc-le-suc h))

  insert_run-behind : (l m : List A) (i k : ℕ) (a : A) → insert_run (l ++ m) (length l + i) k a ≡ l ++ insert_run m i k a
  unfolding insert_run
  insert_run-behind [] m i k a = rw (zero-add i)
  insert_run-behind (x ∷ l) m i k a = rw (suc-add (length l) i) (ap (λ (r : List A). x ∷ r) (insert_run-behind l m i k a))

  pub insert_at-behind : (l m : List A) (i : ℕ) (a : A) → insert_at (l ++ m) (length l + i) a ≡ l ++ insert_at m i a
  insert_at-behind l m i a =
      sym (insert_run-one (l ++ m) (length l + i) a) ∙ insert_run-behind l m i 1 a ∙ ap (λ (r : List A). l ++ r) (insert_run-one m i a)

  pub remove_run-left : (l m : List A) (i k : ℕ) → i + k ≤ length l → remove_run (l ++ m) i k ≡ remove_run l i k ++ m
  unfolding remove_run
  remove_run-left l m zero k h = drop-append-le k l m (omega arith)
  remove_run-left [] m (suc i) k h = absurd (not-suc-le-zero {n = i + k} (omega arith))
  remove_run-left (x ∷ l) m (suc i) k h = ap (λ (r : List A). x ∷ r) (remove_run-left l m i k (omega arith))

  pub remove_run-behind : (l m : List A) (i k : ℕ) → remove_run (l ++ m) (length l + i) k ≡ l ++ remove_run m i k
  unfolding remove_run
  remove_run-behind [] m i k = rw (zero-add i)
  remove_run-behind (x ∷ l) m i k = rw (suc-add (length l) i) (ap (λ (r : List A). x ∷ r) (remove_run-behind l m i k))

  -- before the place the list is as it was
  pub get_d-remove_run : (l : List A) (i k j : ℕ) (d : A) → j < i → get_or (remove_run l i k) j d ≡ get_or l j d
  unfolding remove_run
  get_d-remove_run l zero k j d h = absurd (not-suc-le-zero h)
  get_d-remove_run [] (suc i) k j d h = refl
  get_d-remove_run (x ∷ l) (suc i) k zero d h = refl
  get_d-remove_run (x ∷ l) (suc i) k (suc j) d h = get_d-remove_run l i k j d (le_of_suc-le-suc h)

  -- one more, right before them
  pub remove_run-more : (l : List A) (i k : ℕ) → remove_at (remove_run l (suc i) k) i ≡ remove_run l i (suc k)
  unfolding remove_run remove_at
  remove_run-more [] zero k = refl
  remove_run-more [] (suc i) k = refl
  remove_run-more (x ∷ l) zero k = refl
  remove_run-more (x ∷ l) (suc i) k = ap (λ (r : List A). x ∷ r) (remove_run-more l i k)

  -- of some that follow each other, the first replaced and the others removed
  pub remove_run-set : (l : List A) (i k : ℕ) (a : A) → i < length l → remove_run (set l i a) (suc i) k ≡ insert_at (remove_run l i (suc k)) i a
  unfolding remove_run insert_at
  remove_run-set [] i k a h = absurd (not-suc-le-zero h)
  remove_run-set (x ∷ l) zero k a h = refl
  remove_run-set (x ∷ l) (suc i) k a h = ap (λ (r : List A). x ∷ r) (remove_run-set l i k a (le_of_suc-le-suc h))

  pub each-insert_run : (P : A → Type 0) (l : List A) (i k : ℕ) (a : A) → Each P l → P a → Each P (insert_run l i k a)
  unfolding insert_run
  each-insert_run P l zero zero a h p = h
  each-insert_run P l zero (suc k) a h p = (p, each-insert_run P l zero k a h p)
  each-insert_run P [] (suc i) zero a h p = tt
  each-insert_run P [] (suc i) (suc k) a h p = (p, each-insert_run P [] (suc i) k a h p)
  each-insert_run P (x ∷ l) (suc i) k a h p = (h.0, each-insert_run P l i k a h.1 p)

  pub each-remove_run : (P : A → Type 0) (l : List A) (i k : ℕ) → Each P l → Each P (remove_run l i k)
  unfolding remove_run
  each-remove_run P l zero zero h = h
  each-remove_run P [] zero (suc k) h = tt
  each-remove_run P (x ∷ l) zero (suc k) h = each-remove_run P l zero k h.1
  each-remove_run P [] (suc i) k h = tt
  each-remove_run P (x ∷ l) (suc i) k h = (h.0, each-remove_run P l i k h.1)

module _ {A B : Type 0} (f : A → B) where
  pub map-set : (l : List A) (i : ℕ) (a : A) → map f (set l i a) ≡ set (map f l) i (f a)
  map-set [] i a = refl
  map-set (x ∷ l) zero a = refl
  map-set (x ∷ l) (suc i) a = ap (λ (r : List B). f x ∷ r) (map-set l i a)

  pub map-insert_run : (l : List A) (i k : ℕ) (a : A) → map f (insert_run l i k a) ≡ insert_run (map f l) i k (f a)
  unfolding insert_run
  map-insert_run l zero zero a = refl
  map-insert_run l zero (suc k) a = ap (λ (r : List B). f a ∷ r) (map-insert_run l zero k a)
  map-insert_run [] (suc i) zero a = refl
  map-insert_run [] (suc i) (suc k) a = ap (λ (r : List B). f a ∷ r) (map-insert_run [] (suc i) k a)
  map-insert_run (x ∷ l) (suc i) k a = ap (λ (r : List B). f x ∷ r) (map-insert_run l i k a)

  pub map-remove_run : (l : List A) (i k : ℕ) → map f (remove_run l i k) ≡ remove_run (map f l) i k
  unfolding remove_run
  map-remove_run l zero zero = refl
  map-remove_run [] zero (suc k) = refl
  map-remove_run (x ∷ l) zero (suc k) = map-remove_run l zero k
  map-remove_run [] (suc i) k = refl
  map-remove_run (x ∷ l) (suc i) k = ap (λ (r : List B). f x ∷ r) (map-remove_run l i k)

  pub map-then : (l m : List A) → map f (l ++ m) ≡ map f l ++ map f m
  map-then [] m = refl
  map-then (x ∷ l) m = ap (λ (r : List B). f x ∷ r) (map-then l m)

-- each entry comes back
pub map_back : {A B : Type 0} (f : A → B) (g : B → A) (l : List A) → Each (λ (a : A). g (f a) ≡ a) l → map g (map f l) ≡ l
map_back f g [] h = refl
map_back {A = A} f g (x ∷ l) h = λ i. h.0 i ∷ map_back f g l h.1 i

-- one number more by k
pub sum_more : (ns : List ℕ) (e k : ℕ) → e < length ns → sum (set ns e (get_or ns e 0 + k)) ≡ sum ns + k
unfolding sum
sum_more [] e k h = absurd (not-suc-le-zero h)
sum_more (n ∷ ns) zero k h = omega arith
sum_more (n ∷ ns) (suc e) k h = rw (sum_more ns e k (le_of_suc-le-suc h)) (omega arith)

-- ---- lists one behind the other

module _ {A : Type 0} where
  pub length-flat : (ls : List (List A)) → length (flat ls) ≡ sum (map length ls)
  unfolding flat sum
  length-flat [] = refl
  length-flat (l ∷ ls) = rw (length-append, length-flat ls)

  pub flat_append : (ls ms : List (List A)) → flat (ls ++ ms) ≡ flat ls ++ flat ms
  unfolding flat
  flat_append [] ms = refl
  flat_append (l ∷ ls) ms = rw (append_assoc, flat_append ls ms)

  pub flat-insert_run : (ls : List (List A)) (e i k : ℕ) (a : A) → e < length ls → i ≤ length (get_or ls e [])
      → flat (set ls e (insert_run (get_or ls e []) i k a)) ≡ insert_run (flat ls) (start_of ls e + i) k a
  unfolding flat start_of
  flat-insert_run [] e i k a h b = absurd (not-suc-le-zero h)
  flat-insert_run (l ∷ ls) zero i k a h b = rw (zero-add i) (sym (insert_run-left l (flat ls) i k a b))
  flat-insert_run (l ∷ ls) (suc e) i k a h b =
      let z : length l + start_of ls e + i ≡ length l + (start_of ls e + i) = omega arith in
      rw (flat-insert_run ls e i k a (le_of_suc-le-suc h) b, z) (sym (insert_run-behind l (flat ls) (start_of ls e + i) k a))

  pub flat-remove : (ls : List (List A)) (e i k : ℕ) → e < length ls → i + k ≤ length (get_or ls e [])
      → flat (set ls e (remove_run (get_or ls e []) i k)) ≡ remove_run (flat ls) (start_of ls e + i) k
  unfolding flat start_of
  flat-remove [] e i k h b = absurd (not-suc-le-zero h)
  flat-remove (l ∷ ls) zero i k h b = rw (zero-add i) (sym (remove_run-left l (flat ls) i k b))
  flat-remove (l ∷ ls) (suc e) i k h b =
      let z : length l + start_of ls e + i ≡ length l + (start_of ls e + i) = omega arith in
      rw (flat-remove ls e i k (le_of_suc-le-suc h) b, z) (sym (remove_run-behind l (flat ls) (start_of ls e + i) k))

  pub flat-set : (ls : List (List A)) (e i : ℕ) (a : A) → i < length (get_or ls e [])
      → flat (set ls e (set (get_or ls e []) i a)) ≡ set (flat ls) (start_of ls e + i) a
  unfolding flat start_of
  flat-set [] e i a k = absurd (not-suc-le-zero k)
  flat-set (l ∷ ls) zero i a k = rw (zero-add i) (sym (set-append_left l (flat ls) i a k))
  flat-set (l ∷ ls) (suc e) i a k =
      let z : length l + start_of ls e + i ≡ length l + (start_of ls e + i) = omega arith in
      rw (flat-set ls e i a k, z) (sym (set-behind l (flat ls) (length l) (start_of ls e + i) a refl))

  pub get_d-flat : (ls : List (List A)) (e i : ℕ) (d : A) → i < length (get_or ls e [])
      → get_or (flat ls) (start_of ls e + i) d ≡ get_or (get_or ls e []) i d
  unfolding flat start_of
  get_d-flat [] e i d k = absurd (not-suc-le-zero k)
  get_d-flat (l ∷ ls) zero i d k = rw (zero-add i) (get_or-append l (flat ls) d i k)
  get_d-flat (l ∷ ls) (suc e) i d k =
      let z : length l + start_of ls e + i ≡ length l + (start_of ls e + i) = omega arith in
      rw z (get_d-behind l (flat ls) (length l) (start_of ls e + i) d refl ∙ get_d-flat ls e i d k)

  -- a list stands within the flat list
  pub start_fits : (ls : List (List A)) (e : ℕ) → e < length ls → start_of ls e + length (get_or ls e []) ≤ length (flat ls)
  unfolding flat start_of
  start_fits [] e h = absurd (not-suc-le-zero h)
  start_fits (l ∷ ls) zero h = rw (length-append l (flat ls)) (omega arith)
  start_fits (l ∷ ls) (suc e) h =
      let k = start_fits ls e (le_of_suc-le-suc h) in
      rw (length-append l (flat ls)) (omega arith)

  pub start-end : (ls : List (List A)) → start_of ls (length ls) ≡ length (flat ls)
  unfolding flat start_of
  start-end [] = refl
  start-end (l ∷ ls) = rw (length-append l (flat ls), start-end ls)

  pub start-next : (ls : List (List A)) (e : ℕ) → e < length ls → start_of ls (suc e) ≡ start_of ls e + length (get_or ls e [])
  unfolding start_of
  start-next [] e h = absurd (not-suc-le-zero h)
  start-next (l ∷ []) zero h = omega arith
  start-next (l ∷ (m ∷ ls)) zero h = omega arith
  start-next (l ∷ ls) (suc e) h = rw (start-next ls e (le_of_suc-le-suc h)) (omega arith)

  pub cut-flat : (ls : List (List A)) (r : List A) → cut (map length ls) (flat ls ++ r) ≡ ls
  unfolding cut flat
  cut-flat [] r = refl
  cut-flat (l ∷ ls) r =
      rw (append_assoc, take_at l (flat ls ++ r) (length l) refl, drop_at l (flat ls ++ r) (length l) refl, cut-flat ls r)

-- ---- changes of a part in place: what is left, done to the present list, is the whole

-- a part that is all
whole : (f : List ℕ → List ℕ) (s : List ℕ) (k : ℕ) → k ≡ length s → f (take k s) ++ drop k s ≡ f s
whole f s k h = rw (h, take-length s, drop-length s) (append-nil (f s))

-- done to the part from i on
pub shift_in-part : (s : List ℕ) (i n k v : ℕ) → i + n ≡ length s → k ≤ n → put_mid i n s (shift_in (mid_of i n s) 0 k v) ≡ shift_in s i k v
unfolding shift_in insert_run
shift_in-part s zero n k v h b = whole (λ (r : List ℕ). shift_in r 0 k v) s n (omega arith)
shift_in-part [] (suc i) n k v h b = absurd (not-suc-le-zero {n = i + n} (omega arith))
shift_in-part (x ∷ s) (suc i) n k v h b =
    let z : suc (length s) - k ≡ suc (length s - k) = omega arith in
    rw z (ap (λ (r : List ℕ). x ∷ r) (shift_in-part s i n k v (omega arith) b))

pub shift_out-part : (s : List ℕ) (i n k : ℕ) → i + n ≡ length s → put_mid i n s (shift_out (mid_of i n s) 0 k) ≡ shift_out s i k
unfolding shift_out remove_run
shift_out-part s zero n k h = whole (λ (r : List ℕ). shift_out r 0 k) s n (omega arith)
shift_out-part [] (suc i) n k h = absurd (not-suc-le-zero {n = i + n} (omega arith))
shift_out-part (x ∷ s) (suc i) n k h = ap (λ (r : List ℕ). x ∷ r) (shift_out-part s i n k (omega arith))

pub length-shift_in : (s : List ℕ) (i k v : ℕ) → k ≤ length s → length (shift_in s i k v) ≡ length s
unfolding shift_in
length-shift_in s i k v h =
    length-insert_run (take (length s - k) s) i k v ∙ rw (length-take-le (length s - k) s (omega arith)) (omega arith)

-- with room for them, nothing falls out
pub shift_in-room : (xs : List ℕ) (i k v : ℕ) → shift_in (xs ++ replicate k 0) i k v ≡ insert_run xs i k v
unfolding shift_in
shift_in-room xs i k v =
    let z : length xs ≡ length (xs ++ replicate k 0) - k = rw (length-append, length-replicate) (omega arith) in
    ap (λ (r : List ℕ). insert_run r i k v) (take_at xs (replicate k 0) _ z)

pub length-shift_out : (s : List ℕ) (i k : ℕ) → i + k ≤ length s → length (shift_out s i k) ≡ length s
unfolding shift_out
length-shift_out s i k h = rw (length-append, length-replicate) (length-remove_run s i k h)

remove_run-turn : (s : List ℕ) (j k : ℕ) → j + k < length s → remove_run (set s j (get_or s (j + k) 0)) (suc j) k ≡ remove_run s j k
unfolding remove_run
remove_run-turn [] j k h = absurd (not-suc-le-zero h)
remove_run-turn (x ∷ s) zero k h = rw (zero-add k) (sym (drop-cons (x ∷ s) k 0 (omega arith)))
remove_run-turn (x ∷ s) (suc j) k h = rw (suc-add j k) (ap (λ (r : List ℕ). x ∷ r) (remove_run-turn s j k (omega arith)))

pub shift_out-turn : (s : List ℕ) (j k : ℕ) → j + k < length s → shift_out (set s j (get_or s (j + k) 0)) (j + 1) k ≡ shift_out s j k
unfolding shift_out
shift_out-turn s j k h = rw (add-one j) (ap (λ (r : List ℕ). r ++ replicate k 0) (remove_run-turn s j k h))

-- the last ones
pub remove_run-last : (s : List ℕ) (j k : ℕ) → j + k ≡ length s → remove_run s j k ≡ take j s
unfolding remove_run
remove_run-last s zero k h = drop_of_length-le s {i = k} (omega arith)
remove_run-last [] (suc j) k h = refl
remove_run-last (x ∷ s) (suc j) k h = ap (λ (r : List ℕ). x ∷ r) (remove_run-last s j k (omega arith))

-- the cells from j on cleared
pub shift_out-last : (s : List ℕ) (j n k : ℕ) → j + k ≡ length s → n ≡ k → put_mid j n s (replicate (length (mid_of j n s)) 0) ≡ shift_out s j k
unfolding shift_out
shift_out-last s j n k h e =
    let z : length (mid_of j n s) ≡ k = length-take-le n (drop j s) (omega (arith, length-drop j s)) ∙ e in
    rw (z, remove_run-last s j k h, drop-drop n j s, drop_of_length-le s {i = j + n} (omega arith)) (ap (λ (r : List ℕ). take j s ++ r) (append-nil (replicate k 0)))

-- the other way: those up to j moved up by k
shift_in-turn-suc : (s : List ℕ) (j k : ℕ) → j + k < length s → remove_run (set s (j + k) (get_or s j 0)) j k ≡ remove_run s (suc j) k
unfolding remove_run
shift_in-turn-suc [] j k h = absurd (not-suc-le-zero h)
shift_in-turn-suc (x ∷ s) zero k h =
    rw (zero-add k) ((rw (add-zero k) at (drop-set-add k (x ∷ s) 0 x)) ∙ ap (λ (r : List ℕ). set r 0 x) (drop-cons (x ∷ s) k 0 (omega arith)))
shift_in-turn-suc (x ∷ s) (suc j) k h = rw (suc-add j k) (ap (λ (r : List ℕ). x ∷ r) (shift_in-turn-suc s j k (omega arith)))

pub shift_in-turn : (s : List ℕ) (j k : ℕ) → 0 < j → j + k ≤ length s → remove_run (set s (j - 1 + k) (get_or s (j - 1) 0)) (j - 1) k ≡ remove_run s j k
shift_in-turn s zero k h b = absurd (not-suc-le-zero h)
shift_in-turn s (suc j) k h b =
    let z : suc j - 1 ≡ j = omega arith in
    rw z (shift_in-turn-suc s j k (omega arith))

-- all moved, and the first k cells filled
pub shift_in-first : (s s₀ : List ℕ) (k v : ℕ) → k ≤ length s → remove_run s 0 k ≡ take (length s₀ - k) s₀
    → replicate (length (take k s)) v ++ drop k s ≡ shift_in s₀ 0 k v
unfolding shift_in insert_run remove_run
shift_in-first s s₀ k v h e = rw (length-take-le k s h) (ap (λ (r : List ℕ). replicate k v ++ r) e)

module _ (f : ℕ → ℕ) where
  on_from-turn-suc : (s : List ℕ) (j : ℕ) → j < length s → on_from f (set s j (f (get_or s j 0))) (suc j) ≡ on_from f s j
  unfolding on_from
  on_from-turn-suc [] j h = absurd (not-suc-le-zero h)
  on_from-turn-suc (x ∷ s) zero h = refl
  on_from-turn-suc (x ∷ s) (suc j) h = ap (λ (r : List ℕ). x ∷ r) (on_from-turn-suc s j (le_of_suc-le-suc h))

  pub on_from-turn : (s : List ℕ) (j : ℕ) → j < length s → on_from f (set s j (f (get_or s j 0))) (j + 1) ≡ on_from f s j
  on_from-turn s j h = rw (add-one j) (on_from-turn-suc s j h)

  pub on_from-past : (s : List ℕ) (j : ℕ) → length s ≤ j → on_from f s j ≡ s
  unfolding on_from
  on_from-past [] j h = refl
  on_from-past (x ∷ s) zero h = absurd (not-suc-le-zero h)
  on_from-past (x ∷ s) (suc j) h = ap (λ (r : List ℕ). x ∷ r) (on_from-past s j (le_of_suc-le-suc h))

  pub length-on_from : (s : List ℕ) (j : ℕ) → length (on_from f s j) ≡ length s
  unfolding on_from
  length-on_from [] j = refl
  length-on_from (x ∷ s) zero = ap suc (length-on_from s zero)
  length-on_from (x ∷ s) (suc j) = ap suc (length-on_from s j)

-- filled to its end
pub filled : (j v : ℕ) (t s : List ℕ) → t ≡ replicate j v ++ drop j s → j ≡ length s → t ≡ replicate (length s) v
filled j v t s e h =
    e ∙ ap (λ (n : ℕ). replicate n v ++ drop n s) h ∙ ap (λ (r : List ℕ). replicate (length s) v ++ r) (drop-length s) ∙ append-nil (replicate (length s) v)

-- ---- two lists compared

-- lists that the test of equality passes
pub same_lists : (xs ys : List ℕ) → same_list xs ys ≡ true → xs ≡ ys
unfolding same_list
same_lists [] [] h = refl
same_lists [] (b ∷ ys) h = absurd (false≢true h)
same_lists (a ∷ xs) [] h = absurd (false≢true h)
same_lists (a ∷ xs) (b ∷ ys) h =
    bool_case (λ (t : Bool). t ≡ true → a ∷ xs ≡ b ∷ ys) (eqb a b)
    (λ e k. ap (λ (c : ℕ). c ∷ xs) (eqb-true a b e) ∙ ap (λ (r : List ℕ). b ∷ r) (same_lists xs ys k)) (λ _ k. absurd (false≢true k)) h

pub same-itself : (xs : List ℕ) → same_list xs xs ≡ true
unfolding same_list
same-itself [] = refl
same-itself (a ∷ xs) = rw (eq-eqb a a refl, same_list) (same-itself xs)
