-- Laws of cells: a store and a read in an area of a table, the area's length, a row stored behind the last, and reading rows back.
-- Assumes nothing.
use mathlib.Core.Path.{◌≡◌, refl, sym, ap, ◌∙◌, subst}
use mathlib.Core.List.{List, [], ◌∷◌, ◌++◌, map, reverse, reverse-cons, append_assoc, append-nil}
use Prim.Native.Nat.{ℕ, zero, suc, ◌+◌, ◌*◌, ◌-◌, ◌≤◌, ◌<◌}
use native.Mathlib.Nat.{zero-add, suc-add, add-zero, suc-mul, zero-mul, le_of_suc-le-suc, not-suc-le-zero, mul-le-mul_right}
use native.Mathlib.Omega.{arith}
use lib.ListN.{length, set, get_or, take, drop, replicate, length-append, length-replicate, length-set, length-drop, get_or-append, replicate-append-replicate, take-append-drop}
use lib.Seq.{set-append_left, take_all, take_at, drop_at, drop-drop, take-add, length-take-le}
use borrow.Rule.Slice.PartMut.{mid_of, put_mid}
use Rattle.tables.specs.Cells.{padded, puts, Each, row_cells, cells, rows_of, row_at}

-- ---- areas of a table: a part p of n cells, and what stands behind it

module _ {A : Type 0} where
  pub set-behind : (p q : List A) (n i : ℕ) (a : A) → length p ≡ n → set (p ++ q) (n + i) a ≡ p ++ set q i a
  set-behind [] q n i a e = rw (← e, zero-add i)
  set-behind (x ∷ p) q n i a e =
      rw (← e, suc-add (length p) i) (ap (λ (r : List A). x ∷ r) (set-behind p q (length p) i a refl))

  pub get_d-behind : (p q : List A) (n i : ℕ) (d : A) → length p ≡ n → get_or (p ++ q) (n + i) d ≡ get_or q i d
  get_d-behind [] q n i d e = rw (← e, zero-add i)
  get_d-behind (x ∷ p) q n i d e = rw (← e, suc-add (length p) i) (get_d-behind p q (length p) i d refl)

  -- the same in an area q between p and r
  pub set-inside : (p q r : List A) (n i : ℕ) (a : A) → length p ≡ n → i < length q → set (p ++ (q ++ r)) (n + i) a ≡ p ++ (set q i a ++ r)
  set-inside p q r n i a e h = set-behind p (q ++ r) n i a e ∙ ap (λ (l : List A). p ++ l) (set-append_left q r i a h)

  pub get_d-inside : (p q r : List A) (n i : ℕ) (d : A) → length p ≡ n → i < length q → get_or (p ++ (q ++ r)) (n + i) d ≡ get_or q i d
  get_d-inside p q r n i d e h = get_d-behind p (q ++ r) n i d e ∙ get_or-append q r d i h

pub length-puts : (l : List ℕ) (at : ℕ) (vs : List ℕ) → length (puts l at vs) ≡ length l
length-puts l at [] = refl
length-puts l at (v ∷ vs) = length-puts (set l at v) (at + 1) vs ∙ length-set l at v

pub puts-behind : (p q : List ℕ) (n i : ℕ) (vs : List ℕ) → length p ≡ n → puts (p ++ q) (n + i) vs ≡ p ++ puts q i vs
puts-behind p q n i [] e = refl
puts-behind p q n i (v ∷ vs) e =
    let z : n + i + 1 ≡ n + (i + 1) = omega arith in
    rw (set-behind p q n i v e, z) (puts-behind p (set q i v) n (i + 1) vs e)

pub puts-left : (q r : List ℕ) (i : ℕ) (vs : List ℕ) → i + length vs ≤ length q → puts (q ++ r) i vs ≡ puts q i vs ++ r
puts-left q r i [] h = refl
puts-left q r i (v ∷ vs) h =
    rw (set-append_left q r i v (omega arith)) (puts-left (set q i v) r (i + 1) vs (simp length-set (omega arith)))

pub puts-inside : (p q r : List ℕ) (n i : ℕ) (vs : List ℕ) → length p ≡ n → i + length vs ≤ length q
    → puts (p ++ (q ++ r)) (n + i) vs ≡ p ++ (puts q i vs ++ r)
puts-inside p q r n i vs e h = puts-behind p (q ++ r) n i vs e ∙ ap (λ (l : List ℕ). p ++ l) (puts-left q r i vs h)

-- stores, and then stores behind them
pub puts_then : (l m n : List ℕ) (at : ℕ) (vs ws : List ℕ) → m ≡ puts l at vs → n ≡ puts m (at + length vs) ws → n ≡ puts l at (vs ++ ws)
puts_then l m n at [] ws e f = rw (← e, ← add-zero at) f
puts_then l m n at (v ∷ vs) ws e f =
    let z : at + suc (length vs) ≡ at + 1 + length vs = omega arith in
    puts_then (set l at v) m n (at + 1) vs ws e (rw z at f)

-- the values stored over as many cells at the front
pub puts-front : (xs ys vs : List ℕ) → length xs ≡ length vs → puts (xs ++ ys) 0 vs ≡ vs ++ ys
puts-front [] ys [] e = refl
puts-front [] ys (v ∷ vs) e = absurd (not-suc-le-zero (subst (λ (n : ℕ). suc (length vs) ≤ n) (sym e) (omega arith)))
puts-front (x ∷ xs) ys [] e = absurd (not-suc-le-zero (subst (λ (n : ℕ). suc (length xs) ≤ n) e (omega arith)))
puts-front (x ∷ xs) ys (v ∷ vs) e =
    let h : length xs ≡ length vs = omega arith in
    puts-behind (v ∷ []) (xs ++ ys) 1 0 vs refl ∙ ap (λ (r : List ℕ). v ∷ r) (puts-front xs ys vs h)

-- a part with other values in its place
pub puts-mid : (l vs : List ℕ) (at k : ℕ) → k ≡ length vs → at + k ≤ length l → put_mid at k l vs ≡ puts l at vs
puts-mid l vs at k e h =
    let p : List ℕ = take at l in
    let q : List ℕ = take k (drop at l) in
    let r : List ℕ = drop k (drop at l) in
    let whole : p ++ (q ++ r) ≡ l = ap (λ (m : List ℕ). p ++ m) (take-append-drop k (drop at l)) ∙ take-append-drop at l in
    let before : length p ≡ at = length-take-le at l (omega arith) in
    let lent : length q ≡ length vs = length-take-le k (drop at l) (omega (arith, length-drop at l)) ∙ e in
    let stored : puts q 0 vs ≡ vs = rw (append-nil q, append-nil vs) at (puts-front q [] vs lent) in
    let inside : puts (p ++ (q ++ r)) at vs ≡ p ++ (puts q 0 vs ++ r) = rw (add-zero at) at (puts-inside p q r at 0 vs before (omega arith)) in
    ap (λ (m : List ℕ). p ++ (m ++ r)) (sym stored) ∙ sym inside ∙ ap (λ (m : List ℕ). puts m at vs) whole

-- the last k of the first j + k
drop-part : (xs : List ℕ) (j k n : ℕ) → j + k ≡ n → drop j (take n xs) ≡ take k (drop j xs)
drop-part xs zero k n e = rw (← e, zero-add k)
drop-part [] (suc j) k n e = rw (← e, suc-add j k) (sym (take_all k [] (omega arith)))
drop-part (x ∷ xs) (suc j) k n e = rw (← e, suc-add j k) (drop-part xs j k (j + k) refl)

-- ---- a list, then zeros

pub length-padded : (room : ℕ) (xs : List ℕ) → length xs ≤ room → length (padded room xs) ≡ room
unfolding padded
length-padded room xs h = simp (length-append, length-replicate) (omega arith)

pub get_d-zeros : (n i : ℕ) → ◌≡◌ {A = ℕ} (get_or (replicate n 0) i 0) 0
get_d-zeros zero i = refl
get_d-zeros (suc n) zero = refl
get_d-zeros (suc n) (suc i) = get_d-zeros n i

get_d-then-zeros : (xs : List ℕ) (n i : ℕ) → get_or (xs ++ replicate n 0) i 0 ≡ get_or xs i 0
get_d-then-zeros [] n i = get_d-zeros n i
get_d-then-zeros (x ∷ xs) n zero = refl
get_d-then-zeros (x ∷ xs) n (suc i) = get_d-then-zeros xs n i

-- at every place: past the list stands 0
pub get_d-padded : (room : ℕ) (xs : List ℕ) (i : ℕ) → get_or (padded room xs) i 0 ≡ get_or xs i 0
unfolding padded
get_d-padded room xs i = get_d-then-zeros xs (room - length xs) i

pub set-padded : (room : ℕ) (xs : List ℕ) (i v : ℕ) → i < length xs → set (padded room xs) i v ≡ padded room (set xs i v)
unfolding padded
set-padded room xs i v h = rw (length-set xs i v) (set-append_left xs (replicate (room - length xs) 0) i v h)

-- stores behind the list
pub puts-padded : (room : ℕ) (xs vs : List ℕ) → length xs + length vs ≤ room → puts (padded room xs) (length xs) vs ≡ padded room (xs ++ vs)
unfolding padded
puts-padded room xs vs h =
    let z : List ℕ = replicate (room - (length xs + length vs)) 0 in
    let e : room - length xs ≡ length vs + (room - (length xs + length vs)) = omega arith in
    let i : length xs ≡ length xs + 0 = omega arith in
    let f : puts (xs ++ (replicate (length vs) 0 ++ z)) (length xs + 0) vs ≡ xs ++ (vs ++ z) =
    puts-behind xs (replicate (length vs) 0 ++ z) (length xs) 0 vs refl
    ∙ ap (λ (r : List ℕ). xs ++ r) (puts-front (replicate (length vs) 0) z vs (length-replicate (length vs) 0))
    in
    rw (length-append xs vs, e, append_assoc xs vs z, ← replicate-append-replicate {A = ℕ} (length vs) (room - (length xs + length vs)) 0)
    (ap (λ (k : ℕ). puts (xs ++ (replicate (length vs) 0 ++ z)) k vs) i ∙ f)

-- zeros stored over the last values
pub clear-padded : (room : ℕ) (xs vs : List ℕ) → length xs + length vs ≤ room
    → puts (padded room (xs ++ vs)) (length xs) (replicate (length vs) 0) ≡ padded room xs
unfolding padded
clear-padded room xs vs h =
    let z : List ℕ = replicate (room - (length xs + length vs)) 0 in
    let e : room - length xs ≡ length vs + (room - (length xs + length vs)) = omega arith in
    let i : length xs ≡ length xs + 0 = omega arith in
    let f : puts (xs ++ (vs ++ z)) (length xs + 0) (replicate (length vs) 0) ≡ xs ++ (replicate (length vs) 0 ++ z) =
    puts-behind xs (vs ++ z) (length xs) 0 (replicate (length vs) 0) refl
    ∙ ap (λ (r : List ℕ). xs ++ r) (puts-front vs z (replicate (length vs) 0) (sym (length-replicate (length vs) 0)))
    in
    rw (length-append xs vs, e, append_assoc xs vs z, ← replicate-append-replicate {A = ℕ} (length vs) (room - (length xs + length vs)) 0)
    (ap (λ (k : ℕ). puts (xs ++ (vs ++ z)) k (replicate (length vs) 0)) i ∙ f)

pub set-behind-padded : (room : ℕ) (xs : List ℕ) (v : ℕ) → length xs < room → set (padded room xs) (length xs) v ≡ padded room (xs ++ (v ∷ []))
set-behind-padded room xs v h = puts-padded room xs (v ∷ []) (omega arith)

pub take-padded : (room : ℕ) (xs ys : List ℕ) → take (length xs) (padded room xs ++ ys) ≡ xs
unfolding padded
take-padded room xs ys = rw (append_assoc xs (replicate (room - length xs) 0) ys) (take_at xs _ (length xs) refl)

-- k zeros more or less at the list's end
pub padded-more : (room : ℕ) (xs : List ℕ) (k : ℕ) → length xs + k ≤ room → padded room xs ≡ padded room (xs ++ replicate k 0)
unfolding padded
padded-more room xs k h =
    let n = room - (length xs + k) in
    let e : room - length xs ≡ k + n = omega arith in
    rw (length-append xs (replicate k 0), length-replicate {A = ℕ} k 0, append_assoc xs (replicate k 0) (replicate n 0), e) (ap (λ (r : List ℕ). xs ++ r) (sym (replicate-append-replicate k n 0)))

-- a lent part that is the list, between p and r, and what comes back
pub mid-padded : (p xs r : List ℕ) (room a k : ℕ) → length p ≡ a → length xs ≡ k → mid_of a k (p ++ (padded room xs ++ r)) ≡ xs
unfolding padded
mid-padded p xs r room a k e f =
    rw (drop_at p ((xs ++ replicate (room - length xs) 0) ++ r) a e, append_assoc xs (replicate (room - length xs) 0) r)
    (take_at xs (replicate (room - length xs) 0 ++ r) k f)

pub put-padded : (p xs ys r : List ℕ) (room a k : ℕ) → length p ≡ a → length xs ≡ k → length ys ≡ length xs
    → put_mid a k (p ++ (padded room xs ++ r)) ys ≡ p ++ (padded room ys ++ r)
unfolding padded
put-padded p xs ys r room a k e f g =
    rw (
      take_at p ((xs ++ replicate (room - length xs) 0) ++ r) a e,
      drop_at p ((xs ++ replicate (room - length xs) 0) ++ r) a e,
      append_assoc xs (replicate (room - length xs) 0) r,
      drop_at xs (replicate (room - length xs) 0 ++ r) k f,
      g,
      append_assoc ys (replicate (room - length xs) 0) r,
    )

-- ---- facts of each entry

module _ {A : Type 0} where
  pub each-get_d : (P : A → Type 0) (l : List A) (i : ℕ) (d : A) → Each P l → i < length l → P (get_or l i d)
  each-get_d P [] i d h k = absurd (not-suc-le-zero k)
  each-get_d P (x ∷ l) zero d h k = h.0
  each-get_d P (x ∷ l) (suc i) d h k = each-get_d P l i d h.1 (le_of_suc-le-suc k)

  pub each_set : (P : A → Type 0) (l : List A) (i : ℕ) (a : A) → Each P l → P a → Each P (set l i a)
  each_set P [] i a h p = tt
  each_set P (x ∷ l) zero a h p = (p, h.1)
  each_set P (x ∷ l) (suc i) a h p = (h.0, each_set P l i a h.1 p)

  pub each_append : (P : A → Type 0) (l m : List A) → Each P l → Each P m → Each P (l ++ m)
  each_append P [] m h k = k
  each_append P (x ∷ l) m h k = (h.0, each_append P l m h.1 k)

  pub each_all : (P : A → Type 0) (l : List A) → ((a : A) → P a) → Each P l
  each_all P [] f = tt
  each_all P (x ∷ l) f = (f x, each_all P l f)

  pub each-imp : (P Q : A → Type 0) (l : List A) → ((a : A) → P a → Q a) → Each P l → Each Q l
  each-imp P Q [] f h = tt
  each-imp P Q (x ∷ l) f h = (f x h.0, each-imp P Q l f h.1)

  pub each_both : (P Q : A → Type 0) (l : List A) → Each P l → Each Q l → Each (λ (a : A). P a × Q a) l
  each_both P Q [] h k = tt
  each_both P Q (x ∷ l) h k = ((h.0, k.0), each_both P Q l h.1 k.1)

  pub each_take : (P : A → Type 0) (n : ℕ) (l : List A) → Each P l → Each P (take n l)
  each_take P zero l h = tt
  each_take P (suc n) [] h = tt
  each_take P (suc n) (x ∷ l) h = (h.0, each_take P n l h.1)

  pub each-reverse : (P : A → Type 0) (l : List A) → Each P l → Each P (reverse l)
  each-reverse P [] h = tt
  each-reverse P (x ∷ l) h = rw (reverse-cons x l) (each_append P (reverse l) (x ∷ []) (each-reverse P l h.1) (h.0, tt))

pub each_map : {A B : Type 0} (P : B → Type 0) (f : A → B) (l : List A) → Each (λ (a : A). P (f a)) l → Each P (map f l)
each_map P f [] h = tt
each_map P f (x ∷ l) h = (h.0, each_map P f l h.1)

-- ---- rows of width w

module _ {A : Type 0} (w : ℕ) (enc : A → List ℕ) (wide : (a : A) → length (enc a) ≡ w) where
  pub length-rows : (l : List A) → length (row_cells enc l) ≡ length l * w
  unfolding row_cells
  length-rows [] = sym (zero-mul w)
  length-rows (a ∷ l) = rw (length-append, wide a, suc-mul, length-rows l) (omega arith)

  at_next : (i j : ℕ) → suc i * w + j ≡ w + (i * w + j)
  at_next i j = rw (suc-mul i w) (omega arith)

  get_d-rows-then : (l : List A) (r : List ℕ) (i j : ℕ) (d : A) → i < length l → j < w
      → get_or (row_cells enc l ++ r) (i * w + j) 0 ≡ get_or (enc (get_or l i d)) j 0
  unfolding row_cells
  get_d-rows-then [] r i j d h k = absurd (not-suc-le-zero h)
  get_d-rows-then (a ∷ l) r zero j d h k =
      rw (zero-mul w, zero-add j, append_assoc) (get_or-append (enc a) _ 0 j (rw (wide a) k))
  get_d-rows-then (a ∷ l) r (suc i) j d h k =
      rw (at_next i j, append_assoc)
      (get_d-behind (enc a) (row_cells enc l ++ r) w (i * w + j) 0 (wide a) ∙ get_d-rows-then l r i j d (le_of_suc-le-suc h) k)

  -- row i
  row-then : (l : List A) (r : List ℕ) (i : ℕ) (d : A) → i < length l → take w (drop (i * w) (row_cells enc l ++ r)) ≡ enc (get_or l i d)
  unfolding row_cells
  row-then [] r i d h = absurd (not-suc-le-zero h)
  row-then (a ∷ l) r zero d h = rw (zero-mul w, append_assoc) (take_at (enc a) (row_cells enc l ++ r) w (wide a))
  row-then (a ∷ l) r (suc i) d h =
      let e : suc i * w ≡ w + i * w = rw (suc-mul i w) (omega arith) in
      rw (e, ← drop-drop (i * w) w ((enc a ++ row_cells enc l) ++ r), append_assoc, drop_at (enc a) (row_cells enc l ++ r) w (wide a))
      (row-then l r i d (le_of_suc-le-suc h))

  -- another row stored over row i
  put-row-then : (l : List A) (r : List ℕ) (i : ℕ) (b : A) → i < length l
      → puts (row_cells enc l ++ r) (i * w) (enc b) ≡ row_cells enc (set l i b) ++ r
  unfolding row_cells
  put-row-then [] r i b h = absurd (not-suc-le-zero h)
  put-row-then (a ∷ l) r zero b h =
      rw (zero-mul w, append_assoc (enc a) (row_cells enc l) r, append_assoc (enc b) (row_cells enc l) r)
      (puts-front (enc a) (row_cells enc l ++ r) (enc b) (wide a ∙ sym (wide b)))
  put-row-then (a ∷ l) r (suc i) b h =
      let e : suc i * w ≡ w + i * w = rw (suc-mul i w) (omega arith) in
      rw (e, append_assoc (enc a) (row_cells enc l) r, append_assoc (enc a) (row_cells enc (set l i b)) r)
      (puts-behind (enc a) (row_cells enc l ++ r) w (i * w) (enc b) (wide a)
      ∙ ap (λ (s : List ℕ). enc a ++ s) (put-row-then l r i b (le_of_suc-le-suc h)))

  pub rows_append : (l : List A) (b : A) → row_cells enc (l ++ (b ∷ [])) ≡ row_cells enc l ++ enc b
  unfolding row_cells
  rows_append [] b = append-nil (enc b)
  rows_append (a ∷ l) b = rw (append_assoc, rows_append l b)

  -- ---- an area of rows

  pub fits-rows : (room : ℕ) (l : List A) → length l ≤ room → length (row_cells enc l) ≤ room * w
  fits-rows room l h = rw (length-rows l) (mul-le-mul_right w h)

  pub length-cells : (room : ℕ) (l : List A) → length l ≤ room → length (cells w room enc l) ≡ room * w
  unfolding cells
  length-cells room l h = length-padded (room * w) (row_cells enc l) (fits-rows room l h)

  -- field j of row i
  pub get_d-cells : (room : ℕ) (l : List A) (i j : ℕ) (d : A) → i < length l → j < w
      → get_or (cells w room enc l) (i * w + j) 0 ≡ get_or (enc (get_or l i d)) j 0
  unfolding cells padded
  get_d-cells room l i j d h k = get_d-rows-then l _ i j d h k

  pub row_at-cells : (room : ℕ) (l : List A) (i : ℕ) (d : A) → i < length l → row_at w i (cells w room enc l) ≡ enc (get_or l i d)
  unfolding cells padded
  row_at-cells room l i d h = row-then l _ i d h

  pub put-cells : (room : ℕ) (l : List A) (i : ℕ) (b : A) → i < length l
      → puts (cells w room enc l) (i * w) (enc b) ≡ cells w room enc (set l i b)
  unfolding cells padded
  put-cells room l i b h = rw (length-rows (set l i b), length-set l i b, ← length-rows l) (put-row-then l _ i b h)

  -- a row stored behind the last one
  pub puts-cells : (room : ℕ) (l : List A) (b : A) → length l < room
      → puts (cells w room enc l) (length l * w) (enc b) ≡ cells w room enc (l ++ (b ∷ []))
  unfolding cells
  puts-cells room l b h =
      let k : suc (length l) * w ≤ room * w = mul-le-mul_right w h in
      let f : length (row_cells enc l) + length (enc b) ≤ room * w = rw (length-rows l, wide b, ← suc-mul (length l) w) k in
      rw (rows_append l b, ← length-rows l) (puts-padded (room * w) (row_cells enc l) (enc b) f)

  -- zeros stored over the last row
  pub clear-cells : (room : ℕ) (l : List A) (b : A) → length l < room
      → puts (cells w room enc (l ++ (b ∷ []))) (length l * w) (replicate w 0) ≡ cells w room enc l
  unfolding cells
  clear-cells room l b h =
      let k : suc (length l) * w ≤ room * w = mul-le-mul_right w h in
      let f : length (row_cells enc l) + length (enc b) ≤ room * w = rw (length-rows l, wide b, ← suc-mul (length l) w) k in
      rw (rows_append l b, ← length-rows l)
      (ap (λ (k : ℕ). puts (padded (room * w) (row_cells enc l ++ enc b)) (length (row_cells enc l)) (replicate k 0)) (sym (wide b))
      ∙ clear-padded (room * w) (row_cells enc l) (enc b) f)

  -- ---- an area of rows between the n cells of p and the cells of q

  last_fits : (room : ℕ) (l : List A) → length l < room → length l * w + w ≤ room * w
  last_fits room l h =
      let k : suc (length l) * w ≤ room * w = mul-le-mul_right w h in
      rw (suc-mul (length l) w) at k

  pub row_fits : (room i j : ℕ) → i < room → j < w → i * w + j < room * w
  row_fits room i j h g =
      let k : suc i * w ≤ room * w = mul-le-mul_right w h in
      let m : i * w + w ≤ room * w = rw (suc-mul i w) at k in
      omega arith

  -- field j of row i
  pub read-row : (p q : List ℕ) (n room : ℕ) (l : List A) (i j : ℕ) (d : A) → length p ≡ n → length l ≤ room → i < length l → j < w
      → get_or (p ++ (cells w room enc l ++ q)) (n + (i * w + j)) 0 ≡ get_or (enc (get_or l i d)) j 0
  read-row p q n room l i j d e s h k =
      let f : i * w + j < length (cells w room enc l) = rw (length-cells room l s) (row_fits room i j (omega arith) k) in
      get_d-inside p (cells w room enc l) q n (i * w + j) 0 e f ∙ get_d-cells room l i j d h k

  -- a row stored behind the last one
  pub append-row : (p q : List ℕ) (n room : ℕ) (l : List A) (b : A) → length p ≡ n → length l < room
      → puts (p ++ (cells w room enc l ++ q)) (n + length l * w) (enc b) ≡ p ++ (cells w room enc (l ++ (b ∷ [])) ++ q)
  append-row p q n room l b e h =
      let f : length l * w + length (enc b) ≤ length (cells w room enc l) =
      rw (length-cells room l (omega arith), wide b) (last_fits room l h)
      in
      puts-inside p (cells w room enc l) q n (length l * w) (enc b) e f ∙ ap (λ (r : List ℕ). p ++ (r ++ q)) (puts-cells room l b h)

  -- m is the count, vs the row's cells, and ys the table xs with them behind the last row
  pub appended : (xs p q ys vs : List ℕ) (n room m : ℕ) (l : List A) (b : A) → xs ≡ p ++ (cells w room enc l ++ q) → length p ≡ n → length l < room
      → m ≡ length l → enc b ≡ vs → ys ≡ puts xs (n + m * w) vs → ys ≡ p ++ (cells w room enc (l ++ (b ∷ [])) ++ q)
  appended xs p q ys vs n room m l b x e h c v y =
      rw (y, c, ← v) (ap (λ (z : List ℕ). puts z (n + length l * w) (enc b)) x ∙ append-row p q n room l b e h)

  -- the last row cleared
  pub clear-row : (p q : List ℕ) (n room : ℕ) (l : List A) (b : A) → length p ≡ n → length l < room
      → puts (p ++ (cells w room enc (l ++ (b ∷ [])) ++ q)) (n + length l * w) (replicate w 0) ≡ p ++ (cells w room enc l ++ q)
  clear-row p q n room l b e h =
      let g : length (l ++ (b ∷ [])) ≤ room = simp length-append (omega arith) in
      let f : length l * w + length (replicate {A = ℕ} w 0) ≤ length (cells w room enc (l ++ (b ∷ []))) =
      rw (length-cells room (l ++ (b ∷ [])) g, length-replicate {A = ℕ} w 0) (last_fits room l h)
      in
      puts-inside p (cells w room enc (l ++ (b ∷ []))) q n (length l * w) (replicate w 0) e f
      ∙ ap (λ (r : List ℕ). p ++ (r ++ q)) (clear-cells room l b h)

  -- the same in a table's last area

  pub read-last : (p : List ℕ) (n room : ℕ) (l : List A) (i j : ℕ) (d : A) → length p ≡ n → length l ≤ room → i < length l → j < w
      → get_or (p ++ cells w room enc l) (n + (i * w + j)) 0 ≡ get_or (enc (get_or l i d)) j 0
  read-last p n room l i j d e s h k = rw (append-nil (cells w room enc l)) at (read-row p [] n room l i j d e s h k)

  -- the last k cells of row i
  pub part-last : (p : List ℕ) (n room : ℕ) (l : List A) (i j k : ℕ) (d : A) → length p ≡ n → i < length l → j + k ≡ w
      → take k (drop (n + (i * w + j)) (p ++ cells w room enc l)) ≡ drop j (enc (get_or l i d))
  part-last p n room l i j k d e h f =
      let ys = cells w room enc l in
      rw (← drop-drop (i * w + j) n (p ++ ys), drop_at p ys n e, ← drop-drop j (i * w) ys)
      (sym (drop-part (drop (i * w) ys) j k w f) ∙ ap (drop j) (row_at-cells room l i d h))

  -- another row stored over row i
  pub put_last : (p : List ℕ) (n room : ℕ) (l : List A) (i : ℕ) (b : A) → length p ≡ n → i < length l
      → puts (p ++ cells w room enc l) (n + i * w) (enc b) ≡ p ++ cells w room enc (set l i b)
  put_last p n room l i b e h =
      puts-behind p (cells w room enc l) n (i * w) (enc b) e ∙ ap (λ (r : List ℕ). p ++ r) (put-cells room l i b h)

  pub append-last : (p : List ℕ) (n room : ℕ) (l : List A) (b : A) → length p ≡ n → length l < room
      → puts (p ++ cells w room enc l) (n + length l * w) (enc b) ≡ p ++ cells w room enc (l ++ (b ∷ []))
  append-last p n room l b e h =
      rw (append-nil (cells w room enc l), append-nil (cells w room enc (l ++ (b ∷ [])))) at (append-row p [] n room l b e h)

  pub appended-last : (xs p ys vs : List ℕ) (n room m : ℕ) (l : List A) (b : A) → xs ≡ p ++ cells w room enc l → length p ≡ n → length l < room
      → m ≡ length l → enc b ≡ vs → ys ≡ puts xs (n + m * w) vs → ys ≡ p ++ cells w room enc (l ++ (b ∷ []))
  appended-last xs p ys vs n room m l b x e h c v y =
      rw (y, c, ← v) (ap (λ (z : List ℕ). puts z (n + length l * w) (enc b)) x ∙ append-last p n room l b e h)

  pub clear-last : (p : List ℕ) (n room : ℕ) (l : List A) (b : A) → length p ≡ n → length l < room
      → puts (p ++ cells w room enc (l ++ (b ∷ []))) (n + length l * w) (replicate w 0) ≡ p ++ cells w room enc l
  clear-last p n room l b e h =
      rw (append-nil (cells w room enc l), append-nil (cells w room enc (l ++ (b ∷ [])))) at (clear-row p [] n room l b e h)

  -- ---- reading rows back

  module _ (dec : List ℕ → A) where
    pub rows_back : (l : List A) (r : List ℕ) → Each (λ (a : A). dec (enc a) ≡ a) l → rows_of w (length l) dec (row_cells enc l ++ r) ≡ l
    unfolding row_cells rows_of
    rows_back [] r h = refl
    rows_back (a ∷ l) r h =
        rw (append_assoc, take_at (enc a) (row_cells enc l ++ r) w (wide a), drop_at (enc a) (row_cells enc l ++ r) w (wide a), h.0, rows_back l r h.1)

    -- also where other areas stand behind
    pub cells-back : (room : ℕ) (l : List A) (r : List ℕ) → Each (λ (a : A). dec (enc a) ≡ a) l
        → rows_of w (length l) dec (cells w room enc l ++ r) ≡ l
    unfolding cells padded
    cells-back room l r h = rw append_assoc (rows_back l _ h)

    pub last-back : (room : ℕ) (l : List A) → Each (λ (a : A). dec (enc a) ≡ a) l → rows_of w (length l) dec (cells w room enc l) ≡ l
    last-back room l h = rw (append-nil (cells w room enc l)) at (cells-back room l [] h)

    pub length-rows_of : (n : ℕ) (xs : List ℕ) → length (rows_of w n dec xs) ≡ n
    unfolding rows_of
    length-rows_of zero xs = refl
    length-rows_of (suc n) xs = ap suc (length-rows_of n (drop w xs))

    row_at-next : (i : ℕ) (xs : List ℕ) → row_at w (suc i) xs ≡ row_at w i (drop w xs)
    row_at-next i xs =
        let e : suc i * w ≡ w + i * w = rw (suc-mul i w) (omega arith) in
        rw (e, drop-drop (i * w) w xs)

    row_at-first : (xs : List ℕ) → row_at w zero xs ≡ take w xs
    row_at-first xs = rw (zero-mul w)

    pub get_d-rows_of : (n i : ℕ) (xs : List ℕ) (d : A) → i < n → get_or (rows_of w n dec xs) i d ≡ dec (row_at w i xs)
    unfolding rows_of
    get_d-rows_of zero i xs d h = absurd (not-suc-le-zero h)
    get_d-rows_of (suc n) zero xs d h = ap dec (sym (row_at-first xs))
    get_d-rows_of (suc n) (suc i) xs d h = get_d-rows_of n i (drop w xs) d (le_of_suc-le-suc h) ∙ ap dec (sym (row_at-next i xs))

    -- rows that are read and written again
    pub rows-again : (n : ℕ) (xs : List ℕ) → ((i : ℕ) → i < n → enc (dec (row_at w i xs)) ≡ row_at w i xs)
        → row_cells enc (rows_of w n dec xs) ≡ take (n * w) xs
    unfolding row_cells rows_of
    rows-again zero xs h = rw (zero-mul w)
    rows-again (suc n) xs h =
        let e : suc n * w ≡ w + n * w = rw (suc-mul n w) (omega arith) in
        let f : enc (dec (take w xs)) ≡ take w xs = rw (← row_at-first xs) (h zero (omega arith)) in
        let g : (i : ℕ) → i < n → enc (dec (row_at w i (drop w xs))) ≡ row_at w i (drop w xs) =
        λ i k. rw (← row_at-next i xs) (h (suc i) (omega arith))
        in
        rw (e, take-add w (n * w) xs, f, rows-again n (drop w xs) g)

    -- an area whose rows are well formed, with zeros behind them, is the encoding of what it says
    pub cells-again : (room n : ℕ) (xs : List ℕ) → length xs ≡ room * w → n ≤ room
        → ((i : ℕ) → i < n → enc (dec (row_at w i xs)) ≡ row_at w i xs)
        → drop (n * w) xs ≡ replicate (room * w - n * w) 0
        → cells w room enc (rows_of w n dec xs) ≡ xs
    unfolding cells padded
    cells-again room n xs e h f z =
        let k : n * w ≤ length xs = rw e (mul-le-mul_right w h) in
        rw (rows-again n xs f, length-take-le (n * w) xs k, ← z) (take-append-drop (n * w) xs)
