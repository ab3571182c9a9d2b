-- Laws of paths held in cells: their order and shared beginning, part by part. Assumes nothing.
use mathlib.Core.Bool.{Bool, true, false}
use mathlib.Core.List.{List, [], ◌∷◌, drop_last}
use mathlib.Core.Path.{◌≡◌, refl, sym, ap, ◌∙◌}
use Prim.Native.Nat.{ℕ, zero, suc, ◌+◌, ◌≤◌, ◌<◌, compare, Ordering}
use native.Mathlib.Nat.{suc_inj}
use native.Mathlib.Numerals.{add-one}
use native.Mathlib.Omega.{arith}
use lib.Dec.{eqb, eqb-suc-zero, eqb-suc-suc}
use lib.ListN.{length, get_or, drop, drop_of_length-le}
use Rattle.std.specs.declared.cmp.Ordering as program
use Rattle.std.specs.declared.cmp.Ordering.TheVariants.{Less, Equal, Greater}
use Rattle.std.specs.Ordering.{is_eq, is_ne, MatchOrdering}
use Rattle.tables.specs.declared.path.Path.{Path}
use Rattle.tables.specs.Paths.{path_order, same_path, shared_beginning, front, path_cells, cells_of, parts_of, order_of, shares_part}
use Rattle.tables.specs.Records.{SchemaPath}

-- ---- the comparison of two numbers

compare-lt : (a b : ℕ) → a < b → compare a b ≡ Ordering.lt
compare-lt zero zero h = absurd (omega arith)
compare-lt zero (suc b) h = Prim.Native.Nat.compare.zero-suc b
compare-lt (suc a) zero h = absurd (omega arith)
compare-lt (suc a) (suc b) h = Prim.Native.Nat.compare.suc-suc a b ∙ compare-lt a b (omega arith)

compare-gt : (a b : ℕ) → b < a → compare a b ≡ Ordering.gt
compare-gt zero zero h = absurd (omega arith)
compare-gt zero (suc b) h = absurd (omega arith)
compare-gt (suc a) zero h = Prim.Native.Nat.compare.suc-zero a
compare-gt (suc a) (suc b) h = Prim.Native.Nat.compare.suc-suc a b ∙ compare-gt a b (omega arith)

compare-eq : (a : ℕ) → compare a a ≡ Ordering.eq
compare-eq zero = Prim.Native.Nat.compare.zero-zero
compare-eq (suc a) = Prim.Native.Nat.compare.suc-suc a a ∙ compare-eq a

-- ---- the parts from a cell on

-- the parts that one cell and those behind it hold
unfoldable pub parts : ℕ → List ℕ → SchemaPath
parts zero cs = []
parts (suc a) cs = a ∷ front cs

pub parts-at : (cs : List ℕ) (i : ℕ) → front (drop i cs) ≡ parts (get_or cs i 0) (drop (i + 1) cs)
unfolding front parts
parts-at cs i = rw (add-one i) (go cs i)
  where
    go : (cs : List ℕ) (i : ℕ) → front (drop i cs) ≡ parts (get_or cs i 0) (drop (suc i) cs)
    go [] zero = refl
    go [] (suc i) = refl
    go (zero ∷ cs) zero = refl
    go (suc a ∷ cs) zero = refl
    go (c ∷ cs) (suc i) = go cs i

-- ---- order

order-less : (x y : ℕ) (cs ds : List ℕ) → x < y → path_order (parts x cs) (parts y ds) ≡ Ordering.lt
unfolding parts path_order
order-less zero zero cs ds h = absurd (omega arith)
order-less zero (suc b) cs ds h = refl
order-less (suc a) zero cs ds h = absurd (omega arith)
order-less (suc a) (suc b) cs ds h = rw (compare-lt a b (omega arith), path_order)

order-greater : (x y : ℕ) (cs ds : List ℕ) → y < x → path_order (parts x cs) (parts y ds) ≡ Ordering.gt
unfolding parts path_order
order-greater zero zero cs ds h = absurd (omega arith)
order-greater zero (suc b) cs ds h = absurd (omega arith)
order-greater (suc a) zero cs ds h = refl
order-greater (suc a) (suc b) cs ds h = rw (compare-gt a b (omega arith), path_order)

order-end : (x y : ℕ) (cs ds : List ℕ) → x ≡ y → x ≡ 0 → path_order (parts x cs) (parts y ds) ≡ Ordering.eq
unfolding parts path_order
order-end zero zero cs ds e z = refl
order-end zero (suc b) cs ds e z = absurd (omega arith)
order-end (suc a) y cs ds e z = absurd (omega arith)

order-next : (x y : ℕ) (cs ds : List ℕ) → x ≡ y → (x ≡ 0 → ⊥) → path_order (parts x cs) (parts y ds) ≡ path_order (front cs) (front ds)
unfolding parts path_order
order-next zero y cs ds e n = absurd (n refl)
order-next (suc a) zero cs ds e n = absurd (omega arith)
order-next (suc a) (suc b) cs ds e n =
    let q : compare a b ≡ Ordering.eq = rw (suc_inj e) (compare-eq b) in
    rw (q, path_order)

pub same-order : (p q : SchemaPath) → same_path p q ≡ is_eq (order_of (path_order p q))
unfolding same_path order_of
same-order p q = go (path_order p q)
  where
    go : (o : Ordering) → ◌≡◌ {A = Bool} (elim o [ Ordering.lt ↦ false | Ordering.eq ↦ true | Ordering.gt ↦ false ]) (is_eq (order_of o))
    go Ordering.lt = refl
    go Ordering.eq = refl
    go Ordering.gt = refl

-- ---- one turn of a walk over two paths' cells

module _ (p q : Path) (i : ℕ) where
  pub order-past : 4 ≤ i → path_order (front (drop i (cells_of p))) (front (drop i (cells_of q))) ≡ Ordering.eq
  unfolding front path_order
  order-past h = rw (drop_of_length-le (cells_of p) h, drop_of_length-le (cells_of q) h)

  module _ {x y : ℕ} (ex : x ≡ get_or (cells_of p) i 0) (ey : y ≡ get_or (cells_of q) i 0) where
    here : front (drop i (cells_of p)) ≡ parts x (drop (i + 1) (cells_of p))
    here = parts-at (cells_of p) i ∙ ap (λ (k : ℕ). parts k (drop (i + 1) (cells_of p))) (sym ex)

    there : front (drop i (cells_of q)) ≡ parts y (drop (i + 1) (cells_of q))
    there = parts-at (cells_of q) i ∙ ap (λ (k : ℕ). parts k (drop (i + 1) (cells_of q))) (sym ey)

    -- the comparison of the two cells decides, or both paths end
    pub order-found : (r : program.Ordering) → MatchOrdering r (x < y) (x ≡ y) (y < x) → (is_ne r ≡ false → x ≡ 0)
        → r ≡ order_of (path_order (front (drop i (cells_of p))) (front (drop i (cells_of q))))
    unfolding order_of
    order-found Less h z = rw (here, there, order-less x y (drop (i + 1) (cells_of p)) (drop (i + 1) (cells_of q)) h)
    order-found Equal h z = rw (here, there, order-end x y (drop (i + 1) (cells_of p)) (drop (i + 1) (cells_of q)) h (z refl))
    order-found Greater h z = rw (here, there, order-greater x y (drop (i + 1) (cells_of p)) (drop (i + 1) (cells_of q)) h)

    pub order-next-at : (r : program.Ordering) → MatchOrdering r (x < y) (x ≡ y) (y < x) → is_ne r ≡ false → (x ≡ 0 → ⊥)
        → path_order (front (drop i (cells_of p))) (front (drop i (cells_of q)))
        ≡ path_order (front (drop (i + 1) (cells_of p))) (front (drop (i + 1) (cells_of q)))
    order-next-at Less h k n = cc
    order-next-at Equal h k n =
        ap (λ (r : SchemaPath). path_order r (front (drop i (cells_of q)))) here
        ∙ ap (path_order (parts x (drop (i + 1) (cells_of p)))) there
        ∙ order-next x y (drop (i + 1) (cells_of p)) (drop (i + 1) (cells_of q)) h n
    order-next-at Greater h k n = cc

-- ---- shared beginning

shares-known : (a b d e : ℕ) → shares_part (suc a) (suc b) (suc d) (suc e) ≡ eqb a d
unfolding shares_part
shares-known a b d e = rw (eqb-suc-zero a, eqb-suc-zero b, eqb-suc-zero e, eqb-suc-suc a d)

-- the walk stops: no part shared, or the last of one path
shared-stop : (x xn y yn : ℕ) (cs ds rs : List ℕ) → shares_part x xn y yn ≡ false
    → front (0 ∷ rs) ≡ shared_beginning (drop_last (front (x ∷ xn ∷ cs))) (drop_last (front (y ∷ yn ∷ ds)))
unfolding front shared_beginning
shared-stop zero xn y yn cs ds rs h = refl
shared-stop (suc a) zero y yn cs ds rs h = refl
shared-stop (suc a) (suc b) zero yn cs ds rs h = refl
shared-stop (suc a) (suc b) (suc d) zero cs ds rs h = refl
shared-stop (suc a) (suc b) (suc d) (suc e) cs ds rs h = rw (sym (shares-known a b d e) ∙ h, shared_beginning)

-- one more part is shared
shared-next : (x xn y yn : ℕ) (cs ds rs : List ℕ) → shares_part x xn y yn ≡ true
    → front rs ≡ shared_beginning (drop_last (front (xn ∷ cs))) (drop_last (front (yn ∷ ds)))
    → front (x ∷ rs) ≡ shared_beginning (drop_last (front (x ∷ xn ∷ cs))) (drop_last (front (y ∷ yn ∷ ds)))
unfolding front shared_beginning shares_part
shared-next zero xn y yn cs ds rs h k = cc
shared-next (suc a) zero y yn cs ds rs h k = let z = rw (eqb-suc-zero a) at h in cc
shared-next (suc a) (suc b) zero zero cs ds rs h k = let z = rw (eqb-suc-zero a, eqb-suc-zero b) at h in cc
shared-next (suc a) (suc b) zero (suc e) cs ds rs h k = let z = rw (eqb-suc-zero a, eqb-suc-zero b, eqb-suc-zero e) at h in cc
shared-next (suc a) (suc b) (suc d) zero cs ds rs h k = let z = rw (eqb-suc-zero a, eqb-suc-zero b) at h in cc
shared-next (suc a) (suc b) (suc d) (suc e) cs ds rs h k =
    rw (sym (shares-known a b d e) ∙ h, shared_beginning) (ap (λ (p : SchemaPath). a ∷ p) k)

-- a path's last part is not counted
shared_last : (x : ℕ) (q : SchemaPath) (rs : List ℕ) → front (0 ∷ rs) ≡ shared_beginning (drop_last (front (x ∷ []))) q
unfolding front shared_beginning
shared_last zero q rs = refl
shared_last (suc a) q rs = refl

-- the shared beginning by how many parts are shared, last ones not counted
module _ (p q : Path) where
  abbrev shared : SchemaPath
  shared = shared_beginning (drop_last (parts_of p)) (drop_last (parts_of q))

  abbrev first : Bool
  first = shares_part p.0 p.1 q.0 q.1

  abbrev second : Bool
  second = shares_part p.1 p.2 q.1 q.2

  abbrev third : Bool
  third = shares_part p.2 p.3 q.2 q.3

  pub shared-none : first ≡ false → front (0 ∷ 0 ∷ 0 ∷ 0 ∷ []) ≡ shared
  shared-none h = shared-stop p.0 p.1 q.0 q.1 (p.2 ∷ p.3 ∷ []) (q.2 ∷ q.3 ∷ []) (0 ∷ 0 ∷ 0 ∷ []) h

  pub shared-one : first ≡ true → second ≡ false → front (p.0 ∷ 0 ∷ 0 ∷ 0 ∷ []) ≡ shared
  shared-one h k =
      shared-next p.0 p.1 q.0 q.1 (p.2 ∷ p.3 ∷ []) (q.2 ∷ q.3 ∷ []) (0 ∷ 0 ∷ 0 ∷ []) h
      (shared-stop p.1 p.2 q.1 q.2 (p.3 ∷ []) (q.3 ∷ []) (0 ∷ 0 ∷ []) k)

  pub shared-two : first ≡ true → second ≡ true → third ≡ false → front (p.0 ∷ p.1 ∷ 0 ∷ 0 ∷ []) ≡ shared
  shared-two h k l =
      shared-next p.0 p.1 q.0 q.1 (p.2 ∷ p.3 ∷ []) (q.2 ∷ q.3 ∷ []) (p.1 ∷ 0 ∷ 0 ∷ []) h
      (shared-next p.1 p.2 q.1 q.2 (p.3 ∷ []) (q.3 ∷ []) (0 ∷ 0 ∷ []) k
      (shared-stop p.2 p.3 q.2 q.3 [] [] (0 ∷ []) l))

  pub shared-three : first ≡ true → second ≡ true → third ≡ true → front (p.0 ∷ p.1 ∷ p.2 ∷ 0 ∷ []) ≡ shared
  shared-three h k l =
      shared-next p.0 p.1 q.0 q.1 (p.2 ∷ p.3 ∷ []) (q.2 ∷ q.3 ∷ []) (p.1 ∷ p.2 ∷ 0 ∷ []) h
      (shared-next p.1 p.2 q.1 q.2 (p.3 ∷ []) (q.3 ∷ []) (p.2 ∷ 0 ∷ []) k
      (shared-next p.2 p.3 q.2 q.3 [] [] (0 ∷ []) l
      (shared_last p.3 (drop_last (front (q.3 ∷ []))) [])))

-- ---- cells of a path, and back

pub front-cells : (n : ℕ) (p : SchemaPath) → length p ≤ n → front (path_cells n p) ≡ p
unfolding front path_cells
front-cells zero [] h = refl
front-cells zero (a ∷ p) h = absurd (omega arith)
front-cells (suc n) [] h = refl
front-cells (suc n) (a ∷ p) h = ap (λ (q : SchemaPath). a ∷ q) (front-cells n p (omega arith))

pub length-path_cells : (n : ℕ) (p : SchemaPath) → length (path_cells n p) ≡ n
unfolding path_cells
length-path_cells zero p = refl
length-path_cells (suc n) [] = ap suc (length-path_cells n [])
length-path_cells (suc n) (a ∷ p) = ap suc (length-path_cells n p)
