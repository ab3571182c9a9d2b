-- Laws of an index: its length, its heads and links as the latest rows of a bucket, one row more. Assumes nothing.
use mathlib.Core.Bool.{Bool, true, false}
use mathlib.Core.List.{List, [], ◌∷◌, ◌++◌}
use mathlib.Core.Path.{◌≡◌, refl, sym, ap, ◌∙◌}
use Prim.Native.Nat.{ℕ, zero, suc, ◌+◌, ◌%◌, ◌≤◌, ◌<◌}
use native.Mathlib.Nat.{add-zero}
use native.Mathlib.Numerals.{add-one}
use native.Mathlib.Omega.{arith}
use borrow.Author.Tests.{eqb-true, eqb-false}
use lib.Dec.{eqb}
use lib.ListN.{length, get_or, set, drop, length-append, length-set, length-replicate, drop_of_length-le, get_or-append}
use lib.Seq.{get_or-set_same, get_or-set_other}
use Rattle.std.specs.Prelude as program_option
use Rattle.std.specs.Prelude.{Some, None}
use Rattle.tables.specs.Index.{place_number, buckets, index_size, bucket, path_bucket, latest, linked_at, linked, empty_index, index_cells}
use Rattle.tables.specs.Paths.{front, cells_of}
use Rattle.tables.specs.Records.{SchemaPath}
use Rattle.tables.specs.declared.path.Path.{Path}
use Rattle.tables.proofs.Laws.Cells.{set-inside, get_d-behind, get_d-inside, get_d-zeros}
use Rattle.tables.proofs.Laws.Paths.{parts, parts-at}

-- ---- buckets

pub bucket-below : (a b : ℕ) → bucket a b < buckets
unfolding bucket
bucket-below a b = omega arith

pub path-bucket-below : (k : ℕ) (p : SchemaPath) → path_bucket k p < buckets
unfolding path_bucket
path-bucket-below k [] = omega arith
path-bucket-below k (a ∷ p) = path-bucket-below (bucket k (suc a)) p

-- ---- the latest row of a bucket

pub place-none : (p : program_option.Option ℕ) → ((i : ℕ) → p ≡ Some i → ⊥) → place_number p ≡ 0
place-none (Some i) h = absurd (h i refl)
place-none None h = refl

pub latest-most : (key : ℕ → ℕ) (b n : ℕ) → latest key b n ≤ n
unfolding latest
latest-most key b zero = omega arith
latest-most key b (suc n) = go (eqb (key n) b) (latest-most key b n)
  where
    go : (t : Bool) → latest key b n ≤ n → elim t [ true ↦ suc n | false ↦ latest key b n ] ≤ suc n
    go true h = omega arith
    go false h = omega arith

-- ---- cells

pub length-index : (key : ℕ → ℕ) (n : ℕ) → length (index_cells key n) ≡ index_size
unfolding index_cells empty_index
length-index key zero = length-replicate {A = ℕ} index_size 0
length-index key (suc n) = simp length-set (length-index key n)

-- keys that agree below n
pub index_agrees : (key other : ℕ → ℕ) (n : ℕ) → ((i : ℕ) → i < n → key i ≡ other i) → index_cells key n ≡ index_cells other n
unfolding index_cells
index_agrees key other zero h = refl
index_agrees key other (suc n) h = rw (index_agrees key other n (λ i k. h i (omega arith)), h n (omega arith))

-- one row more
pub index-added : {A : Type 0} (key : A → ℕ) (l : List A) (r d : A) (m b : ℕ) → m ≡ length l → b ≡ key r
    → linked (index_cells (λ (i : ℕ). key (get_or l i d)) (length l)) m b
    ≡ index_cells (λ (i : ℕ). key (get_or (l ++ (r ∷ [])) i d)) (length (l ++ (r ∷ [])))
unfolding index_cells
index-added key l r d m b e f =
    let more : ℕ → ℕ = λ (i : ℕ). key (get_or (l ++ (r ∷ [])) i d) in
    let before = index_agrees (λ (i : ℕ). key (get_or l i d)) more (length l) (λ i h. ap key (sym (get_or-append l (r ∷ []) d i h))) in
    let last : get_or (l ++ (r ∷ [])) (length l) d ≡ r =
    ap (λ (n : ℕ). get_or (l ++ (r ∷ [])) n d) (sym (add-zero (length l))) ∙ get_d-behind l (r ∷ []) (length l) 0 d refl
    in
    let size : suc (length l) ≡ length (l ++ (r ∷ [])) = sym (length-append l (r ∷ []) ∙ add-one (length l)) in
    rw (before, e, f ∙ ap key (sym last)) (ap (index_cells more) size)

-- ---- heads and links

module _ (xs : List ℕ) (n b : ℕ) (size : length xs ≡ index_size) (below : b < buckets) where
  head-same : get_or (linked xs n b) b 0 ≡ n + 1
  head-same = get_or-set_same (set xs (buckets + n) (get_or xs b 0)) b (n + 1) 0 (simp length-set (omega arith))

  head-other : (c : ℕ) → c < buckets → (c ≡ b → ⊥) → get_or (linked xs n b) c 0 ≡ get_or xs c 0
  head-other c h k =
      get_or-set_other (set xs (buckets + n) (get_or xs b 0)) b c (n + 1) 0 k
      ∙ get_or-set_other xs (buckets + n) c (get_or xs b 0) 0 (λ e. omega arith)

  link-same : n < 512 → get_or (linked xs n b) (buckets + n) 0 ≡ get_or xs b 0
  link-same h =
      get_or-set_other (set xs (buckets + n) (get_or xs b 0)) b (buckets + n) (n + 1) 0 (λ e. omega arith)
      ∙ get_or-set_same xs (buckets + n) (get_or xs b 0) 0 (omega arith)

  link-other : (i : ℕ) → (i ≡ n → ⊥) → get_or (linked xs n b) (buckets + i) 0 ≡ get_or xs (buckets + i) 0
  link-other i k =
      get_or-set_other (set xs (buckets + n) (get_or xs b 0)) b (buckets + i) (n + 1) 0 (λ e. omega arith)
      ∙ get_or-set_other xs (buckets + n) (buckets + i) (get_or xs b 0) 0 (λ e. k (omega arith))

module _ (key : ℕ → ℕ) (below : (i : ℕ) → key i < buckets) where
  pub head-is : (b n : ℕ) → b < buckets → get_or (index_cells key n) b 0 ≡ latest key b n
  unfolding index_cells empty_index latest
  head-is b zero h = get_d-zeros index_size b
  head-is b (suc n) h = go (eqb (key n) b) refl (head-is b n h)
    where
      go : (t : Bool) → eqb (key n) b ≡ t → get_or (index_cells key n) b 0 ≡ latest key b n
          → get_or (linked (index_cells key n) n (key n)) b 0 ≡ elim t [ true ↦ suc n | false ↦ latest key b n ]
      go true e r =
          ap (λ (c : ℕ). get_or (linked (index_cells key n) n (key n)) c 0) (sym (eqb-true (key n) b e))
          ∙ head-same (index_cells key n) n (key n) (length-index key n) (below n)
          ∙ add-one n
      go false e r = head-other (index_cells key n) n (key n) (length-index key n) (below n) b h (λ f. eqb-false (key n) b e (sym f)) ∙ r

  pub link-is : (i n : ℕ) → i < n → n ≤ 512 → get_or (index_cells key n) (buckets + i) 0 ≡ latest key (key i) i
  unfolding index_cells
  link-is i zero h k = absurd (omega arith)
  link-is i (suc n) h k = go (eqb i n) refl (λ l. link-is i n l (omega arith))
    where
      go : (t : Bool) → eqb i n ≡ t → (i < n → get_or (index_cells key n) (buckets + i) 0 ≡ latest key (key i) i)
          → get_or (linked (index_cells key n) n (key n)) (buckets + i) 0 ≡ latest key (key i) i
      go true e r =
          let f : i ≡ n = eqb-true i n e in
          rw f (link-same (index_cells key n) n (key n) (length-index key n) (below n) (omega arith) ∙ head-is (key n) n (below n))
      go false e r =
          let f = eqb-false i n e in
          link-other (index_cells key n) n (key n) (length-index key n) (below n) i f ∙ r (omega arith)

-- a row put into an index q between p and r
pub linked-inside : (p q r : List ℕ) (a n b : ℕ) → length p ≡ a → length q ≡ index_size → n < 512 → b < buckets
    → linked_at a (p ++ (q ++ r)) n b ≡ p ++ (linked q n b ++ r)
linked-inside p q r a n b e f h k =
    let v : get_or (p ++ (q ++ r)) (a + b) 0 ≡ get_or q b 0 = get_d-inside p q r a b 0 e (omega arith) in
    rw (v, set-inside p q r a (buckets + n) (get_or q b 0) e (omega arith))
    (set-inside p (set q (buckets + n) (get_or q b 0)) r a b (n + 1) e (simp length-set (omega arith)))

-- ---- a path's bucket, part by part

-- the cells from place i on
pub bucket-end : (k x i : ℕ) (p : Path) → x ≡ get_or (cells_of p) i 0 → x ≡ 0 → path_bucket k (front (drop i (cells_of p))) ≡ k % buckets
unfolding path_bucket parts
bucket-end k x i p e z = rw (parts-at (cells_of p) i, ← e, z)

pub bucket-past : (k i : ℕ) (p : Path) → 4 ≤ i → path_bucket k (front (drop i (cells_of p))) ≡ k % buckets
unfolding path_bucket front
bucket-past k i p h = rw (drop_of_length-le (cells_of p) h)

bucket-parts : (k x : ℕ) (cs : List ℕ) → (x ≡ 0 → ⊥) → path_bucket k (parts x cs) ≡ path_bucket (bucket k x) (front cs)
unfolding path_bucket parts
bucket-parts k zero cs h = absurd (h refl)
bucket-parts k (suc a) cs h = refl

pub bucket-next : (k x i : ℕ) (p : Path) → x ≡ get_or (cells_of p) i 0 → (x ≡ 0 → ⊥)
    → path_bucket k (front (drop i (cells_of p))) ≡ path_bucket (bucket k x) (front (drop (i + 1) (cells_of p)))
bucket-next k x i p e h = rw (parts-at (cells_of p) i, ← e) (bucket-parts k x (drop (i + 1) (cells_of p)) h)
