-- Path fields: the parts read so far, and what the rest of the field makes of them. Assumes nothing.
use mathlib.Core.Bool.{Bool, true, false}
use mathlib.Core.List.{List, [], ◌∷◌, ◌++◌, append_assoc, append-nil}
use mathlib.Core.Logic.{⊎_elim}
use mathlib.Core.Option.{Option, none, some, bind}
use mathlib.Core.Path.{◌≡◌, refl, ◌∙◌, ap}
use Prim.Native.Nat.{ℕ, zero, suc, ◌+◌, ◌-◌, ◌≤◌, ◌<◌}
use native.Mathlib.Nat.{sub-zero, eq-or-lt_of_le}
use native.Mathlib.Numerals.{add-one}
use native.Mathlib.Omega.{arith}
use borrow.Author.Tests.{lt-leb}
use lib.Dec.{leb, leb-zero, leb-suc-suc}
use lib.ListN.{length, length-append}
use Rattle.tables.specs.declared.path.Path.{Path}
use Rattle.tables.specs.Paths.{front, parts_of}
use Rattle.tables.specs.Records.{SchemaPath}
use Rattle.deck.specs.Deck.{Part, parts, number, decimal, path_parts, path_field}
use Rattle.tables.specs.Cells.{between}
use Rattle.tables.specs.Limits.{part_limit}
use Rattle.deck.specs.Answers.{whole, part_at, Next}
use Rattle.deck.proofs.Laws.Parts.{parts-some, next-part, last-part}

-- ---- one more part in the cells

abbrev path : ℕ → ℕ → ℕ → ℕ → Path
path a b c d = (a, b, c, d)

module _ (v : ℕ) where
  pub put-0 : (p : Path) → length (parts_of p) ≡ 0 → parts_of (path (v + 1) 0 0 0) ≡ parts_of p ++ (v ∷ [])
  unfolding front
  put-0 p h = go p.0 p.1 p.2 p.3 h
    where
      go : (a b c d : ℕ) → length (front (a ∷ b ∷ c ∷ d ∷ [])) ≡ 0 → parts_of (path (v + 1) 0 0 0) ≡ parts_of (path a b c d) ++ (v ∷ [])
      go zero b c d h = rw (add-one v)
      go (suc a) b c d h = absurd (omega arith)

  pub put_1 : (p : Path) → length (parts_of p) ≡ 1 → parts_of (path p.0 (v + 1) 0 0) ≡ parts_of p ++ (v ∷ [])
  unfolding front
  put_1 p h = go p.0 p.1 p.2 p.3 h
    where
      go : (a b c d : ℕ) → length (front (a ∷ b ∷ c ∷ d ∷ [])) ≡ 1 → parts_of (path a (v + 1) 0 0) ≡ parts_of (path a b c d) ++ (v ∷ [])
      go zero b c d h = absurd (omega arith)
      go (suc a) zero c d h = rw (add-one v)
      go (suc a) (suc b) c d h = absurd (omega arith)

  pub put_2 : (p : Path) → length (parts_of p) ≡ 2 → parts_of (path p.0 p.1 (v + 1) 0) ≡ parts_of p ++ (v ∷ [])
  unfolding front
  put_2 p h = go p.0 p.1 p.2 p.3 h
    where
      go : (a b c d : ℕ) → length (front (a ∷ b ∷ c ∷ d ∷ [])) ≡ 2 → parts_of (path a b (v + 1) 0) ≡ parts_of (path a b c d) ++ (v ∷ [])
      go zero b c d h = absurd (omega arith)
      go (suc a) zero c d h = absurd (omega arith)
      go (suc a) (suc b) zero d h = rw (add-one v)
      go (suc a) (suc b) (suc c) d h = absurd (omega arith)

  pub put_3 : (p : Path) → length (parts_of p) ≡ 3 → parts_of (path p.0 p.1 p.2 (v + 1)) ≡ parts_of p ++ (v ∷ [])
  unfolding front
  put_3 p h = go p.0 p.1 p.2 p.3 h
    where
      go : (a b c d : ℕ) → length (front (a ∷ b ∷ c ∷ d ∷ [])) ≡ 3 → parts_of (path a b c (v + 1)) ≡ parts_of (path a b c d) ++ (v ∷ [])
      go zero b c d h = absurd (omega arith)
      go (suc a) zero c d h = absurd (omega arith)
      go (suc a) (suc b) zero d h = absurd (omega arith)
      go (suc a) (suc b) (suc c) zero h = rw (add-one v)
      go (suc a) (suc b) (suc c) (suc d) h = absurd (omega arith)

pub put_some : (p r : Path) (v : ℕ) → parts_of r ≡ parts_of p ++ (v ∷ []) → 0 < length (parts_of r)
put_some p r v put = rw (put, length-append) (omega arith)

-- ---- the parts that are left

-- at most k parts more, behind those read
unfoldable pub path_rest : ℕ → SchemaPath → List Part → Option SchemaPath
path_rest k ns ps = elim (leb (length ps) k) [ true ↦ bind (path_parts ps) (λ ms. some (ns ++ ms)) | false ↦ none ]

rest-first : (k : ℕ) (p : Part) → path_field k p ≡ path_rest k [] (parts 46 p.start p.bytes)
unfolding path_field path_rest bind
rest-first k p = go (leb (length ps) k) (path_parts ps)
  where
    ps : List Part
    ps = parts 46 p.start p.bytes

    go : (t : Bool) (o : Option SchemaPath)
        → ◌≡◌ {A = Option SchemaPath} (elim t [ true ↦ o | false ↦ none ]) (elim t [ true ↦ bind o (λ ms. some ms) | false ↦ none ])
    go true none = refl
    go true (some ms) = refl
    go false o = refl

module _ (k : ℕ) (ns : SchemaPath) (q : Part) (qs : List Part) where
  rest-bad : decimal part_limit q ≡ none → path_rest k ns (q ∷ qs) ≡ none
  unfolding path_rest path_parts bind
  rest-bad e = go (leb (suc (length qs)) k) (decimal part_limit q) (path_parts qs) e
    where
      go : (t : Bool) (o : Option ℕ) (r : Option SchemaPath) → o ≡ none
          → ◌≡◌ {A = Option SchemaPath}
          (elim t [ true ↦ bind (bind o (λ n. bind r (λ ms. some (n ∷ ms)))) (λ ms. some (ns ++ ms)) | false ↦ none ])
          none
      go true o r e = rw e
      go false o r e = refl

  rest-next : (v : ℕ) → decimal part_limit q ≡ some v → path_rest (suc k) ns (q ∷ qs) ≡ path_rest k (ns ++ (v ∷ [])) qs
  unfolding path_rest path_parts bind
  rest-next v e = rw (path_rest, leb-suc-suc) (go (leb (length qs) k) (decimal part_limit q) (path_parts qs) e)
    where
      go : (t : Bool) (o : Option ℕ) (r : Option SchemaPath) → o ≡ some v
          → ◌≡◌ {A = Option SchemaPath}
          (elim t [ true ↦ bind (bind o (λ n. bind r (λ ms. some (n ∷ ms)))) (λ ms. some (ns ++ ms)) | false ↦ none ])
          (elim t [ true ↦ bind r (λ ms. some ((ns ++ (v ∷ [])) ++ ms)) | false ↦ none ])
      go true o none e = rw e
      go true o (some ms) e = rw (e, append_assoc ns (v ∷ []) ms)
      go false o r e = refl

rest-done : (k : ℕ) (ns : SchemaPath) → path_rest k ns [] ≡ some (ns ++ [])
unfolding path_rest path_parts bind
rest-done k ns = rw (path_rest, leb-zero k)

rest-full : (ns : SchemaPath) (ps : List Part) → 0 < length ps → path_rest 0 ns ps ≡ none
unfolding path_rest
rest-full ns ps h = rw (path_rest, lt-leb (length ps) 0 h)

-- ---- a path field read part by part

-- n parts are in the path's cells, and the others are those behind `at`
pub record PathReading (deck : List ℕ) (start end most : ℕ) (p : Path) (n at : ℕ) : Type 0 where
  pub few : n ≤ most
  pub before : at ≤ end
  pub size : length (parts_of p) ≡ n
  pub left : path_field most (part_at deck start end) ≡ path_rest (most - n) (parts_of p) (parts 46 at (between at end deck))

decimal-bytes : (most : ℕ) (p : Part) → decimal most p ≡ number 10 most (whole p.bytes)
unfolding decimal number
decimal-bytes most p = refl

pub path-start : (deck : List ℕ) (start end most : ℕ) (p : Path) → parts_of p ≡ [] → start ≤ end → PathReading deck start end most p 0 start
path-start deck start end most p e h =
    record {
      few = omega arith;
      before = h;
      size = ap length e;
      left = rw (e, sub-zero most) (rest-first most (part_at deck start end));
    }

pub path-full : (deck : List ℕ) (start end most : ℕ) (p : Path) (n at : ℕ) → PathReading deck start end most p n at → most ≤ n
    → path_field most (part_at deck start end) ≡ none
path-full deck start end most p n at w h =
    let z : most - n ≡ 0 = omega arith in
    w.left ∙ rw z (rest-full (parts_of p) (parts 46 at (between at end deck)) (parts-some 46 at (between at end deck)))

module _ (deck : List ℕ) (start end most : ℕ) (p : Path) (n at e : ℕ) (fits : end ≤ length deck)
    (w : PathReading deck start end most p n at) (h : n < most) (x : Next deck 46 at end e) where
  pub path-bad : number 10 part_limit (whole (between at e deck)) ≡ none → path_field most (part_at deck start end) ≡ none
  path-bad b =
      w.left
      ∙ ⊎_elim
      (λ k. rw (last-part deck 46 at end e fits x (omega arith)) (rest-bad (most - n) (parts_of p) (part_at deck at e) [] (decimal-bytes part_limit (part_at deck at e) ∙ b)))
      (λ k.
      rw (next-part deck 46 at end e fits x k)
      (rest-bad (most - n) (parts_of p) (part_at deck at e) (parts 46 (e + 1) (between (e + 1) end deck)) (decimal-bytes part_limit (part_at deck at e) ∙ b)))
      (eq-or-lt_of_le x.within)

  module _ (v : ℕ) (g : number 10 part_limit (whole (between at e deck)) ≡ some v) (r : Path) (put : parts_of r ≡ parts_of p ++ (v ∷ [])) where
    more : (qs : List Part) → path_rest (most - n) (parts_of p) (part_at deck at e ∷ qs) ≡ path_rest (most - (n + 1)) (parts_of r) qs
    more qs =
        let z : most - n ≡ suc (most - (n + 1)) = omega arith in
        rw (z, put) (rest-next (most - (n + 1)) (parts_of p) (part_at deck at e) qs v (decimal-bytes part_limit (part_at deck at e) ∙ g))

    pub path-last : end ≤ e → path_field most (part_at deck start end) ≡ some (parts_of r)
    path-last k =
        w.left ∙ ap (path_rest (most - n) (parts_of p)) (last-part deck 46 at end e fits x k) ∙ more []
        ∙ rest-done (most - (n + 1)) (parts_of r) ∙ rw append-nil

    pub path-turn : e < end → PathReading deck start end most r (n + 1) (e + 1)
    path-turn k =
        record {
          few = omega arith;
          before = omega arith;
          size = rw (put, length-append, w.size);
          left =
              w.left ∙ ap (path_rest (most - n) (parts_of p)) (next-part deck 46 at end e fits x k)
              ∙ more (parts 46 (e + 1) (between (e + 1) end deck));
        }
