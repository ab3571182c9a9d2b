-- Laws of the search through an index: what the bucket's links lead to is all that can match, and the first place found is the first entry
-- of the list. Assumes nothing.
use mathlib.Core.Bool.{Bool, true, false, ◌&&◌, and-eq-true_iff}
use mathlib.Core.List.{List, [], ◌∷◌, ◌++◌}
use mathlib.Core.Option.{Option, none, some, none-ne-some}
use mathlib.Core.Path.{◌≡◌, refl, sym, ap, ◌∙◌}
use Prim.Native.Nat.{ℕ, zero, suc, ◌≤◌, ◌<◌}
use native.Mathlib.Omega.{arith}
use borrow.Author.Tests.{eqb-true, eqb-false, lt-ltb, le-ltb}
use lib.Dec.{eqb, ltb}
use lib.ListN.{length, get_or, take}
use lib.Seq.{take-suc, take_all}
use Rattle.tables.specs.Index.{latest, bucket, path_bucket}
use Rattle.tables.specs.Lists.{any_of, first_of}
use Rattle.tables.specs.Paths.{same_path, parts_of}
use Rattle.tables.specs.Records.{SchemaPath, SubElement, Schema}
use Rattle.tables.specs.SchemaTable.{name_key, key_in, no_group, no_sub_element}
use Rattle.tables.specs.declared.index.Index.{Index}
use Rattle.tables.specs.declared.index.Index.TheVariants.{Groups, Names, Paths}
use Rattle.tables.proofs.Laws.Cases.{bool-split}
use Rattle.tables.proofs.Laws.Index.{latest-most}
use Rattle.deck.specs.Schema.{meets}
use Rattle.schema_calls.specs.Calls.{Finds, found_in, name_matches}
use Rattle.schema_calls.specs.Search.{index_for, bucket_for, matches_at, alike_at, first_found, found_at, first_below, any_below}
use Rattle.std.specs.Prelude as program_option
use Rattle.std.specs.Prelude.{Some, None, is_some}
use Rattle.schema_calls.specs.declared.search.Sought.{Sought}
use Rattle.schema_calls.specs.declared.search.Sought.TheVariants.{Row, Name, Path, Group}
use Rattle.schema_calls.proofs.Laws.Closed.{same-equal}
use Rattle.schema_calls.proofs.Laws.Scans.{found-any}

-- ---- what matches is of the bucket

key-of-name : (r : SubElement) (t n : ℕ) → name_matches t n r ≡ true → name_key r ≡ bucket t n
key-of-name r t n h =
    let (e, f) = (and-eq-true_iff (eqb r.type t) (eqb r.name n)).0 h in
    rw (eqb-true r.type t e, eqb-true r.name n f)

key-of-path : (type t : ℕ) (path p : SchemaPath) → (eqb type t && same_path path p) ≡ true → path_bucket type path ≡ path_bucket t p
key-of-path type t path p h =
    let (e, f) = (and-eq-true_iff (eqb type t) (same_path path p)).0 h in
    rw (eqb-true type t e, same-equal path p f)

key-of-match : (sc : Schema) (s : Sought) (i : ℕ) → matches_at sc s i ≡ true → key_in sc (index_for s) i ≡ bucket_for s
key-of-match sc (Row t n m) i h =
    let r : SubElement = get_or sc.sub_elements i no_sub_element in
    key-of-name r t.0 n.0 ((and-eq-true_iff (name_matches t.0 n.0 r) (meets r.mask m)).0 h).0
key-of-match sc (Name t n) i h = key-of-name (get_or sc.sub_elements i no_sub_element) t.0 n.0 h
key-of-match sc (Path t p) i h = let r = get_or sc.sub_elements i no_sub_element in key-of-path r.type t.0 r.path (parts_of p) h
key-of-match sc (Group t p) i h = let g = get_or sc.groups i no_group in key-of-path g.type t.0 g.path (parts_of p) h

pub key-of-alike : (sc : Schema) (x : Index) (i k : ℕ) → alike_at sc x i k ≡ true → key_in sc x k ≡ key_in sc x i
key-of-alike sc Groups i k h =
    let g = get_or sc.groups i no_group in
    let a = get_or sc.groups k no_group in
    key-of-path a.type g.type a.path g.path h
key-of-alike sc Names i k h = let r = get_or sc.sub_elements i no_sub_element in key-of-name (get_or sc.sub_elements k no_sub_element) r.type r.name h
key-of-alike sc Paths i k h =
    let r = get_or sc.sub_elements i no_sub_element in
    let a = get_or sc.sub_elements k no_sub_element in
    key-of-path a.type r.type a.path r.path h

-- ---- the first of two answers

found-missing-right : (r : program_option.Option ℕ) → first_found r None ≡ r
unfolding first_found
found-missing-right (Some i) = refl
found-missing-right None = refl

found-last : (r : program_option.Option ℕ) (i : ℕ) → true ≡ is_some (first_found r (Some i))
unfolding first_found
found-last (Some j) i = refl
found-last None i = refl

found-thrice : (p q r : program_option.Option ℕ) → first_found (first_found p q) r ≡ first_found p (first_found q r)
unfolding first_found
found-thrice (Some i) q r = refl
found-thrice None q r = refl

-- ---- places that pass

-- one that does not pass
first-skip : (t : ℕ → Bool) (n : ℕ) → t n ≡ false → first_below t (suc n) ≡ first_below t n
unfolding first_below
first-skip t n h = rw h (found-missing-right (first_below t n))

first-agrees : (t other : ℕ → Bool) (n : ℕ) → ((i : ℕ) → i < n → t i ≡ other i) → first_below t n ≡ first_below other n
unfolding first_below
first-agrees t other zero h = refl
first-agrees t other (suc n) h = rw (first-agrees t other n (λ i k. h i (omega arith)), h n (omega arith))

-- those above a place alone
unfoldable pub test_above : ℕ → (ℕ → Bool) → ℕ → Bool
test_above above t i = ltb i above && t i

module _ (above : ℕ) (t : ℕ → Bool) where
  pub tests_above : (i : ℕ) → i < above → {b : Bool} → b ≡ t i → test_above above t i ≡ b
  unfolding test_above
  tests_above i h e = rw (lt-ltb i above h) (sym e)

  pub tests_below : (i : ℕ) → above ≤ i → test_above above t i ≡ false
  unfolding test_above
  tests_below i h = rw (le-ltb i above h)

  above-passes : (i : ℕ) → test_above above t i ≡ true → t i ≡ true
  unfolding test_above
  above-passes i h = ((and-eq-true_iff (ltb i above) (t i)).0 h).1

  pub first_above : (n : ℕ) → above ≤ n → first_below (test_above above t) n ≡ first_below t above
  unfolding first_below
  first_above zero h = let z : above ≡ 0 = omega arith in ap (first_below t) (sym z)
  first_above (suc n) h =
      bool-split (eqb above (suc n))
      (λ e. let z : above ≡ suc n = eqb-true above (suc n) e in
      first-agrees (test_above above t) t (suc n) (λ i k. tests_above i (omega arith) refl) ∙ ap (first_below t) (sym z))
      (λ e. let f = eqb-false above (suc n) e in
      first-skip (test_above above t) n (tests_below n (omega arith)) ∙ first_above n (omega arith))

-- ---- the walk over the places of a bucket

module _ (key : ℕ → ℕ) (t : ℕ → Bool) (b : ℕ) where
  -- what passes is of the bucket
  abbrev pub Keyed : Type 0
  Keyed = (i : ℕ) → t i ≡ true → key i ≡ b

  -- next is the next place to look at, + 1; found is the first that passes among those looked at
  pub record Walk (n next : ℕ) (found : program_option.Option ℕ) : Type 0 where
    pub within : next ≤ n
    pub bucketed : (i : ℕ) → next ≡ suc i → key i ≡ b
    pub left : first_found (first_below t next) found ≡ first_below t n

  -- the latest of the bucket is of it
  latest-bucket : (n i : ℕ) → latest key b n ≡ suc i → key i ≡ b
  unfolding latest
  latest-bucket zero i h = absurd (omega arith)
  latest-bucket (suc n) i h = go (eqb (key n) b) refl (latest-bucket n i) h
    where
      go : (e : Bool) → eqb (key n) b ≡ e → (latest key b n ≡ suc i → key i ≡ b)
          → ◌≡◌ {A = ℕ} (elim e [ true ↦ suc n | false ↦ latest key b n ]) (suc i) → key i ≡ b
      go true e r h = let z : i ≡ n = omega arith in ap key z ∙ eqb-true (key n) b e
      go false e r h = r h

  -- what is behind it does not pass
  latest-skip : Keyed → (n : ℕ) → first_below t (latest key b n) ≡ first_below t n
  unfolding latest
  latest-skip keyed zero = refl
  latest-skip keyed (suc n) = go (eqb (key n) b) refl (latest-skip keyed n)
    where
      go : (e : Bool) → eqb (key n) b ≡ e → first_below t (latest key b n) ≡ first_below t n
          → first_below t (elim e [ true ↦ suc n | false ↦ latest key b n ]) ≡ first_below t (suc n)
      go true e r = refl
      go false e r =
          let f = eqb-false (key n) b e in
          r ∙ sym (first-skip t n (bool-split (t n) (λ h. absurd (f (keyed n h))) (λ h. h)))

  pub walk-starts : Keyed → (n : ℕ) {next : ℕ} → next ≡ latest key b n → Walk n next None
  walk-starts keyed n e =
      record {
        within = rw e (latest-most key b n);
        bucketed = λ i h. latest-bucket n i (sym e ∙ h);
        left = found-missing-right (first_below t _) ∙ ap (first_below t) e ∙ latest-skip keyed n;
      }

  module _ (n i : ℕ) (found : program_option.Option ℕ) (w : Walk n (suc i) found) where
    walk_turn : Keyed → {last : ℕ} → last ≡ latest key (key i) i → Walk n last (first_found (found_at (t i) i) found)
    unfolding first_below
    walk_turn keyed {last} e =
        let l : last ≡ latest key b i = e ∙ ap (λ (k : ℕ). latest key k i) (w.bucketed i refl) in
        let most = latest-most key b i in
        let here : program_option.Option ℕ = first_found (found_at (t i) i) found in
        let fits = w.within in
        record {
          within = omega arith;
          bucketed = λ j h. latest-bucket i j (sym l ∙ h);
          left =
              ap (λ (q : program_option.Option ℕ). first_found q here) (ap (first_below t) l ∙ latest-skip keyed i)
              ∙ sym (found-thrice (first_below t i) (found_at (t i) i) found)
              ∙ w.left;
        }

    -- a place that does not pass
    pub walk-past : Keyed → {last : ℕ} → last ≡ latest key (key i) i → t i ≡ false → Walk n last found
    unfolding first_found
    walk-past keyed e f = rw f at (walk_turn keyed e)

    -- one that passes
    pub walk-found : Keyed → {last : ℕ} → last ≡ latest key (key i) i → t i ≡ true → Walk n last (Some i)
    unfolding first_found
    walk-found keyed e f = rw f at (walk_turn keyed e)

    -- then some place below n passes
    pub walk_any : Keyed → t i ≡ true → true ≡ any_below t n
    walk_any keyed f = found-last (first_below t _) i ∙ ap is_some (walk-found keyed refl f).left

  -- no place is left to look at
  pub walk_end : (n : ℕ) (found : program_option.Option ℕ) → Walk n 0 found → found ≡ first_below t n
  unfolding first_found first_below
  walk_end n found w = w.left

-- the walk comes nearer to the start
pub walk-less : (key : ℕ → ℕ) (b i : ℕ) {last : ℕ} → last ≡ latest key b i → last < suc i
walk-less key b i e = let most = latest-most key b i in omega arith

-- what is sought, in the index of it
pub keyed-for : (sc : Schema) (s : Sought) (above : ℕ) {x : Index} → x ≡ index_for s
    → Keyed (key_in sc x) (test_above above (matches_at sc s)) (bucket_for s)
keyed-for sc s above e i h = ap (λ (y : Index). key_in sc y i) e ∙ key-of-match sc s i (above-passes above (matches_at sc s) i h)

-- ---- the place found, and the entries of a list

module _ {A : Type 0} (t : A → Bool) where
  first-append-some : (l m : List A) {a : A} → first_of t l ≡ some a → first_of t (l ++ m) ≡ some a
  unfolding first_of
  first-append-some [] m {a} h = absurd (none-ne-some a h)
  first-append-some (x ∷ l) m h =
      bool-split (t x) (λ e. rw (e, first_of) (rw (e, first_of) at h)) (λ e. rw (e, first_of) (first-append-some l m (rw (e, first_of) at h)))

  first-append-none : (l m : List A) → first_of t l ≡ none → first_of t (l ++ m) ≡ first_of t m
  unfolding first_of
  first-append-none [] m h = refl
  first-append-none (x ∷ l) m h =
      bool-split (t x) (λ e. absurd (none-ne-some x (sym (rw (e, first_of) at h)))) (λ e. rw (e, first_of) (first-append-none l m (rw (e, first_of) at h)))

  -- one place more
  finds-next : (d : A) (l m : List A) (i : ℕ) → i < length l → (r : program_option.Option ℕ) → Finds d l r (first_of t m)
      → Finds d l (first_found r (found_at (t (get_or l i d)) i)) (first_of t (m ++ (get_or l i d ∷ [])))
  unfolding first_found found_in first_of
  finds-next d l m i h (Some j) f = record { is = sym (first-append-some m (get_or l i d ∷ []) (sym f.is)); within = f.within }
  finds-next d l m i h None f = go (t (get_or l i d)) (first-append-none m (get_or l i d ∷ []) (sym f.is))
    where
      go : {o : Option A} (b : Bool) → o ≡ elim b [ true ↦ some (get_or l i d) | false ↦ none ] → Finds d l (found_at b i) o
      go true e = record { is = sym e; within = h }
      go false e = record { is = sym e; within = tt }

  finds-below : (d : A) (l : List A) (n : ℕ) → n ≤ length l
      → Finds d l (first_below (λ (i : ℕ). t (get_or l i d)) n) (first_of t (take n l))
  unfolding first_below found_in first_of
  finds-below d l zero h = record { is = refl; within = tt }
  finds-below d l (suc n) h =
      rw (take-suc l n d h) (finds-next d l (take n l) n h (first_below (λ (i : ℕ). t (get_or l i d)) n) (finds-below d l n (omega arith)))

  module _ (d : A) (l : List A) (n : ℕ) where
    -- among those above place n
    pub finds-first : n ≤ length l → {r : program_option.Option ℕ} → r ≡ first_below (λ (i : ℕ). t (get_or l i d)) n → Finds d l r (first_of t (take n l))
    finds-first h e = rw e (finds-below d l n h)

    -- among all
    pub finds-whole : n ≡ length l → {r : program_option.Option ℕ} → r ≡ first_below (λ (i : ℕ). t (get_or l i d)) n → Finds d l r (first_of t l)
    finds-whole h e = rw (take_all n l (omega arith)) at (finds-first (omega arith) e)

    pub any-first : n ≤ length l → {r : Bool} → r ≡ any_below (λ (i : ℕ). t (get_or l i d)) n → r ≡ any_of t (take n l)
    any-first h e = e ∙ found-any (finds-below d l n h) t (take n l) refl
