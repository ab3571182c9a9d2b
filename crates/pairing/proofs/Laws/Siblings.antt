-- Laws of the search for a sibling: which siblings have the name and the key sought. Assumes nothing.
use mathlib.Core.Bool.{Bool, true, false}
use mathlib.Core.List.{List, ◌∷◌}
use mathlib.Core.Option.{Option, none, some}
use mathlib.Core.Path.{◌≡◌, sym, ap, subst, ◌∙◌}
use Prim.Native.Nat.{ℕ, zero, suc, ◌+◌, ◌-◌, ◌<◌, ◌≤◌}
use native.Mathlib.Numerals.{add-one}
use native.Mathlib.Omega.{arith}
use borrow.Author.Tests.{eq-eqb}
use lib.ListN.{length, get_or, take, drop, drop_of_length-le}
use lib.Seq.{drop-cons}
use Rattle.tables.specs.Lists.{first_of, same_list}
use Rattle.tables.specs.Records.{Element, Place, Fixed, name_of}
use Rattle.tables.specs.Texts.{bytes_at, place_of, place_in}
use Rattle.tables.specs.declared.text.Place as code
use Rattle.tables.proofs.Laws.Texts.{bytes-more, bytes-differ, bytes-end, sizes-differ}
use Rattle.merge_rules.specs.Pairing.{same_key, sibling}
use Rattle.std.specs.Prelude.{Some, None}
use Rattle.pairing.specs.declared.lent.Tables.{Tables}
use Rattle.pairing.specs.Lent.{fixed_of, model_in}
use Rattle.pairing.specs.Keys.{Key, key_is, KeyIn, Keys, key_by, has_key, span_of, Candidate, CandidateIs, Candidates}
use Rattle.pairing.proofs.Laws.Keys.{first-yes, first-no}

-- ---- one sibling

-- the element has A's name and A's key
abbrev pub fits : Tables → Bool → ℕ → Key → ℕ → Bool
fits x by_name n key = has_key (fixed_of x) (key_by by_name (fixed_of x) (model_in x)) n (key_is x.deck.now key)

module _ (x : Fixed) (key : Element → Option (List ℕ)) (n : ℕ) (k : Key) (b : ℕ) {name : ℕ} (en : name ≡ name_of x b) where
  module _ (same : name ≡ n) {j : Key} (f : Keys x.deck j (key b)) where
    key-decides : has_key x key n (key_is x.deck k) b ≡ same_key (key_is x.deck j) (key_is x.deck k)
    key-decides = rw (← en, eq-eqb name n same, ← f.is)

    pub both-missing : j ≡ None → k ≡ None → Candidates x.deck (span_of k) (has_key x key n (key_is x.deck k) b) (Some 0)
    unfolding same_key same_list
    both-missing hj hk = record { is = (rw hk (omega arith), key-decides ∙ rw (hj, hk)) }

    pub key-for-missing : {q : code.Place} → j ≡ Some q → k ≡ None → Candidates x.deck (span_of k) (has_key x key n (key_is x.deck k) b) None
    unfolding same_key
    key-for-missing hj hk = record { is = key-decides ∙ rw (hj, hk) }

    pub missing-for-key : {p : code.Place} → j ≡ None → k ≡ Some p → Candidates x.deck (span_of k) (has_key x key n (key_is x.deck k) b) None
    unfolding same_key
    missing-for-key hj hk = record { is = key-decides ∙ rw (hj, hk) }

    module _ {q p : code.Place} (hj : j ≡ Some q) (hk : k ≡ Some p) where
      bytes-decide : has_key x key n (key_is x.deck k) b ≡ same_list (bytes_at x.deck (place_of q)) (bytes_at x.deck (place_of p))
      unfolding same_key
      bytes-decide = key-decides ∙ rw (hj, hk)

      found_in_lem : place_in x.deck q
      found_in_lem = subst (KeyIn x.deck) hj f.within

      pub sizes-equal : q.size ≡ p.size → Candidates x.deck (span_of k) (has_key x key n (key_is x.deck k) b) (Some q.start)
      unfolding bytes_at
      sizes-equal h =
          let z = found_in_lem in
          record { is = (rw hk (omega arith), bytes-decide ∙ rw (hk, h)) }

      pub sizes-unequal : (q.size ≡ p.size → ⊥) → KeyIn x.deck k → Candidates x.deck (span_of k) (has_key x key n (key_is x.deck k) b) None
      sizes-unequal h l =
          record { is = bytes-decide ∙ sizes-differ x.deck (place_of q) (place_of p) found_in_lem (subst (KeyIn x.deck) hk l) h }

-- ---- the search: what is left of the siblings gives what all give

module _ (t : ℕ → Bool) (l : List ℕ) (i : ℕ) (left : first_of t (drop i l) ≡ first_of t l) where
  pub siblings-end : length l ≤ i → none ≡ first_of t l
  unfolding first_of
  siblings-end h = sym (ap (first_of t) (drop_of_length-le l {i = i} h)) ∙ left

  module _ (h : i < length l) where
    here : first_of t (get_or l i 0 ∷ drop (i + 1) l) ≡ first_of t l
    here = sym (ap (first_of t) (drop-cons l i 0 h ∙ ap (λ (j : ℕ). get_or l i 0 ∷ drop j l) (sym (add-one i)))) ∙ left

    pub siblings-next : t (get_or l i 0) ≡ false → first_of t (drop (i + 1) l) ≡ first_of t l
    siblings-next e = sym (first-no t (get_or l i 0) (drop (i + 1) l) e) ∙ here

    pub siblings-found : t (get_or l i 0) ≡ true → some (get_or l i 0) ≡ first_of t l
    siblings-found e = sym (first-yes t (get_or l i 0) (drop (i + 1) l) e) ∙ here

-- the n from i on fail the test
pub siblings-past : (t : ℕ → Bool) (l : List ℕ) (n i : ℕ) {j : ℕ} → i + n ≡ j → j ≤ length l → ((m : ℕ) → i ≤ m → m < j → t (get_or l m 0) ≡ false)
    → first_of t (drop i l) ≡ first_of t l → first_of t (drop j l) ≡ first_of t l
siblings-past t l zero i {j} e h fails left = let z : j ≡ i = omega arith in rw z left
siblings-past t l (suc n) i e h fails left =
    siblings-past t l n (i + 1) (omega arith) h (λ m a b. fails m (omega arith) b) (siblings-next t l i left (omega arith) (fails i (omega arith) (omega arith)))

pub sibling-is : (x : Fixed) (key : Element → Option (List ℕ)) (bs : List ℕ) (a : ℕ) {n : ℕ} → n ≡ name_of x a → {k : Option (List ℕ)} → k ≡ key a → first_of (has_key x key n k) bs ≡ sibling x key bs a
unfolding sibling
sibling-is x key bs a en ek = λ i. first_of (has_key x key (en i) (ek i)) bs

-- ---- the bytes of a candidate

-- what is left of the n bytes at a and at b, from byte j on, decides as all of them do
pub record Compared (deck : List ℕ) (a b n j : ℕ) : Type 0 where
  pub first : a + n ≤ length deck
  pub second : b + n ≤ length deck
  pub left : same_list (take n (drop a deck)) (take n (drop b deck)) ≡ same_list (take (n - j) (drop (a + j) deck)) (take (n - j) (drop (b + j) deck))

pub compared-more : {deck : List ℕ} {a b n j : ℕ} → Compared deck a b n j → j < n → get_or deck (a + j) 0 ≡ get_or deck (b + j) 0 → Compared deck a b n (j + 1)
compared-more {deck} {a} {b} {n} {j} f h e =
    record { first = f.first; second = f.second; left = f.left ∙ bytes-more deck a b n j h f.first f.second e }

module _ {deck : List ℕ} {p : Place} {t : Bool} {r : Candidate} (c : Candidates deck p t r) where
  pub skipped : r ≡ None → t ≡ false
  skipped k = subst (CandidateIs deck p t) k c.is

  module _ {s : ℕ} (k : r ≡ Some s) {q : code.Place} (e : place_of q ≡ p) where
    test-is : t ≡ same_list (take q.size (drop s deck)) (take q.size (drop q.start deck))
    test-is = (subst (CandidateIs deck p t) k c.is).1 ∙ ap (λ (w : Place). same_list (take w.size (drop s deck)) (take w.size (drop w.start deck))) (sym e)

    module _ {j : ℕ} (f : Compared deck s q.start q.size j) where
      pub bytes-unequal : j < q.size → (get_or deck (s + j) 0 ≡ get_or deck (q.start + j) 0 → ⊥) → t ≡ false
      bytes-unequal h d = test-is ∙ f.left ∙ bytes-differ deck s q.start q.size j h f.first f.second d

      pub bytes-equal : q.size ≤ j → t ≡ true
      bytes-equal h = test-is ∙ f.left ∙ bytes-end deck s q.start q.size j h
