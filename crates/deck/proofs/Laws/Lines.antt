-- Fields of a line by their places, and the kinds of lines. Assumes nothing.
use mathlib.Core.Bool.{Bool, true, false}
use mathlib.Core.List.{List, [], ◌∷◌, ◌++◌, map, append_assoc}
use mathlib.Core.Option.{none, some, bind}
use mathlib.Core.Path.{◌≡◌, refl, sym, ◌∙◌, ap}
use Prim.Native.Nat.{ℕ, suc, ◌+◌, ◌≤◌, ◌<◌}
use native.Mathlib.Numerals.{add-one}
use native.Mathlib.Omega.{arith}
use borrow.Author.Count.{below_more}
use borrow.Author.Tests.{eq-eqb, ne_eqb, eqb-true, eqb-false}
use lib.Dec.{eqb}
use lib.ListN.{length, get_or, take, set, length-set, length-take, length-map, get_or-eq_default}
use Rattle.std.proofs.lemmas.List.{get_or-map, map-set}
use lib.Seq.{get_or-set_same, get_or-set_other, take-suc-set, take_all, take_at, get_or-take}
use Rattle.deck.specs.Deck.{Part, parts, fields, field, only, letter, by_letter, line_t, line_g, line_s, line_f, line_m, line_b, line_e, line_c, kinds, read_line}
use Rattle.deck.specs.declared.lines.Fields.{Fields}
use Rattle.deck.specs.declared.lines.Span.{Span}
use Rattle.tables.specs.Cells.{between}
use Rattle.deck.specs.Answers.{part_at, Next, span_part, fields_of, no_bytes, Ordered, Placed, Splits, SpanOf}
use Rattle.deck.proofs.Laws.Letters.{letter-alike}
use Rattle.deck.proofs.Laws.Parts.{next-part, last-part}

-- ---- a line split at its commas

-- the first fields have places, and the others are those behind `at`
pub record Splitting (deck : List ℕ) (l : List Part) (end : ℕ) (ss : List Span) (n at : ℕ) : Type 0 where
  pub few : n ≤ 8
  pub size : length ss ≡ 8
  pub each : (i : ℕ) → i < n → Ordered deck (get_or ss i no_bytes)
  pub before : at ≤ end
  pub left : l ≡ take n (map (span_part deck) ss) ++ parts 44 at (between at end deck)

pub split-start : (deck : List ℕ) (start end : ℕ) (ss : List Span) → length ss ≡ 8 → start ≤ end
    → Splitting deck (fields (part_at deck start end)) end ss 0 start
unfolding fields
split-start deck start end ss hs h =
    record { few = omega arith; size = hs; each = λ i k. absurd (omega arith); before = h; left = refl }

pub split-full : (deck : List ℕ) (l : List Part) (end : ℕ) (ss : List Span) (n at : ℕ) → Splitting deck l end ss n at → 8 ≤ n
    → Splits deck l (record { count = 8; spans = ss })
unfolding fields_of
split-full deck l end ss n at w h =
    let z : n ≡ 8 = omega (arith, w.few) in
    let y : length (take n (map (span_part deck) ss)) ≡ 8 = rw (length-take, length-map ss (span_part deck), w.size, z) in
    record {
      placed = record { few = omega arith; size = w.size; each = λ i k. w.each i (omega arith) };
      is =
          sym (ap (λ (k : ℕ). take k (map (span_part deck) ss)) z)
          ∙ sym (ap (take 8) w.left ∙ take_at (take n (map (span_part deck) ss)) (parts 44 at (between at end deck)) 8 y);
    }

module _ (deck : List ℕ) (l : List Part) (end : ℕ) (ss : List Span) (n at e : ℕ) (fits : end ≤ length deck)
    (w : Splitting deck l end ss n at) (h : n < 8) (x : Next deck 44 at end e) where
  abbrev found : Span
  found = record { start = at; end = e }

  stored : take (n + 1) (map (span_part deck) (set ss n found)) ≡ take n (map (span_part deck) ss) ++ (part_at deck at e ∷ [])
  stored =
      rw (add-one n, map-set (span_part deck) ss n found)
      (take-suc-set (map (span_part deck) ss) n (part_at deck at e) (rw (length-map ss (span_part deck)) (omega (arith, w.size))))

  each-stored : (i : ℕ) → i < n + 1 → Ordered deck (get_or (set ss n found) i no_bytes)
  each-stored =
      below_more (λ (i : ℕ). Ordered deck (get_or (set ss n found) i no_bytes)) n
      (λ i k. let ne : i ≡ n → ⊥ = λ q. absurd (omega arith) in rw (get_or-set_other ss n i found no_bytes ne) (w.each i k))
      (rw (get_or-set_same ss n found no_bytes (omega (arith, w.size))) (x.past, omega (arith, x.within)))

  pub split-last : end ≤ e → Splits deck l (record { count = n + 1; spans = set ss n found })
  unfolding fields_of
  split-last k =
      let z : l ≡ take (n + 1) (map (span_part deck) (set ss n found)) =
      w.left ∙ ap (λ (q : List Part). take n (map (span_part deck) ss) ++ q) (last-part deck 44 at end e fits x k) ∙ sym stored in
      record {
        placed = record { few = omega arith; size = simp length-set w.size; each = each-stored };
        is = sym (ap (take 8) z ∙ take_all 8 (take (n + 1) (map (span_part deck) (set ss n found))) (rw length-take (omega arith)));
      }

  pub split-turn : e < end → Splitting deck l end (set ss n found) (n + 1) (e + 1)
  split-turn k =
      record {
        few = omega arith;
        size = simp length-set w.size;
        each = each-stored;
        before = omega arith;
        left =
            w.left ∙ ap (λ (q : List Part). take n (map (span_part deck) ss) ++ q) (next-part deck 44 at end e fits x k)
            ∙ rw stored (sym (append_assoc (take n (map (span_part deck) ss)) (part_at deck at e ∷ []) (parts 44 (e + 1) (between (e + 1) end deck))));
      }

-- ---- the one byte of a field

pub letter-one : (p : Part) (bs : List ℕ) → bs ≡ p.bytes → length bs ≡ 1 → letter p ≡ some (get_or bs 0 0)
unfolding letter only
letter-one p [] e h = absurd (omega (arith, h))
letter-one p (b ∷ bs) e h =
    let z : length bs ≡ 0 = omega (arith, h) in
    rw (letter, ← e, z) refl

pub letter-not : (p : Part) (bs : List ℕ) → bs ≡ p.bytes → (length bs ≡ 1 → ⊥) → letter p ≡ none
unfolding letter only
letter-not p [] e n = rw (letter, ← e) refl
letter-not p (b ∷ bs) e n = rw (letter, ← e, ne_eqb (length bs) 0 (λ h. n (ap suc h))) refl

-- ---- a field by its places

pub fields-count : (deck : List ℕ) (f : Fields) → Placed deck f → length (fields_of deck f) ≡ f.count
unfolding fields_of
fields-count deck f w =
    rw (fields_of, length-take, length-map f.spans (span_part deck)) (omega (arith, w.few, w.size))

pub field_at : (deck : List ℕ) (f : Fields) (i : ℕ) → Placed deck f → i < f.count
    → span_part deck (get_or f.spans i no_bytes) ≡ field (fields_of deck f) i
unfolding fields_of
field_at deck f i w h =
    sym (get_or-take f.count (map (span_part deck) f.spans) i missing h ∙ get_or-map (span_part deck) f.spans i no_bytes missing (omega (arith, w.few, w.size)))
  where
    missing : Part
    missing = record { start = 0; bytes = [] }

pub field-none : (deck : List ℕ) (f : Fields) (i : ℕ) → Placed deck f → f.count ≤ i → part_at deck 0 0 ≡ field (fields_of deck f) i
field-none deck f i w h = sym (get_or-eq_default (fields_of deck f) (record { start = 0; bytes = [] }) (rw (fields-count deck f w) h))

pub span-some : (deck : List ℕ) (f : Fields) (i : ℕ) → Placed deck f → i < f.count
    → SpanOf deck (field (fields_of deck f) i) (get_or f.spans i no_bytes)
span-some deck f i w h = record { ordered = (w.each i h).0; within = (w.each i h).1; is = field_at deck f i w h }

pub span_none : (deck : List ℕ) (f : Fields) (i : ℕ) → Placed deck f → f.count ≤ i
    → SpanOf deck (field (fields_of deck f) i) no_bytes
span_none deck f i w h = record { ordered = omega arith; within = omega arith; is = field-none deck f i w h }

-- ---- the first 8 fields make the line

module _ (l : List Part) where
  field-take : (i : ℕ) → i < 8 → field (take 8 l) i ≡ field l i
  field-take i h = get_or-take 8 l i (record { start = 0; bytes = [] }) h

  count-take : (n : ℕ) → n < 8 → eqb (length (take 8 l)) n ≡ eqb (length l) n
  count-take n h = go (eqb (length l) n) refl
    where
      go : (t : Bool) → eqb (length l) n ≡ t → eqb (length (take 8 l)) n ≡ t
      go true e = eq-eqb (length (take 8 l)) n (rw length-take (omega (arith, eqb-true (length l) n e)))
      go false e = ne_eqb (length (take 8 l)) n (λ q. eqb-false (length l) n e (omega (arith, length-take 8 l)))

  take-t : line_t (take 8 l) ≡ line_t l
  unfolding line_t
  take-t = simp (field-take 1 (omega arith), field-take 2 (omega arith), field-take 3 (omega arith), field-take 4 (omega arith), count-take 5 (omega arith))

  take-g : line_g (take 8 l) ≡ line_g l
  unfolding line_g
  take-g = simp (field-take 1 (omega arith), field-take 2 (omega arith), field-take 3 (omega arith), count-take 4 (omega arith))

  take-s : line_s (take 8 l) ≡ line_s l
  unfolding line_s
  take-s =
      simp (
        field-take 1 (omega arith),
        field-take 2 (omega arith),
        field-take 3 (omega arith),
        field-take 4 (omega arith),
        field-take 5 (omega arith),
        field-take 6 (omega arith),
        count-take 7 (omega arith),
      )

  take-f : line_f (take 8 l) ≡ line_f l
  unfolding line_f
  take-f = simp (field-take 1 (omega arith), field-take 2 (omega arith), count-take 3 (omega arith))

  take-m : line_m (take 8 l) ≡ line_m l
  unfolding line_m
  take-m = simp (count-take 1 (omega arith))

  take-b : line_b (take 8 l) ≡ line_b l
  unfolding line_b
  take-b = simp (field-take 1 (omega arith), count-take 2 (omega arith))

  take-e : line_e (take 8 l) ≡ line_e l
  unfolding line_e
  take-e = simp (field-take 1 (omega arith), field-take 2 (omega arith), field-take 3 (omega arith), count-take 4 (omega arith))

  take-c : line_c (take 8 l) ≡ line_c l
  unfolding line_c
  take-c = simp (field-take 1 (omega arith), field-take 2 (omega arith), field-take 3 (omega arith), count-take 4 (omega arith))

pub kinds-take : (k : ℕ) (l : List Part) → by_letter kinds k (take 8 l) ≡ by_letter kinds k l
kinds-take k l =
    letter-alike kinds k (take 8 l) l (take-t l, (take-g l, (take-s l, (take-f l, (take-m l, (take-b l, (take-e l, (take-c l, tt))))))))

module _ (deck : List ℕ) (p : Part) (f : Fields) (w : Splits deck (fields p) f) where
  first-letter : letter (field (fields_of deck f) 0) ≡ letter (field (fields p) 0)
  first-letter = ap (λ (l : List Part). letter (field l 0)) w.is ∙ ap letter (field-take (fields p) 0 (omega arith))

  pub read-bad : letter (field (fields_of deck f) 0) ≡ none → read_line p ≡ none
  unfolding read_line bind
  read-bad e = rw (read_line, sym first-letter ∙ e)

  pub read-kind : (k : ℕ) → letter (field (fields_of deck f) 0) ≡ some k → by_letter kinds k (fields_of deck f) ≡ read_line p
  unfolding read_line bind
  read-kind k e = rw (read_line, sym first-letter ∙ e) (ap (by_letter kinds k) w.is ∙ kinds-take k (fields p))
