-- Laws of the marks of keys: equal keys have equal marks, which marks are passed over, and where the marks of B's children stand. Assumes nothing.
use mathlib.Core.Bool.{Bool, true, false, ◌||◌, true≢false, false≢true, and-false}
use mathlib.Core.List.{List}
use mathlib.Core.Logic.{⊎_elim}
use mathlib.Core.Option.{Option, none, some}
use mathlib.Core.Path.{◌≡◌, refl, sym, ap, ◌∙◌}
use Prim.Native.Nat.{ℕ, ◌+◌, ◌-◌, ◌*◌, ◌%◌, ◌<◌, ◌≤◌}
use native.Mathlib.Numerals.{add-one}
use native.Mathlib.Omega.{arith}
use borrow.Author.Tests.{eqb-false, ltb-true, ltb-false}
use lib.Dec.{eqb, ltb}
use lib.ListN.{length, get_or, set, take, drop, length-set, drop_of_length-le}
use lib.Seq.{drop-cons, drop-drop, take-take, take-set-le, get_or-set_same, get_or-set_other}
use Rattle.tables.specs.Lists.{first_of}
use Rattle.tables.specs.Records.{Element, Place, Model, Fixed, name_of}
use Rattle.tables.specs.Texts.{bytes_at, place_of}
use Rattle.tables.specs.declared.text.Place as code
use Rattle.tables.proofs.Laws.Cases.{bool-split}
use Rattle.merge_rules.specs.Pairing.{item_name, definition, same_key}
use Rattle.merge_rules.proofs.Laws.Cases.{same-or-other}
use Rattle.tables.proofs.Laws.Lists.{same_lists}
use Rattle.std.specs.Prelude.{Some, None}
use Rattle.pairing.specs.declared.plan.Sides.{Sides}
use Rattle.pairing.specs.Keys.{Key, key_is, span_of, mark_of, key_mark, KeyMarks, NoMark, has_key}
use Rattle.pairing.specs.Walks.{second_children, marks_from, WritesMarks, Marked}
use Rattle.pairing.proofs.Laws.Siblings.{siblings-past}
use Rattle.pairing.proofs.Laws.Rows.{length_part, get_d_part, front_at, part-kept, second-behind, second-front}

-- ---- keys of different marks

same_keys : (a b : Option (List ℕ)) → same_key a b ≡ true → a ≡ b
unfolding same_key
same_keys none none h = refl
same_keys none (some b) h = absurd (false≢true h)
same_keys (some a) none h = absurd (false≢true h)
same_keys (some a) (some b) h = ap some (same_lists a b h)

keys-differ : (a b : Option (List ℕ)) → (key_mark a ≡ key_mark b → ⊥) → same_key a b ≡ false
keys-differ a b n = bool-split (same_key a b) (λ h. absurd (n (ap key_mark (same_keys a b h)))) (λ h. h)

other-mark : (x : Fixed) (key : Element → Option (List ℕ)) (n : ℕ) (k : Option (List ℕ)) (bs marks : List ℕ) → KeyMarks key bs marks → (i : ℕ) → i < length bs
    → {mark : ℕ} → mark ≡ key_mark k → (get_or marks i 0 ≡ mark → ⊥) → has_key x key n k (get_or bs i 0) ≡ false
other-mark x key n k bs marks f i h e d =
    rw (keys-differ (key (get_or bs i 0)) k (λ z. d (f.each i h ∙ z ∙ sym e))) (and-false (eqb (name_of x (get_or bs i 0)) n))

-- where the mark stands nowhere between, no element between has the key
pub marks-past : (x : Fixed) (key : Element → Option (List ℕ)) (n : ℕ) (k : Option (List ℕ)) (bs marks : List ℕ) → KeyMarks key bs marks
    → {mark : ℕ} → mark ≡ key_mark k → {i j : ℕ} → NoMark marks mark i j → let t = has_key x key n k in first_of t (drop i bs) ≡ first_of t bs → first_of t (drop j bs) ≡ first_of t bs
marks-past x key n k bs marks f e {i} {j} p left =
    siblings-past (has_key x key n k) bs (j - i) i (omega (arith, p.order)) (omega (arith, p.within, f.size))
    (λ m a b. other-mark x key n k bs marks f m (omega (arith, b, p.within, f.size)) e (p.none m a b)) left

-- ---- marks passed over

module _ {marks : List ℕ} {mark : ℕ} where
  no-mark-join : {from k to : ℕ} → NoMark marks mark from k → NoMark marks mark k to → NoMark marks mark from to
  no-mark-join {from} {k} {to} f g =
      record {
        order = omega (arith, f.order, g.order);
        within = g.within;
        none = λ i a b. bool-split (ltb i k) (λ h. f.none i a (ltb-true i k h)) (λ h. g.none i (ltb-false i k h) b);
      }

  pub no-mark-more : {from k : ℕ} → NoMark marks mark from k → k < length marks → (get_or marks k 0 ≡ mark → ⊥) → NoMark marks mark from (k + 1)
  no-mark-more {from} {k} f h d =
      no-mark-join f
      (record { order = omega arith; within = omega arith; none = λ i a b z. let e : i ≡ k = omega arith in d (rw e at z) })

  -- a part of them, as it is lent
  pub no-mark-part : {from k to : ℕ} → NoMark marks mark from k → k ≤ to → to ≤ length marks
      → NoMark (take (to - k) (drop k marks)) mark 0 (length (take (to - k) (drop k marks))) → NoMark marks mark from to
  no-mark-part {from} {k} {to} f a b g =
      let long = length_part marks k (to - k) (omega arith) in
      no-mark-join f
      (record {
        order = a;
        within = b;
        none = λ i l h z.
            let e : k + (i - k) ≡ i = omega arith in
            g.none (i - k) (omega arith) (omega (arith, long)) (get_d_part marks k (to - k) (i - k) (omega arith) ∙ rw e z);
      })

  -- the test of all so far, and of one more
  pub none_more : (found : Bool) {k : ℕ} → (found ≡ false → NoMark marks mark 0 k) → k < length marks → (found || eqb (get_or marks k 0) mark) ≡ false
      → NoMark marks mark 0 (k + 1)
  none_more true f h e = absurd (true≢false e)
  none_more false {k} f h e = no-mark-more (f refl) h (eqb-false (get_or marks k 0) mark e)

  pub none_end : {from k : ℕ} → length marks ≤ k → NoMark marks mark from k → NoMark marks mark from (length marks)
  none_end {from} {k} h f = let e : k ≡ length marks = omega (arith, f.within) in rw (← e) f

-- ---- the mark of a key, byte by byte

module _ (bytes : List ℕ) where
  pub mark-more : (h j : ℕ) → j < length bytes → mark_of h (drop j bytes) ≡ mark_of ((h * 33 + get_or bytes j 0) % 65536) (drop (j + 1) bytes)
  unfolding mark_of
  mark-more h j l = rw (add-one j, drop-cons bytes j 0 l, mark_of)

  pub mark-end : (h j : ℕ) → length bytes ≤ j → mark_of h (drop j bytes) ≡ h
  unfolding mark_of
  mark-end h j l = rw (drop_of_length-le bytes {i = j} l)

span-whole : (deck : List ℕ) (k : Key) → mark_of 0 (take (span_of k).size (drop (span_of k).start deck)) ≡ key_mark (key_is deck k)
unfolding mark_of key_mark bytes_at
span-whole deck (Some p) = refl
span-whole deck None = refl

pub span-mark : (deck : List ℕ) (k : Key) {p : code.Place} → place_of p ≡ span_of k → mark_of 0 (take p.size (drop p.start deck)) ≡ key_mark (key_is deck k)
span-mark deck k e = ap (λ (p : Place). mark_of 0 (take p.size (drop p.start deck))) e ∙ span-whole deck k

-- ---- the marks of the first k of the n elements from `start` on

pub record Marking (key : Element → Option (List ℕ)) (start n at : ℕ) (w₀ w : List ℕ) (k : ℕ) : Type 0 where
  pub size : length w ≡ length w₀
  pub front : take at w ≡ take at w₀
  pub cells : (i : ℕ) → i < k → get_or w (at + i) 0 ≡ key_mark (key (get_or (take n (drop start w₀)) i 0))

module _ {key : Element → Option (List ℕ)} {start n at : ℕ} {w₀ w : List ℕ} {k : ℕ} (m : Marking key start n at w₀ w k) (order : start + n ≤ at) where
  pub element-here : (i : ℕ) → i < n → get_or w (start + i) 0 ≡ get_or (take n (drop start w₀)) i 0
  element-here i h = front_at at w₀ w m.front (start + i) (omega arith) ∙ sym (get_d_part w₀ start n i h)

  module _ (room : at + n ≤ length w₀) where
    pub marking-more : k < n → (v : ℕ) → v ≡ key_mark (key (get_or w (start + k) 0)) → Marking key start n at w₀ (set w (at + k) v) (k + 1)
    marking-more h v e =
        record {
          size = length-set w (at + k) v ∙ m.size;
          front = take-set-le at w (at + k) v (omega arith) ∙ m.front;
          cells = λ i l.
              ⊎_elim (λ (z : i ≡ k). rw z (get_or-set_same w (at + k) v 0 (omega (arith, m.size)) ∙ e ∙ rw (element-here k h)))
              (λ (z : i ≡ k → ⊥). get_or-set_other w (at + k) (at + i) v 0 (λ y. z (omega arith)) ∙ m.cells i (omega (arith, z))) (same-or-other i k);
        }

    pub marking-end : n ≤ k → KeyMarks key (take n (drop start w₀)) (take n (drop at w))
    marking-end h =
        let long = length_part w₀ start n (omega arith) in
        record {
          size = length_part w at n (omega (arith, m.size)) ∙ sym long;
          each = λ i l. get_d_part w at n i (omega (arith, long)) ∙ m.cells i (omega (arith, long));
        }

-- ---- both kinds

module _ (x : Fixed) (m : Model) (s : Sides) where
  pub marked : (w w₁ w₂ : List ℕ) → s.start ≤ s.end → s.end + 2 * (s.end - s.start) ≤ length w → length w₁ ≡ length w → length w₂ ≡ length w₁
      → WritesMarks (item_name x m) s s.end w w₁ → WritesMarks (definition x m) s (s.end + (s.end - s.start)) w₁ w₂
      → Marked x m s w₂ × (take s.end w₂ ≡ take s.end w)
  marked w w₁ w₂ order room size₁ size₂ a b =
      let n = s.end - s.start in
      let kept = part-kept (s.end + n) w₁ w₂ b.front size₂ (omega arith) in
      let second₁ = second-front s w w₁ order (omega arith) size₁ a.front in
      let second₂ : second_children s w₂ ≡ second_children s w₁ = kept s.start n (omega arith) in
      let names : marks_from s s.end w₂ ≡ marks_from s s.end w₁ = kept s.end n (omega arith) in (
        record { names = rw (second₂, second₁, names) a.written; definitions = rw second₂ b.written },
        sym (take-take s.end (s.end + n) w₂ (omega arith)) ∙ ap (take s.end) b.front ∙ take-take s.end (s.end + n) w₁ (omega arith) ∙ a.front,
      )

  -- nothing from B's children on has changed
  pub marked-kept : (w w' : List ℕ) → s.start ≤ s.end → drop s.start w' ≡ drop s.start w → Marked x m s w → Marked x m s w'
  marked-kept w w' order behind k =
      let area : (at : ℕ) → s.start ≤ at → marks_from s at w' ≡ marks_from s at w = λ at h.
      let e : s.start + (at - s.start) ≡ at = omega arith in
      rw (← e, ← drop-drop (at - s.start) s.start w', behind, drop-drop (at - s.start) s.start w) in
      let second = second-behind s w w' behind in
      record {
        names = rw (second, area s.end order) k.names;
        definitions = rw (second, area (s.end + (s.end - s.start)) (omega arith)) k.definitions;
      }
