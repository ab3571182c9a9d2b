-- Laws of a line of a list of calls: its words, its numbers, and the count of its fields. Assumes nothing.
use Rattle.std.specs.Prelude.{Option as OptionOf, Some, None}
use Rattle.std.specs.Bool.{then_some}
use mathlib.Core.Bool.{Bool, true, false, ◌&&◌}
use mathlib.Core.List.{List, [], ◌∷◌}
use mathlib.Core.Option.{Option, none, some, bind}
use mathlib.Core.Path.{◌≡◌, refl, sym, ap, ◌∙◌}
use Prim.Native.Nat.{ℕ, zero, suc, ◌<◌}
use native.Mathlib.Omega.{arith}
use lib.Dec.{eqb, eqb-suc-zero, eqb-suc-suc}
use lib.ListN.{length, take}
use lib.Pointwise.{pointwise}
use lib.Seq.{get_or-take}
use Rattle.tables.specs.Lists.{first_of, same_list}
use Rattle.deck.specs.Deck.{Part, field, fields, only}
use Rattle.deck.specs.Answers.{fields_of, Placed, Splits}
use Rattle.deck.specs.declared.lines.Fields.{Fields}
use Rattle.deck.proofs.Laws.Lines.{fields-count}
use Rattle.merge_rules.specs.Book.{call_merge, call_rollback}
use Rattle.merge_rules.specs.CallLists.{Request, of_call, word_field, line_merge, line_rollback, line_range, line_alone, of_model, of_trees, of_log, words, by_word, read_request}
use Rattle.merge_rules.proofs.Laws.Lists.{each_in, first_of-some}
use Rattle.deck.specs.Answers.{num_is}
use Rattle.requests.specs.Requests.{only_number}

-- ---- two words

-- `==` on bytes
pub equal-same : (s w : List ℕ) → pointwise eqb s w ≡ same_list s w
unfolding same_list
equal-same [] [] = refl
equal-same [] (b ∷ w) = refl
equal-same (a ∷ s) [] = refl
equal-same (a ∷ s) (b ∷ w) = both (eqb a b) (equal-same s w)
  where
    both : (q : Bool) {r z : Bool} → r ≡ z → (q && r) ≡ elim q [ true ↦ z | false ↦ false ]
    both true e = e
    both false e = refl

-- ---- a number of a line, and the count of its fields

module _ {A : Type 0} (o : Option ℕ) (n : OptionOf ℕ) (e : num_is n ≡ o) (k : ℕ → Option A) where
  pub word-missing : n ≡ None → none ≡ bind o k
  unfolding num_is bind
  word-missing h = rw (← e, h)

  pub word-read : (v : ℕ) → n ≡ Some v → k v ≡ bind o k
  unfolding num_is bind
  word-read v h = rw (← e, h)

-- what stands for an answer of a line of so many fields
module _ {A B : Type 0} (meaning : OptionOf A → Option B) (nothing : meaning None ≡ none) (calls : List ℕ) (f : Fields) (w : Placed calls f) (n : ℕ) where
  due : (b : Bool) (x : A) (q : B) → meaning (Some x) ≡ some q → meaning (then_some b x) ≡ only b q
  unfolding only
  due true x q h = h
  due false x q h = nothing

  pub count-due : {r : OptionOf A} {x : A} {q : B} → r ≡ then_some (eqb f.count n) x → meaning (Some x) ≡ some q
      → meaning r ≡ only (eqb (length (fields_of calls f)) n) q
  count-due {x = x} {q = q} e h = rw (e, fields-count calls f w) (due (eqb f.count n) x q h)

-- the number of a line that has no other field, and what is made of it
one-made : (k : ℕ → Request) (o : Option ℕ) (b : Bool)
    → bind (bind o (λ (v : ℕ). only b v)) (λ (v : ℕ). some (k v)) ≡ bind o (λ (v : ℕ). only b (k v))
unfolding bind only
one-made k none b = refl
one-made k (some v) true = refl
one-made k (some v) false = refl

pub merge-line : (l : List Part) → bind (only_number l) (λ (v : ℕ). some (of_call (call_merge v))) ≡ line_merge l
unfolding only_number line_merge
merge-line l = one-made (λ (v : ℕ). of_call (call_merge v)) (word_field (field l 1)) (eqb (length l) 2)

pub rollback-line : (l : List Part) → bind (only_number l) (λ (v : ℕ). some (of_call (call_rollback v))) ≡ line_rollback l
unfolding only_number line_rollback
rollback-line l = one-made (λ (v : ℕ). of_call (call_rollback v)) (word_field (field l 1)) (eqb (length l) 2)

-- ---- a line by its first word

abbrev pub Word : Type 0
Word = List ℕ × (List Part → Option Request)

-- the fields read by the first of these words that the bytes are
abbrev pub read_by : List ℕ → List Word → List Part → Option Request
read_by b ws l = elim (first_of (λ (w : Word). same_list b w.0) ws) [ none ↦ none | some w ↦ w.1 l ]

module _ (b : List ℕ) (w : Word) (ws : List Word) (l : List Part) (r : Bool) (e : r ≡ same_list b w.0) where
  pub word-here : r ≡ true → w.1 l ≡ read_by b (w ∷ ws) l
  unfolding first_of
  word-here h = rw (read_by, first_of, ← e, h)

  pub word-behind : r ≡ false → read_by b ws l ≡ read_by b (w ∷ ws) l
  unfolding first_of
  word-behind h = rw (read_by, first_of, ← e, h)

-- ---- the first 8 fields make the line

count-take : (m n : ℕ) (l : List Part) → n < m → eqb (length (take m l)) n ≡ eqb (length l) n
count-take zero n l h = absurd (omega arith)
count-take (suc m) n [] h = refl
count-take (suc m) zero (p ∷ l) h = eqb-suc-zero (length (take m l)) ∙ sym (eqb-suc-zero (length l))
count-take (suc m) (suc n) (p ∷ l) h = eqb-suc-suc (length (take m l)) n ∙ count-take m n l (omega arith) ∙ sym (eqb-suc-suc (length l) n)

module _ (l : List Part) where
  field-take : (i : ℕ) → i < 8 → field (take 8 l) i ≡ field l i
  field-take i h = get_or-take 8 l i (record { start = 0; bytes = [] }) h

  take-merge : line_merge (take 8 l) ≡ line_merge l
  unfolding line_merge
  take-merge = simp (field-take 1 (omega arith), count-take 8 2 l (omega arith))

  take-rollback : line_rollback (take 8 l) ≡ line_rollback l
  unfolding line_rollback
  take-rollback = simp (field-take 1 (omega arith), count-take 8 2 l (omega arith))

  take_range : line_range (take 8 l) ≡ line_range l
  unfolding line_range
  take_range = simp (field-take 1 (omega arith), field-take 2 (omega arith), field-take 3 (omega arith), count-take 8 4 l (omega arith))

  take-alone : (q : Request) → line_alone q (take 8 l) ≡ line_alone q l
  unfolding line_alone
  take-alone q = simp (count-take 8 1 l (omega arith))

  by-word-take : by_word (take 8 l) ≡ by_word l
  unfolding by_word
  by-word-take =
      ap (λ (p : Part). read_by p.bytes words (take 8 l)) (field-take 0 (omega arith)) ∙ go (first_of first words) refl
    where
      first : Word → Bool
      first w = same_list (field l 0).bytes w.0

      go : (o : Option Word) → first_of first words ≡ o
          → ◌≡◌ {A = Option Request} (elim o [ none ↦ none | some w ↦ w.1 (take 8 l) ]) (elim o [ none ↦ none | some w ↦ w.1 l ])
      go none e = refl
      go (some w) e =
          each_in (λ (v : Word). v.1 (take 8 l) ≡ v.1 l) words
          (take-merge, (take-rollback, (take_range, (take-alone of_model, (take-alone of_trees, (take-alone of_log, tt)))))) w
          (first_of-some first words e).1

-- a line read by the fields that have places
pub request-read : (calls : List ℕ) (p : Part) (f : Fields) → Splits calls (fields p) f → by_word (fields_of calls f) ≡ read_request p
unfolding read_request
request-read calls p f w = ap by_word w.is ∙ by-word-take (fields p)
