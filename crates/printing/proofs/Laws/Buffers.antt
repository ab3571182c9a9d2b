-- Laws of a text in a lent buffer: a byte, one text behind another, and a text in several turns. Assumes nothing.
use mathlib.Core.Bool.{true, and-eq-true_iff}
use mathlib.Core.List.{List, [], ◌∷◌, ◌++◌}
use mathlib.Core.Path.{◌≡◌, refl, sym, ap, ◌∙◌}
use Prim.Native.Nat.{ℕ, zero, suc, ◌+◌, ◌-◌, ◌≤◌, ◌<◌, min}
use native.Mathlib.Nat.{add-zero, sub-zero, suc-sub-suc, suc-min-suc}
use native.Mathlib.Numerals.{add-one}
use native.Mathlib.Omega.{arith}
use borrow.Author.Tests.{eqb-true, leb-true}
use lib.Dec.{eqb, leb}
use lib.ListN.{length, get_or, take, drop, set, length-set, drop_of_length-le}
use lib.Seq.{paste-zero, length-paste, take-suc-set, drop-set-lt, drop-nil, append_snoc, drop-cons}
use Rattle.printing.specs.Buffers.{Buffer, appended, is_full, Appends}

equal : {xs ys : List ℕ} {j k m n : ℕ} → xs ≡ ys → j ≡ k → m ≡ n
    → ◌≡◌ {A = Buffer} (record { held = xs; skip = j; count = m }) (record { held = ys; skip = k; count = n })
equal p q r = λ i. record { held = p i; skip = q i; count = r i }

-- ---- a text of which nothing is written

-- the bytes of the text are passed over or left out
abbrev without : Buffer → List ℕ → Buffer
without b t = record { held = b.held; skip = b.skip - length t; count = b.count }

unwritten : (b : Buffer) (t : List ℕ) → min (length (drop b.skip t)) (length b.held - b.count) ≡ 0 → without b t ≡ appended b t
unfolding appended
unwritten b t e = rw e (equal (paste-zero b.held b.count (drop b.skip t)) refl (sym (add-zero b.count)))

appended_nothing : (b : Buffer) → b ≡ appended b []
appended_nothing b =
    equal refl (sym (sub-zero b.skip)) refl ∙ unwritten b [] (rw (drop-nil {A = ℕ} b.skip) (omega arith))

full : (b : Buffer) (t : List ℕ) → length b.held ≤ b.count → without b t ≡ appended b t
full b t h = unwritten b t (omega arith)

-- a full buffer is unchanged
pub full-stays : (b : Buffer) (text : List ℕ) → length b.held ≤ b.count → ((appended b text).held ≡ b.held) × ((appended b text).count ≡ b.count)
full-stays b text h = let e = full b text h in (sym (ap (λ (a : Buffer). a.held) e), sym (ap (λ (a : Buffer). a.count) e))

-- and where nothing is to be passed over, so is what is counted
pub left_out : (b : Buffer) (t : List ℕ) → b.skip ≡ 0 → length b.held ≤ b.count → Appends b t b
left_out b t z h = record { is = equal refl (omega arith) refl ∙ full b t h }

pub full-left-out : (b : Buffer) (t : List ℕ) → is_full b ≡ true → Appends b t b
unfolding is_full
full-left-out b t e =
    let (z, h) = (and-eq-true_iff (eqb b.skip 0) (leb (length b.held) b.count)).0 e in
    left_out b t (eqb-true b.skip 0 z) (leb-true (length b.held) b.count h)

-- ---- a byte before a text

-- the byte is passed over
abbrev past : Buffer → Buffer
past b = record { held = b.held; skip = b.skip - 1; count = b.count }

-- the byte is written
abbrev with_byte : Buffer → ℕ → Buffer
with_byte b x = record { held = set b.held b.count x; skip = 0; count = b.count + 1 }

module _ (b : Buffer) (x : ℕ) (t : List ℕ) where
  byte_past : (b.skip ≡ 0 → ⊥) → appended (past b) t ≡ appended b (x ∷ t)
  unfolding appended
  byte_past h =
      let e : suc (b.skip - 1) ≡ b.skip = omega arith in
      equal refl (sym (suc-sub-suc (b.skip - 1) (length t))) refl
      ∙ ap (λ (k : ℕ). appended (record { held = b.held; skip = k; count = b.count }) (x ∷ t)) e

  byte-out : b.skip ≡ 0 → length b.held ≤ b.count → appended b t ≡ appended b (x ∷ t)
  byte-out z h = sym (left_out b t z h).is ∙ (left_out b (x ∷ t) z h).is

  byte-first : b.skip ≡ 0 → b.count < length b.held → appended (with_byte b x) t ≡ appended b (x ∷ t)
  unfolding appended
  byte-first z h =
      let xs = b.held in
      let at = b.count in
      let r = length xs - suc at in
      let e : length xs - at ≡ suc r = omega arith in
      let m = min (length t) r in
      let k : suc at + m ≡ at + suc m = omega arith in
      let g : take (suc at) (set xs at x) ++ take m t ++ drop (suc at + m) (set xs at x) ≡ take at xs ++ (x ∷ take m t) ++ drop (at + suc m) xs =
      rw (take-suc-set xs at x h, drop-set-lt (suc at + m) xs at x (omega arith), k)
      (ap (λ (l : List ℕ). l ++ drop (at + suc m) xs) (append_snoc (take at xs) x (take m t)))
      in
      rw (z, add-one at, length-set xs at x, e, suc-min-suc (length t) r) (equal g (omega arith) k)

-- what the code does with a byte
module _ (b : Buffer) (x : ℕ) where
  pub byte-passed : (b.skip ≡ 0 → ⊥) → Appends b (x ∷ []) (past b)
  byte-passed h = record { is = appended_nothing (past b) ∙ byte_past b x [] h }

  pub byte-written : b.skip ≡ 0 → b.count < length b.held → Appends b (x ∷ []) (with_byte b x)
  byte-written z h = record { is = appended_nothing (with_byte b x) ∙ byte-first b x [] z h }

-- ---- the length

appended-length : (b : Buffer) (t : List ℕ) → length (appended b t).held ≡ length b.held
unfolding appended
appended-length b t = by-room (length b.held - b.count) refl
  where
    by-room : (r : ℕ) → length b.held - b.count ≡ r → length (appended b t).held ≡ length b.held
    by-room zero e = ap length (full-stays b t (omega arith)).0
    by-room (suc r) e =
        let rest = drop b.skip t in
        length-paste b.held b.count rest (min (length rest) (length b.held - b.count)) (omega arith) (omega arith)

-- ---- one text behind another

-- the buffer behind the first byte of a text
first : (b : Buffer) (x : ℕ) → (a : Buffer) × ((t : List ℕ) → appended a t ≡ appended b (x ∷ t))
first b x = by_place b.skip (length b.held - b.count) refl refl
  where
    by_place : (k r : ℕ) → b.skip ≡ k → length b.held - b.count ≡ r → (a : Buffer) × ((t : List ℕ) → appended a t ≡ appended b (x ∷ t))
    by_place (suc k) r z e = (past b, λ t. byte_past b x t (λ n. omega arith))
    by_place zero zero z e = (b, λ t. byte-out b x t z (omega arith))
    by_place zero (suc r) z e = (with_byte b x, λ t. byte-first b x t z (omega arith))

appended-both : (b : Buffer) (s t : List ℕ) → appended (appended b s) t ≡ appended b (s ++ t)
appended-both b [] t = ap (λ (a : Buffer). appended a t) (sym (appended_nothing b))
appended-both b (x ∷ s) t =
    let f = first b x in
    ap (λ (a : Buffer). appended a t) (sym (f.1 s)) ∙ appended-both f.0 s t ∙ f.1 (s ++ t)

module _ {a b c : Buffer} {s t : List ℕ} where
  pub then : Appends a s b → Appends b t c → Appends a (s ++ t) c
  then p q = record { is = q.is ∙ ap (λ (o : Buffer). appended o t) p.is ∙ appended-both a s t }

-- the same text, written in another way
pub reads : {a b : Buffer} {s t : List ℕ} → s ≡ t → Appends a s b → Appends a t b
reads {a} e p = record { is = p.is ∙ ap (appended a) e }

pub nothing : (b : Buffer) → Appends b [] b
nothing b = record { is = appended_nothing b }

-- ---- a text in several turns

-- the rest, behind what is written now, gives what the whole text gives behind what was written at first
pub record Leaves (start : Buffer) (text : List ℕ) (now : Buffer) (rest : List ℕ) : Type 0 where
  pub is : appended now rest ≡ appended start text

pub begin : (b : Buffer) (text : List ℕ) → Leaves b text b text
begin b text = record { is = refl }

module _ {start now : Buffer} {text : List ℕ} where
  pub turn : {b : Buffer} {t rest : List ℕ} → Leaves start text now (t ++ rest) → Appends now t b → Leaves start text b rest
  turn {b} {t} {rest} l p = record { is = ap (λ (o : Buffer). appended o rest) p.is ∙ appended-both now t rest ∙ l.is }

  -- the rest, written in another way
  pub rests : {t u : List ℕ} → t ≡ u → Leaves start text now t → Leaves start text now u
  rests e l = record { is = sym (ap (appended now) e) ∙ l.is }

  pub finish : Leaves start text now [] → Appends start text now
  finish l = record { is = appended_nothing now ∙ l.is }

  pub as_long : {rest : List ℕ} → Leaves start text now rest → length now.held ≡ length start.held
  as_long {rest} l = sym (appended-length now rest) ∙ ap (λ (o : Buffer). length o.held) l.is ∙ appended-length start text

-- ---- the text of a list, one thing of it in a turn

module _ {A : Type 0} (text : List A → List ℕ) (l : List A) (i : ℕ) {start now : Buffer} {whole : List ℕ} where
  pub list-turn : (d : A) {b : Buffer} {t : List ℕ} → i < length l → text (get_or l i d ∷ drop (i + 1) l) ≡ t ++ text (drop (i + 1) l)
      → Leaves start whole now (text (drop i l)) → Appends now t b → Leaves start whole b (text (drop (i + 1) l))
  list-turn d h e v p = turn (rests (ap text (rw (add-one i) (drop-cons l i d h)) ∙ e) v) p

  pub list-end : length l ≤ i → text [] ≡ [] → Leaves start whole now (text (drop i l)) → Appends start whole now
  list-end h e v = finish (rests (ap text (drop_of_length-le l {i = i} h) ∙ e) v)
