-- Laws of a text printed in parts: a part is what a buffer holds behind its empty start, and the parts together are the text. Assumes nothing.
use mathlib.Core.List.{List, ◌++◌}
use mathlib.Core.Path.{◌≡◌, refl, ◌∙◌}
use Prim.Native.Nat.{ℕ, zero, suc, ◌+◌, ◌-◌, ◌*◌, ◌≤◌, ◌<◌, min}
use native.Mathlib.Nat.{zero-add}
use native.Mathlib.Omega.{arith}
use lib.ListN.{length, take, drop, length-append, length-take, length-drop, drop_of_length-le}
use lib.Seq.{take_all, take-length, drop-length, take_at, take-add, drop-drop, length-take-le}
use Rattle.printing.specs.Buffers.{appended, Printed, print_from, parts_from}

-- ---- one part

-- a text appended to a buffer in which nothing is written
pub starts : (xs : List ℕ) (from : ℕ) (text : List ℕ)
    → (let b = appended (record { held = xs; skip = from; count = 0 }) text in
    ◌≡◌ {A = Printed} (record { count = b.count; buffer = b.held }) (print_from text from xs))
unfolding appended print_from
starts xs from text =
    let z : length xs - 0 ≡ length xs = omega arith in
    rw (print_from, length-drop from text, z, zero-add (min (length text - from) (length xs)))

-- beyond a list's length, a count takes or drops no more
no_more : (l : List ℕ) (k : ℕ) → (take (min (length l) k) l ≡ take k l) × (drop (min (length l) k) l ≡ drop k l)
no_more l k = by-rest (length l - k) refl
  where
    by-rest : (r : ℕ) → length l - k ≡ r → (take (min (length l) k) l ≡ take k l) × (drop (min (length l) k) l ≡ drop k l)
    by-rest zero e =
        let m : min (length l) k ≡ length l = omega arith in
        let h : length l ≤ k = omega arith in
        (rw (m, take_all k l h, take-length l), rw (m, drop_of_length-le l {i = k} h, drop-length l))
    by-rest (suc r) e = let m : min (length l) k ≡ k = omega arith in (rw m, rw m)

module _ (text : List ℕ) (from : ℕ) (buffer : List ℕ) where
  part_bytes : take (print_from text from buffer).count (print_from text from buffer).buffer ≡ take (length buffer) (drop from text)
  unfolding print_from
  part_bytes =
      let l = drop from text in
      let n = min (length l) (length buffer) in
      rw (← length-drop from text) (take_at (take n l) (drop n buffer) n (length-take-le n l (omega arith)) ∙ (no_more l (length buffer)).0)

  part-rest : drop (from + (print_from text from buffer).count) text ≡ drop (length buffer) (drop from text)
  unfolding print_from
  part-rest =
      rw (← drop-drop (min (length text - from) (length buffer)) from text, ← length-drop from text) (no_more (drop from text) (length buffer)).1

  part_length : length (print_from text from buffer).buffer ≡ length buffer
  unfolding print_from
  part_length = simp (length-append, length-take, length-drop) (omega arith)

  -- a part that leaves room is the last
  pub last-part : (print_from text from buffer).count < length buffer → length text ≤ from + (print_from text from buffer).count
  unfolding print_from
  last-part h = omega arith

-- ---- the parts together

pub parts-take : (n : ℕ) (text : List ℕ) (from : ℕ) (buffer : List ℕ) → parts_from n text from buffer ≡ take (n * length buffer) (drop from text)
unfolding parts_from
parts-take zero text from buffer = let z : zero * length buffer ≡ 0 = omega arith in rw z
parts-take (suc n) text from buffer =
    let k = length buffer in
    let part = print_from text from buffer in
    let s : suc n * k ≡ k + n * k = omega arith in
    let rest : parts_from n text (from + part.count) part.buffer ≡ take (n * k) (drop k (drop from text)) =
    parts-take n text (from + part.count) part.buffer ∙ rw (part_length text from buffer, part-rest text from buffer)
    in
    rw (s, take-add k (n * k) (drop from text)) (λ i. part_bytes text from buffer i ++ rest i)

pub parts_whole : (n : ℕ) (text buffer : List ℕ) → length text ≤ n * length buffer → parts_from n text 0 buffer ≡ text
parts_whole n text buffer h = parts-take n text 0 buffer ∙ take_all (n * length buffer) text h
