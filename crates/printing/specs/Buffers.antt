-- A part of a text in a lent buffer, written from its start: so many bytes of the text are passed over first, and what does not fit is left out.
-- Assumes nothing.
use Rattle.std.specs.Prelude.{Bool, ◌&&◌, List, [], ◌++◌, ◌≡◌, ℕ, zero, suc, ◌+◌, ◌-◌, min, eqb, leb, length, take, drop}
use Rattle.std.proofs.Math.Seq.{paste}
use Rattle.printing.specs.declared.buffer.Written as program

-- what the buffer holds, how many bytes of the text are still to be passed over, and the count of bytes written from its start
pub record Buffer : Type 0 where
  pub held : List ℕ
  pub skip : ℕ
  pub count : ℕ

abbrev pub buffer_is : program.Written → List ℕ → Buffer
buffer_is w xs = record { held = xs; skip = w.skip; count = w.count }

-- the text without the bytes passed over, behind what is written, as far as there is room; the bytes behind it are unchanged
unfoldable pub appended : Buffer → List ℕ → Buffer
appended b text =
    let rest = drop b.skip text in
    let n = min (length rest) (length b.held - b.count) in
    record { held = paste b.held b.count rest n; skip = b.skip - length text; count = b.count + n }

-- nothing is to be passed over any more, and there is no room: whatever the text, the buffer stays
unfoldable pub is_full : Buffer → Bool
is_full b = eqb b.skip 0 && leb (length b.held) b.count

-- what a call that appends a text leaves: the whole buffer, and what its answer counts
pub record Appends (before : Buffer) (text : List ℕ) (after : Buffer) : Type 0 where
  pub is : after ≡ appended before text

-- ---- a part of a text

-- the count of bytes that a call printed, and the whole buffer
pub record Printed : Type 0 where
  pub count : ℕ
  pub buffer : List ℕ

-- the text from this byte on, as much of it as there is room for, at the buffer's start; the bytes behind it are unchanged
unfoldable pub print_from : List ℕ → ℕ → List ℕ → Printed
print_from text from buffer =
    let n = min (length text - from) (length buffer) in
    record { count = n; buffer = take n (drop from text) ++ drop n buffer }

-- what n calls in turn print in one buffer, each from the byte where the call before it ended
unfoldable pub parts_from : ℕ → List ℕ → ℕ → List ℕ → List ℕ
parts_from zero text from buffer = []
parts_from (suc n) text from buffer =
    let part = print_from text from buffer in
    take part.count part.buffer ++ parts_from n text (from + part.count) part.buffer
