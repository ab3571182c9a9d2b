-- What is printed of a part lies within its buffer. Assumes nothing.
use Rattle.std.proofs.Common.{◌≡◌, ℕ, ◌≤◌, List, length, sym, subst, arith, length-append, length-drop, length-take}
use Rattle.printing.specs.Buffers.{Printed, print_from}

abbrev Within : Printed → Type 0
Within p = p.count ≤ length p.buffer

within : (text : List ℕ) (from : ℕ) (xs : List ℕ) → Within (print_from text from xs)
unfolding print_from
within text from xs = simp (length-append, length-take, length-drop) (omega arith)

pub printed-within : (text : List ℕ) (from : ℕ) (xs : List ℕ) {n : ℕ} {ys : List ℕ} → record { count = n; buffer = ys } ≡ print_from text from xs
    → n ≤ length ys
printed-within text from xs e = subst Within (sym e) (within text from xs)
