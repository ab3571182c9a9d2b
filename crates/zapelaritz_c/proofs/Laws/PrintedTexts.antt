-- Laws of the texts printed of lent tables. Assumes nothing.
use mathlib.Core.Bool.{true, false}
use mathlib.Core.List.{List}
use mathlib.Core.Path.{◌≡◌, ap, ◌∙◌}
use Prim.Native.Nat.{ℕ, min, ◌-◌}
use native.Mathlib.Omega.{arith}
use lib.ListN.{length}
use Rattle.tables.specs.Records.{Fixed, State}
use Rattle.state_test.specs.StateTest.{lent_tables_pass, fixed_in, state_in}
use Rattle.printing.specs.Buffers.{Buffer, Appends, Printed, print_from}
use Rattle.printing.proofs.Laws.Parts.{starts}
use Rattle.output.proofs.Laws.Runs.{shows}
use Rattle.answer_numbers.specs.Numbers.{Numbered, accept, refuse}
use Rattle.zapelaritz_c.specs.PrintedTexts.{PrintLeft, printed_text}

-- nothing is printed where there is no room
pub no_room : (text : List ℕ) (from : ℕ) (buffer : List ℕ) → length buffer ≡ 0
    → ◌≡◌ {A = Printed} (record { count = 0; buffer = buffer }) (print_from text from buffer)
unfolding print_from
no_room text from buffer h =
    let z : min (length text - from) (length buffer) ≡ 0 = omega arith in
    rw (print_from, z)

module _ (text : Fixed → State → List ℕ) (deck schema elements model log : List ℕ) (from : ℕ) (buffer : List ℕ) where
  pub print-bad : {n : Numbered} → lent_tables_pass deck schema elements model log ≡ false → n ≡ refuse 0 0 0
      → ◌≡◌ {A = PrintLeft} (record { answer = n; buffer = buffer }) (printed_text text deck schema elements model log from buffer)
  unfolding printed_text
  print-bad bad f = rw (bad, printed_text) (λ i. record { answer = f i; buffer = buffer })

  module _ (pass : lent_tables_pass deck schema elements model log ≡ true) where
    abbrev whole : List ℕ
    whole = text (fixed_in deck schema elements) (state_in model log)

    pub print-good : {n : Numbered} {p : Printed} → n ≡ accept p.count 0 0 0 → p ≡ print_from whole from buffer
        → ◌≡◌ {A = PrintLeft} (record { answer = n; buffer = p.buffer }) (printed_text text deck schema elements model log from buffer)
    unfolding printed_text
    print-good f e =
        let g = f ∙ ap (λ (p : Printed). accept p.count 0 0 0) e in
        rw (pass, printed_text) (λ i. record { answer = g i; buffer = (e i).buffer })

    -- what is appended to a buffer in which nothing is written
    pub print-appended : {n : Numbered} {after : Buffer} → Appends (record { held = buffer; skip = from; count = 0 }) whole after
        → n ≡ accept after.count 0 0 0
        → ◌≡◌ {A = PrintLeft} (record { answer = n; buffer = after.held }) (printed_text text deck schema elements model log from buffer)
    print-appended p f = print-good f ((shows p).is ∙ starts buffer from whole)
