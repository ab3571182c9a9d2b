-- What lent tables say, printed in parts, with a lent answer. Assumes nothing.
use Rattle.std.specs.Prelude.{true, false, List, ℕ}
use Rattle.tables.specs.Records.{Fixed, State}
use Rattle.state_test.specs.StateTest.{lent_tables_pass, fixed_in, state_in}
use Rattle.merge_rules.specs.CallLists.{log_lines}
use Rattle.merge_rules.specs.DeckLines.{trees_lines}
use Rattle.merge_rules.specs.Program.{model_lines}
use Rattle.printing.specs.Buffers.{print_from}
use Rattle.answer_numbers.specs.Numbers.{Numbered, by_answer, refused_by0, accept, refuse}
use Rattle.zapelaritz_c.specs.declared.print.Listing.{Listing}
use Rattle.zapelaritz_c.specs.declared.print.Listing.TheVariants.{Model, Trees, Log}

-- ---- the texts

abbrev pub model_text : Fixed → State → List ℕ
model_text x s = model_lines x s.model

abbrev pub trees_text : Fixed → State → List ℕ
trees_text x s = trees_lines x s.model

abbrev pub log_text : Fixed → State → List ℕ
log_text x s = log_lines s.log

abbrev pub listing_is : Listing → Fixed → State → List ℕ
listing_is Model = model_text
listing_is Trees = trees_text
listing_is Log = log_text

-- ---- the calls

pub record PrintLeft : Type 0 where
  pub answer : Numbered
  pub buffer : List ℕ

-- the count of bytes written
unfoldable pub printed_text : (Fixed → State → List ℕ) → List ℕ → List ℕ → List ℕ → List ℕ → List ℕ → ℕ → List ℕ → PrintLeft
printed_text text deck schema elements model log from buffer =
    elim (lent_tables_pass deck schema elements model log) [
      | true ↦
          let p = print_from (text (fixed_in deck schema elements) (state_in model log)) from buffer in
          record { answer = accept p.count 0 0 0; buffer = p.buffer }
      | false ↦ record { answer = refuse 0 0 0; buffer = buffer }
    ]

unfoldable pub numbered_text : (Fixed → State → List ℕ) → List ℕ → List ℕ → List ℕ → List ℕ → List ℕ → ℕ → List ℕ → List ℕ → PrintLeft
numbered_text text deck schema elements model log from buffer answer =
    by_answer answer (printed_text text deck schema elements model log from buffer) (record { answer = refused_by0 answer; buffer = buffer })
