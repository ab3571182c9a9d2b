-- Document 01, "What each operation refuses": the calls with a lent answer, which is a lent table of four numbers. Assumes nothing.
use Rattle.std.specs.Prelude.{List, ℕ}
use Rattle.tables.specs.Records.{Element, Name, FileNumber, Version}
use Rattle.load.specs.LoadCall.{Tables, zeros, zeroed, load_call}
use Rattle.merge_rules.specs.TableCalls.{merge_call, range_call, rollback_call}
use Rattle.answer_numbers.specs.Numbers.{Numbered, by_answer, refused_by0, load_numbers, merge_numbers, range_numbers, rollback_numbers, mark_numbers}

-- ---- load

pub record LoadLeft : Type 0 where
  pub answer : Numbered
  pub tables : Tables

-- All lent tables become zero (for 0 too, line 0).
unfoldable pub numbered_load : List ℕ → Tables → List ℕ → LoadLeft
numbered_load deck t answer =
    let r = load_call deck t in
    by_answer answer (record { answer = load_numbers r.answer; tables = r.tables })
    (record { answer = refused_by0 (zeros answer); tables = zeroed t })

-- ---- merge and rollback

-- schema and elements stay
pub record CallLeft : Type 0 where
  pub answer : Numbered
  pub model : List ℕ
  pub log : List ℕ

unfoldable pub numbered_merge : List ℕ → List ℕ → List ℕ → List ℕ → List ℕ → FileNumber → List ℕ → CallLeft
numbered_merge deck schema elements model log file answer =
    let r = merge_call deck schema elements model log file in
    by_answer answer (record { answer = merge_numbers r.answer; model = r.model; log = r.log })
    (record { answer = refused_by0 answer; model = model; log = log })

unfoldable pub numbered_rollback : List ℕ → List ℕ → List ℕ → List ℕ → List ℕ → ℕ → List ℕ → CallLeft
numbered_rollback deck schema elements model log mark answer =
    let r = rollback_call deck schema elements model log mark in
    by_answer answer (record { answer = rollback_numbers r.answer; model = r.model; log = r.log })
    (record { answer = refused_by0 answer; model = model; log = log })

-- ---- range and mark: every table stays

unfoldable pub numbered_range : List ℕ → List ℕ → List ℕ → List ℕ → List ℕ → Element → Name → Version → List ℕ → Numbered
numbered_range deck schema elements model log e name v answer =
    by_answer answer (range_numbers (range_call deck schema elements model log e name v)) (refused_by0 answer)

unfoldable pub numbered_mark : List ℕ → List ℕ → List ℕ → List ℕ → List ℕ → List ℕ → Numbered
numbered_mark deck schema elements model log answer = by_answer answer (mark_numbers deck schema elements model log) (refused_by0 answer)
