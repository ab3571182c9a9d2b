-- Rows of what demand 3 is told by: whether a call was refused 0, and whether an accepted rollback went below the mark. Assumes nothing.
use Rattle.std.specs.Prelude.{Bool, true, false, List, [], ◌∷◌, ◌≡◌}
use Rattle.deck.specs.Load.{load, Load, loaded, refused_at}
use Rattle.load.specs.LoadCall.{Tables, tables_of}
use Rattle.merge_rules.specs.Book.{Call, call_merge, call_rollback, call_range, of_rollback}
use Rattle.merge_rules.specs.Calls.{taken_off}
use Rattle.merge_rules.specs.Stars.{example}
use Rattle.merge_rules.specs.TableCalls.{answered}
use Rattle.merge_rules.specs.TableWithdrawal.{history_on, any_bad_tables}
use Rattle.merge_rules.specs.Withdrawal.{state_after, history, goes_below, mark_of}

-- ---- refused 0

-- lent tables of a wrong size: not one has a cell
abbrev pub no_cells : Tables
no_cells = tables_of [] [] [] []

-- a list of calls on them has one that is refused 0, whichever call it is
abbrev pub RefusedRow : Call → Type 0
RefusedRow c = any_bad_tables (history_on example (c ∷ []) no_cells) ≡ true

-- a call that was answered is none
abbrev pub AnsweredRow : Type 0
AnsweredRow = any_bad_tables (record { asked = call_rollback 0; answer = answered (of_rollback (taken_off 0)) } ∷ []) ≡ false

-- ---- below the mark

-- the calls before the mark and those since, after a load
unfoldable pub goes_below_since : Load → List Call → List Call → Bool
goes_below_since (loaded x s) before since = let m = state_after x before s in goes_below (mark_of m) (history x since m)
goes_below_since (refused_at n line) before since = false

-- on the printed example, whose merge leaves a log of 4
abbrev pub BelowRow : List Call → List Call → Bool → Type 0
BelowRow before since answer = goes_below_since (load example) before since ≡ answer

-- ---- the rows

abbrev pub WithdrawalRows : Type 0
WithdrawalRows =
    RefusedRow (call_merge 1) × RefusedRow (call_rollback 0) × RefusedRow (call_range 0 3 2) × AnsweredRow
    -- a rollback to the mark, 4,
    × BelowRow (call_merge 1 ∷ []) (call_rollback 4 ∷ []) false
    -- above the mark, 0,
    × BelowRow [] (call_merge 1 ∷ call_rollback 4 ∷ []) false
    -- below the mark, 4,
    × BelowRow (call_merge 1 ∷ []) (call_rollback 0 ∷ []) true
    -- and one below it that is refused: 3 ends no merge
    × BelowRow (call_merge 1 ∷ []) (call_rollback 3 ∷ []) false
