-- Document 01, "What each operation refuses": merge, range and rollback of a state. Refusal 0 speaks of the lent tables, and load is
-- with the deck. Assumes nothing.
use Rattle.std.specs.Prelude.{Bool, true, false, ℕ, suc, ◌-◌, ltb, length, take}
use Rattle.std.proofs.Math.Option.{none, some}
use Rattle.tables.specs.FileSets.{loaded_files, waiting_tree}
use Rattle.tables.specs.Limits.{depth_limit, version_limit}
use Rattle.tables.specs.Lists.{keep}
use Rattle.tables.specs.Records.{Element, Name, FileNumber, Version, Tree, Entry, import, restriction, extension, Log, State, Fixed, root, type_row, type_of}
use Rattle.deck.specs.Schema.{is_characters}
use Rattle.merge_rules.specs.Level.{merge_element}
use Rattle.merge_rules.specs.Log.{extend, rollback_merge, is_mark}
use Rattle.merge_rules.specs.Range.{Range, places, no_row, conflicting, calc_element_insert_range}
use Rattle.merge_rules.specs.Refusals.{Refusal, not_waiting, unmergeable, not_in_version, no_such_element, characters_parent, no_place, no_mark, Outcome, done, conflict, refused, ◌>>=◌}

-- ---- merge

-- Merge's result carries its three counts,
pub record Counts : Type 0 where
  pub imports : ℕ
  pub restrictions : ℕ
  pub extensions : ℕ

unfoldable pub is_import : Entry → Bool
is_import (import e p old_parent old_set) = true
is_import (restriction e old_set) = false
is_import (extension e f) = false

unfoldable pub is_restriction : Entry → Bool
is_restriction (import e p old_parent old_set) = false
is_restriction (restriction e old_set) = true
is_restriction (extension e f) = false

unfoldable pub is_extension : Entry → Bool
is_extension (import e p old_parent old_set) = false
is_extension (restriction e old_set) = false
is_extension (extension e f) = true

-- those of the entries
unfoldable pub counts_of : Log → Counts
counts_of l =
    record { imports = length (keep is_import l); restrictions = length (keep is_restriction l); extensions = length (keep is_extension l) }

-- it left above its mark
unfoldable pub entries_above : ℕ → Log → Log
entries_above mark l = take (length l - mark) l

pub data MergeAnswer : Type 0 where
  merged : Counts → MergeAnswer
  merge_refused : Refusal → MergeAnswer

pub record Merged : Type 0 where
  pub answer : MergeAnswer
  pub state : State

-- At the root a conflict becomes 6. The state before the call is restored.
unfoldable pub merged_from : State → Outcome → Merged
merged_from s (done t) = record { answer = merged (counts_of (entries_above (length s.log) t.log)); state = t }
merged_from s (conflict e t) = record { answer = merge_refused (unmergeable e); state = s }
merged_from s (refused r) = record { answer = merge_refused r; state = s }

-- Level (its files at the root: the root's set). An accepted merge ends with the root's extension.
unfoldable pub merge_tree : Fixed → Tree → State → Outcome
merge_tree x t s =
    merge_element (suc depth_limit) x t.file (loaded_files s.model) root t.root s >>= extend root t.file

-- Merge(file): 5 no tree of that file waits, before any walk. Then as the walk meets them.
unfoldable pub merge : Fixed → FileNumber → State → Merged
merge x f s =
    elim (waiting_tree x s.model f) [
      | none ↦ record { answer = merge_refused not_waiting; state = s }
      | some t ↦ merged_from s (merge_tree x t s)
    ]

-- ---- range

pub data RangeAnswer : Type 0 where
  range_is : ℕ → ℕ → RangeAnswer
  range_refused : Refusal → RangeAnswer

-- 7 with the element and name; 13 conflict; 12 and 13 with the element
unfoldable pub range_answer : Element → Name → Range → RangeAnswer
range_answer e n (places first last) = range_is first last
range_answer e n no_row = range_refused (not_in_version e n)
range_answer e n conflicting = range_refused (no_place e)

-- Range(element, name, version): 11 no such element or version over 31; 12 characters parent; Nothing is written.
unfoldable pub range : Fixed → Element → Name → Version → State → RangeAnswer
range x e n v s =
    elim (ltb e (length x.elements.names)) [
      | true ↦
          elim (ltb v version_limit) [
            | true ↦
                elim (is_characters (type_row x.schema (type_of x e)).mode) [
                  | true ↦ range_refused (characters_parent e)
                  | false ↦ range_answer e n (calc_element_insert_range x s.model e n v)
                ]
            | false ↦ range_refused no_such_element
          ]
      | false ↦ range_refused no_such_element
    ]

-- ---- rollback

pub data RollbackAnswer : Type 0 where
  taken_off : ℕ → RollbackAnswer
  rollback_refused : Refusal → RollbackAnswer

pub record RolledBack : Type 0 where
  pub answer : RollbackAnswer
  pub state : State

-- Rollback(mark): 14 if above the length, or not 0 and the entry below it is no root extension. Nothing is written.
-- Its result carries the number of entries taken off.
unfoldable pub rollback : ℕ → State → RolledBack
rollback mark s =
    elim (is_mark mark s.log) [
      | true ↦ record { answer = taken_off (length s.log - mark); state = rollback_merge mark s }
      | false ↦ record { answer = rollback_refused no_mark; state = s }
    ]
