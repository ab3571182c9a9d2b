-- Document 01, "What each operation refuses": the refusals of merge, range and rollback with the number, element and name
-- of each, and what a step of a merge gives. Assumes nothing.
use Rattle.std.proofs.Math.Option.{Option, none, some}
use Rattle.std.specs.Prelude.{ℕ}
use Rattle.tables.specs.Records.{Element, Name, State}

pub data Refusal : Type 0 where
  not_waiting : Refusal
  unmergeable : Element → Refusal
  not_in_version : Element → Name → Refusal
  used_twice : Element → Refusal
  log_full : Refusal
  content_full : Refusal
  no_such_element : Refusal
  characters_parent : Element → Refusal
  no_place : Element → Refusal
  no_mark : Refusal

pub record RefusalFields : Type 0 where
  pub number : ℕ
  pub element : Option Element
  pub name : Option Name

abbrev says : ℕ → Option Element → Option Name → RefusalFields
says number element name = record { number = number; element = element; name = name }

unfoldable pub refusal_fields : Refusal → RefusalFields
-- 5 no tree of that file waits
refusal_fields not_waiting = says 5 none none
-- 6 with an element
refusal_fields (unmergeable e) = says 6 (some e) none
-- 7 (name not in the new file's version) with A parent and name
refusal_fields (not_in_version e n) = says 7 (some e) (some n)
-- 8 with the first such B child
refusal_fields (used_twice e) = says 8 (some e) none
-- 9 exactly when a 1,025th log entry is due
refusal_fields log_full = says 9 none none
-- 10 exactly when an import would make a 2,049th content item
refusal_fields content_full = says 10 none none
-- 11 no such element or version over 31
refusal_fields no_such_element = says 11 none none
-- 12 characters parent; 12 and 13 with the element
refusal_fields (characters_parent e) = says 12 (some e) none
-- 13 conflict
refusal_fields (no_place e) = says 13 (some e) none
-- 14 if above the length, or not 0 and the entry below it is no root extension
refusal_fields no_mark = says 14 none none

-- A conflict's element is the one whose list it arose in; it brings the state that it left.
pub data Outcome : Type 0 where
  done : State → Outcome
  conflict : Element → State → Outcome
  refused : Refusal → Outcome

infixl 20 ◌>>=◌
unfoldable pub ◌>>=◌ : Outcome → (State → Outcome) → Outcome
done s >>= f = f s
conflict e s >>= f = conflict e s
refused r >>= f = refused r
