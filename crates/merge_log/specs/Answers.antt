-- What the answers of the code stand for in the rules, where `refusal_fields` gives number, element and name of each refusal.
-- Assumes nothing.
use Rattle.std.specs.Prelude.{Result, Ok, Err}
use Rattle.tables.specs.Records.{State}
use Rattle.merge_rules.specs.Refusals.{Refusal, not_waiting, unmergeable, not_in_version, used_twice, log_full, content_full, no_such_element, characters_parent, no_place, no_mark, Outcome, done, conflict, refused}
use Rattle.merge_log.specs.declared.refusals.Refusal as program
use Rattle.merge_log.specs.declared.refusals.Refusal.TheVariants.{NotWaiting, Unmergeable, NotInVersion, UsedTwice, LogFull, ContentFull, NoSuchElement, CharactersParent, NoPlace, NoMark}
use Rattle.merge_log.specs.declared.refusals.Halt.{Halt}
use Rattle.merge_log.specs.declared.refusals.Halt.TheVariants.{Conflict, Refused}

abbrev pub refusal_is : program.Refusal → Refusal
refusal_is NotWaiting = not_waiting
refusal_is (Unmergeable e) = unmergeable e.0
refusal_is (NotInVersion e n) = not_in_version e.0 n.0
refusal_is (UsedTwice e) = used_twice e.0
refusal_is LogFull = log_full
refusal_is ContentFull = content_full
refusal_is NoSuchElement = no_such_element
refusal_is (CharactersParent e) = characters_parent e.0
refusal_is (NoPlace e) = no_place e.0
refusal_is NoMark = no_mark

-- a step's answer, with the state that it left; a refusal brings none
abbrev pub outcome_is : Result (Unit {0}) Halt → State → Outcome
outcome_is (Ok d) s = done s
outcome_is (Err (Conflict e)) s = conflict e.0 s
outcome_is (Err (Refused r)) s = refused (refusal_is r)
