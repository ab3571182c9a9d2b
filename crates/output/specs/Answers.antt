-- What is printed of the answers of the code. Assumes nothing.
use Rattle.std.specs.Prelude.{List, [], ◌∷◌, ℕ}
use Rattle.tables.specs.Bytes.{bytes}
use Rattle.tables.specs.Records.{FileNumber, Element, Name, Version}
use Rattle.merge_rules.specs.Calls.{MergeAnswer, RangeAnswer, RollbackAnswer}
use Rattle.merge_rules.specs.CallLists.{rollback_line, range_line}
use Rattle.merge_rules.specs.Program.{decimal_of, or_dash, line_of, answer_line}
use Rattle.merge_rules.specs.Refusals.{Refusal, refusal_fields}
use Rattle.merge_rules.specs.TableCalls.{CallAnswer, bad_tables, answered}
use Rattle.merge_log.specs.Answers.{refusal_is}
use Rattle.merge.specs.declared.calls.CallError.{CallError}
use Rattle.merge.specs.declared.calls.CallError.TheVariants.{BadTables, Refused}

-- the last three fields of a refusal: its number, element and name
unfoldable pub refusal_text : Refusal → List ℕ
refusal_text r = let f = refusal_fields r in line_of (decimal_of f.number ∷ or_dash f.element ∷ or_dash f.name ∷ [])

-- why a call is not done: the last three fields, of refusal 0 too
abbrev pub error_text : CallError → List ℕ
error_text BadTables = line_of (bytes "0" ∷ bytes "-" ∷ bytes "-" ∷ [])
error_text (Refused r) = refusal_text (refusal_is r)

-- the number of a refusal, 0 too
abbrev pub error_number : CallError → ℕ
error_number BadTables = 0
error_number (Refused r) = (refusal_fields (refusal_is r)).number

-- the line of a call's answer; 0 is printed as a refusal without element and name
unfoldable pub merge_text : FileNumber → CallAnswer MergeAnswer → List ℕ
merge_text f bad_tables = line_of (bytes "refused" ∷ decimal_of f ∷ bytes "0" ∷ bytes "-" ∷ bytes "-" ∷ [])
merge_text f (answered a) = answer_line f a

unfoldable pub rollback_text : ℕ → CallAnswer RollbackAnswer → List ℕ
rollback_text mark bad_tables = line_of (bytes "rollback-refused" ∷ decimal_of mark ∷ bytes "0" ∷ [])
rollback_text mark (answered a) = rollback_line mark a

unfoldable pub range_text : Element → Name → Version → CallAnswer RangeAnswer → List ℕ
range_text e n v bad_tables =
    line_of (bytes "range-refused" ∷ decimal_of e ∷ decimal_of n ∷ decimal_of v ∷ bytes "0" ∷ bytes "-" ∷ bytes "-" ∷ [])
range_text e n v (answered a) = range_line e n v a
