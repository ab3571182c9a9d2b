-- What a request of the code stands for in the rules. Assumes nothing.
use Rattle.std.specs.Prelude.{Option as OptionOf, Some, None}
use Rattle.std.specs.Prelude.{List, ℕ, eqb, length}
use Rattle.std.proofs.Math.Option.{Option, none, some, bind}
use Rattle.deck.specs.Deck.{Part, field, only}
use Rattle.merge_rules.specs.Book.{call_merge, call_rollback, call_range}
use Rattle.merge_rules.specs.CallLists as rules
use Rattle.merge_rules.specs.CallLists.{word_field, of_call, of_model, of_trees, of_log}
use Rattle.requests.specs.declared.requests.Request.{Request}
use Rattle.requests.specs.declared.requests.Request.TheVariants.{Merge, Rollback, Range, Model, Trees, Log}

abbrev pub request_is : OptionOf Request → Option rules.Request
request_is (Some (Merge f)) = some (of_call (call_merge f))
request_is (Some (Rollback mark)) = some (of_call (call_rollback mark))
request_is (Some (Range e n v)) = some (of_call (call_range e n v))
request_is (Some Model) = some of_model
request_is (Some Trees) = some of_trees
request_is (Some Log) = some of_log
request_is None = none

-- the number of a line of a word and a number
unfoldable pub only_number : List Part → Option ℕ
only_number l = bind (word_field (field l 1)) (λ (n : ℕ). only (eqb (length l) 2) n)
